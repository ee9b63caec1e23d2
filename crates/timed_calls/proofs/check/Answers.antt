-- `check` meets its contract.
use mathlib.Core.Path.{refl}
use Rattle.call_outcomes.specs.PlainCalls.{count_of, written_for}
use Rattle.timed_answers.specs.QuestionLaws.{answered_outcome}
use Rattle.call_outcomes.proofs.ClubsLaws.{clubs_ready}
use Rattle.timed_calls.proofs.check.Goals as goal

pub returns : goal.returns
unfolding written_for
returns c = answered_outcome clubs_ready c.examine-opened.ensures count_of _ c.check.ensures refl _
