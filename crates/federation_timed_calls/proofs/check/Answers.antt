-- `check` meets its contract.
use mathlib.Core.Path.{refl}
use Rattle.call_outcomes.specs.PlainCalls.{count_of, written_for}
use Rattle.call_outcomes.proofs.FederationLaws.{federation_ready}
use Rattle.timed_answers.specs.QuestionLaws.{answered_outcome}
use Rattle.federation_timed_calls.proofs.check.Goals as goal

pub examine-opened-requires : goal.examine-opened-requires
examine-opened-requires c =
    record { work = refl; numbers = refl }

pub returns : goal.returns
unfolding written_for
returns c = answered_outcome federation_ready c.examine-opened.ensures.opening count_of _ c.check.ensures refl _
