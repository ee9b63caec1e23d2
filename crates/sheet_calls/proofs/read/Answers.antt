-- `read` meets its contract.
use mathlib.Core.Path.{refl}
use Rattle.call_outcomes.specs.PlainCalls.{read_ranks}
use Rattle.call_outcomes.proofs.ClubsLaws.{clubs_ready}
use Rattle.sheet_answers.specs.QuestionLaws.{readable, asked_outcome}
use Rattle.sheet_calls.proofs.read.Goals as goal

pub examine-opened-requires : goal.examine-opened-requires
examine-opened-requires c = refl

pub read-requires : goal.read-requires
read-requires c = readable clubs_ready c.examine-opened.ensures

pub returns : goal.returns
returns c =
    asked_outcome clubs_ready c.examine-opened.ensures (read_ranks _ _ _) _ _ _ _ c.read.ensures
