-- `read` meets its contract.
use Rattle.call_outcomes.specs.PlainCalls.{read_ranks}
use Rattle.timed_answers.specs.QuestionLaws.{readable, asked_outcome}
use Rattle.call_outcomes.proofs.ClubsLaws.{clubs_ready}
use Rattle.timed_calls.proofs.read.Goals as goal

pub read-requires : goal.read-requires
read-requires c = readable clubs_ready c.examine-opened.ensures

pub returns : goal.returns
returns c =
    asked_outcome clubs_ready c.examine-opened.ensures (read_ranks _ _ _) _ _ _ _ c.read.ensures
