-- `board` meets its contract.
use mathlib.Core.Path.{refl}
use Rattle.call_outcomes.specs.PlainCalls.{board_of}
use Rattle.call_outcomes.proofs.FederationLaws.{federation_ready}
use Rattle.timed_answers.specs.QuestionLaws.{readable, asked_outcome}
use Rattle.federation_timed_calls.proofs.board.Goals as goal

pub examine-opened-requires : goal.examine-opened-requires
examine-opened-requires c =
    record { work = refl; numbers = refl }

pub board-requires : goal.board-requires
board-requires c = readable federation_ready c.examine-opened.ensures.opening

pub returns : goal.returns
returns c =
    asked_outcome federation_ready c.examine-opened.ensures.opening (board_of _ _) _ _ _ _ c.board.ensures
