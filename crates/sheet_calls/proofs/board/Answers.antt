-- `board` meets its contract.
use mathlib.Core.Path.{refl}
use Rattle.call_outcomes.specs.PlainCalls.{board_of}
use Rattle.call_outcomes.proofs.ClubsLaws.{clubs_ready}
use Rattle.sheet_answers.specs.QuestionLaws.{readable, asked_outcome}
use Rattle.sheet_calls.proofs.board.Goals as goal

pub examine-opened-requires : goal.examine-opened-requires
examine-opened-requires c = refl

pub board-requires : goal.board-requires
board-requires c = readable clubs_ready c.examine-opened.ensures

pub returns : goal.returns
returns c =
    asked_outcome clubs_ready c.examine-opened.ensures (board_of _ _) _ _ _ _ c.board.ensures
