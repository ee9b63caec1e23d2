-- `admit_board` meets its contract.
use mathlib.Core.Path.{◌≡◌, sym, ◌∙◌}
use mathlib.Core.Bool.{false}
use Prim.Native.Nat.{◌≤◌}
use native.Mathlib.Omega.{arith}
use lib.ListN.{length}
use Rattle.store_board.specs.Board.{falls, some_from}
use Rattle.call_open.specs.ArgumentLaws.{still_refused, board_many, board_falls, board_rank, board_short, board_admitted}
use Rattle.call_open.specs.PassedLaws.{passed_on}
use Rattle.call_open.proofs.admit_board.Goals.{Else-ranks-gt64, Else-ranks_fall, Else-some_rank_from}
use Rattle.call_open.proofs.admit_board.Goals as goal

-- What the tests that are left say of the ranks.
few : (c : Else-ranks-gt64) → length c.args.ranks.now ≤ 64
few c = omega (arith, c.if-ranks-gt64.false)

in_order : (c : Else-ranks_fall) → falls c.args.ranks.now ≡ false
in_order c = sym c.ranks_fall.ensures ∙ c.if-ranks_fall.false

inside : (c : Else-some_rank_from)
    → some_from c.in_ok-sheet.sheet.n c.args.ranks.now ≡ false
inside c = sym c.some_rank_from.ensures ∙ c.if-some_rank_from.false

pub returns-in_err-sheet : goal.returns-in_err-sheet
returns-in_err-sheet c = passed_on c.from_residual.ensures.1 ∙ still_refused _ c.in_err-sheet.was

pub returns-then-ranks-gt64 : goal.returns-then-ranks-gt64
returns-then-ranks-gt64 c = board_many c.in_ok-sheet.was _ _ c.if-ranks-gt64.true

pub returns-then-ranks_fall : goal.returns-then-ranks_fall
returns-then-ranks_fall c = board_falls c.in_ok-sheet.was _ _ (sym c.ranks_fall.ensures ∙ c.if-ranks_fall.true)

pub some_rank_from-requires : goal.some_rank_from-requires
some_rank_from-requires c = in_order c

pub returns-then-some_rank_from : goal.returns-then-some_rank_from
returns-then-some_rank_from c =
    board_rank c.in_ok-sheet.was _ _ (few (goal.at.returns-then-some_rank_from c).Else-ranks-gt64) (in_order (goal.at.returns-then-some_rank_from c).Else-ranks_fall) (sym c.some_rank_from.ensures ∙ c.if-some_rank_from.true)

pub returns-then-room-ranks : goal.returns-then-room-ranks
returns-then-room-ranks c =
    board_short c.in_ok-sheet.was _ _ (few (goal.at.returns-then-room-ranks c).Else-ranks-gt64) (in_order (goal.at.returns-then-room-ranks c).Else-ranks_fall) (inside (goal.at.returns-then-room-ranks c).Else-some_rank_from) c.if-room-ranks.true

pub returns : goal.returns
returns c =
    board_admitted c.in_ok-sheet.was _ _ (few (goal.at.returns c).Else-ranks-gt64) (in_order (goal.at.returns c).Else-ranks_fall) (inside (goal.at.returns c).Else-some_rank_from) c.if-room-ranks.false
