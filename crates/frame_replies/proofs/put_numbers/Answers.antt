-- `put_numbers` meets its contract.
use Prim.Native.Nat.{◌+◌}
use native.Mathlib.Omega.{arith}
use Rattle.frame_replies.specs.DigitLaws.{length_digits}
use Rattle.frame_replies.specs.WroteLaws.{wrote_room, writing_start, writing_next, writing_last}
use Rattle.frame_replies.proofs.put_numbers.Goals as goal

pub put_digits-q-requires : goal.put_digits-q-requires
put_digits-q-requires c = wrote_room c.put_digits-p.ensures _ _ (length_digits _ _) (omega arith)

pub put_digits-requires : goal.put_digits-requires
put_digits-requires c =
    let w = c.args.w in
    wrote_room c.put_digits-q.ensures w 4 (length_digits w _)
    (wrote_room c.put_digits-p.ensures _ (w + 4) (length_digits _ _) (omega arith))

pub returns : goal.returns
returns c =
    writing_last
    (writing_next (writing_next (writing_start (omega arith)) c.put_digits-p.ensures) c.put_digits-q.ensures)
    c.put_digits.ensures
