-- `put_place` meets its contract.
use native.Mathlib.Omega.{arith}
use Rattle.frame_replies.specs.Reply.{encode, line_of}
use Rattle.frame_replies.specs.DigitLaws.{length_header, length_numbers}
use Rattle.frame_replies.specs.WroteLaws.{wrote_room, wrote_more}
use Rattle.frame_replies.proofs.put_place.Goals as goal

pub put_numbers-b-requires : goal.put_numbers-b-requires
put_numbers-b-requires c = wrote_room c.put_header-a.ensures 8 _ (length_header 2 _ _ _) (omega arith)

pub put_end-requires : goal.put_end-requires
put_end-requires c =
    omega (
      arith,
      wrote_room c.put_numbers-b.ensures _ 1 (length_numbers _ _ _ _ _)
          (wrote_room c.put_header-a.ensures 8 _ (length_header 2 _ _ _) (omega arith)),
    )

pub returns : goal.returns
unfolding line_of encode
returns c =
    wrote_more (wrote_more c.put_header-a.ensures c.put_numbers-b.ensures) c.put_end.ensures
