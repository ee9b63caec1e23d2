-- `put_sheet` meets its contract.
use native.Mathlib.Omega.{arith}
use Rattle.frame_replies.specs.Reply.{encode, line_of}
use Rattle.frame_replies.specs.DigitLaws.{length_header}
use Rattle.frame_replies.specs.WroteLaws.{wrote_room, wrote_more}
use Rattle.frame_replies.proofs.put_sheet.Goals as goal

pub put_end-requires : goal.put_end-requires
put_end-requires c = omega (arith, wrote_room c.put_header-a.ensures 10 1 (length_header 4 _ _ _) (omega arith))

pub returns : goal.returns
unfolding line_of encode
returns c =
    wrote_more c.put_header-a.ensures c.put_end.ensures
