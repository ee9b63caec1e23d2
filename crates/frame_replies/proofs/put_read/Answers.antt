-- `put_read` meets its contract.
use Prim.Native.Nat.{◌+◌, ◌*◌}
use native.Mathlib.Omega.{arith}
use lib.ListN.{length}
use Rattle.frame_replies.specs.Reply.{encode, line_of}
use Rattle.frame_replies.specs.DigitLaws.{length_header, length_entries}
use Rattle.frame_replies.specs.WroteLaws.{wrote_room, wrote_more}
use Rattle.frame_replies.proofs.put_read.Goals as goal

pub put_entries-b-requires : goal.put_entries-b-requires
put_entries-b-requires c = wrote_room c.put_header-a.ensures 8 _ (length_header 2 _ _ _) (omega arith)

pub put_end-requires : goal.put_end-requires
put_end-requires c =
    let width = 16 * length c.args.list.now in
    omega (
      arith,
      wrote_room c.put_entries-b.ensures width 1 (length_entries _)
          (wrote_room c.put_header-a.ensures 8 (width + 1) (length_header 2 _ _ _) (omega arith)),
    )

pub returns : goal.returns
unfolding line_of encode
returns c =
    wrote_more (wrote_more c.put_header-a.ensures c.put_entries-b.ensures) c.put_end.ensures
