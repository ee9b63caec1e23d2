-- `are_tallies` meets its contract.
use Rattle.tree_sizes.specs.Sizes.{height}
use Rattle.store_order.proofs.CountOrderLaws.{length_number_order}
use Rattle.call_tallies.specs.WriteLaws.{tested_by_number}
use Rattle.call_tallies.proofs.are_tallies.Goals as goal

pub are_tallies-requires : goal.are_tallies-requires
are_tallies-requires c =
    let ready = c.requires.ready in
    let counted = c.requires.counted in record { most = ready.most; slots = ready.slots_room; room = rw (c.read_counts.ensures, length_number_order (height c.args.size.m) c.args.tallies.now) ready.ranges_room; counts = counted.room; counted = counted.counted }

pub returns : goal.returns
returns c =
    (tested_by_number c.args.tallies.now c.read_counts.ensures c.requires.ready.ranges_room c.are_tallies.ensures, c.read_counts.ensures)
