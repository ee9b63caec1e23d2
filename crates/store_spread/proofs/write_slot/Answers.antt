-- `write_slot` meets its contract.
use Prim.Native.Nat.{◌+◌, ◌<◌}
use lib.ListN.{length, get_or}
use native.Mathlib.Omega.{arith}
use Rattle.store_layout.proofs.LeafLoop.{slot_written}
use Rattle.store_spread.specs.SlotEntriesLaws.{table_slot}
use Rattle.store_spread.proofs.write_slot.Goals.{Start}
use Rattle.store_spread.proofs.write_slot.Goals as goal

-- The entry that the table has is in the list.
inside : (c : Start) → let a = c.args in a.leaf.at + get_or a.entries.now (a.row + a.i) 0 < length a.list.now
inside c = omega (arith, (table_slot c.requires.ready c.requires.inside).1, c.requires.ready.zero_room)

pub bounds-list-leaf : goal.bounds-list-leaf
bounds-list-leaf c = inside (goal.at.bounds-list-leaf c).Start

pub returns : goal.returns
returns c =
    slot_written c.args.leaf c.args.list.now c.requires.ready.leaf_ready c.requires.written c.requires.inside _ (table_slot c.requires.ready c.requires.inside).0
