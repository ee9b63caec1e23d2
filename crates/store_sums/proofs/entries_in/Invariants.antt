-- `entries_in` meets its contract. The loop's invariant: the slots seen so far have so many entries.
use mathlib.Core.Path.{◌≡◌}
use lib.ListN.{length, take, drop}
use Rattle.store_layout.specs.Leaf.{nonzero}
use Rattle.store_sums.proofs.entries_in.Given as goal

abbrev pub invariant-loop-slot : goal.invariant-loop-slot
invariant-loop-slot l = l.entries ≡ length (nonzero (take l.slot-index (drop l.from l.slots)))
