-- `entry_slot` meets its contract. The loop's invariant: of the entries from `start` on, those from the number `number` on are those of the
-- slots from `at` on, which is not before `start`.
use mathlib.Core.Path.{◌≡◌}
use Prim.Native.Nat.{◌-◌, ◌≤◌}
use lib.ListN.{length, drop}
use Rattle.store_layout.specs.Leaf.{nonzero}
use Rattle.store_slices.proofs.entry_slot.Given as goal

abbrev pub invariant-loop-at : goal.invariant-loop-at
invariant-loop-at l = (l.start ≤ l.at) × (drop l.number (nonzero (drop l.start l.slots)) ≡ nonzero (drop l.at l.slots))

abbrev pub decreases-loop-at : goal.decreases-loop-at
decreases-loop-at l = length l.slots - l.at
