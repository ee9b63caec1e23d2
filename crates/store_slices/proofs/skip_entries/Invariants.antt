-- `skip_entries` meets its contract. The loop's invariant: of the entries from `start` on, those behind the first `seen` are those of the slots
-- from `at` on, which is not before `start`.
use mathlib.Core.Path.{◌≡◌}
use Prim.Native.Nat.{◌-◌, ◌≤◌}
use lib.ListN.{length, drop}
use Rattle.store_layout.specs.Leaf.{nonzero}
use Rattle.store_slices.proofs.skip_entries.Given as goal

abbrev pub invariant-loop-seen : goal.invariant-loop-seen
invariant-loop-seen l =
    (l.seen ≤ l.first) × (drop l.seen (nonzero (drop l.start l.slots)) ≡ nonzero (drop l.at l.slots)) × (l.start ≤ l.at)

abbrev pub decreases-loop-seen : goal.decreases-loop-seen
decreases-loop-seen l = length l.slots - l.at
