-- `read_from` meets its contract. The loop's invariant: `seen` of the wanted entries are copied, and those behind them are the entries of the
-- slots from `at` on.
use mathlib.Core.Path.{◌≡◌}
use mathlib.Core.List.{List}
use Prim.Native.Nat.{ℕ, ◌-◌, ◌≤◌}
use lib.ListN.{length, drop}
use Rattle.store_layout.specs.Leaf.{nonzero}
use Rattle.store_slices.specs.Reading.{Reading}
use Rattle.store_slices.proofs.read_from.Given as goal

-- The entries from the number `first` on of those from the slot `start` on.
abbrev pub wanted : List ℕ → ℕ → ℕ → List ℕ
wanted slots start first = drop first (nonzero (drop start slots))

abbrev pub invariant-loop-seen : goal.invariant-loop-seen
invariant-loop-seen l =
    (l.seen ≤ l.count) × (drop l.seen (wanted l.slots l.start l.first) ≡ nonzero (drop l.at l.slots)) × Reading l.initial.output (wanted l.slots l.start l.first) l.count l.seen l.output

abbrev pub decreases-loop-seen : goal.decreases-loop-seen
decreases-loop-seen l = length l.slots - l.at
