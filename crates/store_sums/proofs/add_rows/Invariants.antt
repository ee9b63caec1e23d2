-- `add_rows` meets its contract. The loop's invariant: whatever numbers the leaves had, the rows up to the one reached have theirs.
use mathlib.Core.Path.{◌≡◌}
use Prim.Native.Nat.{ℕ}
use lib.ListN.{length}
use Rattle.store_sums.specs.Updating.{Updating, RowsReady}
use Rattle.store_sums.proofs.add_rows.Given as goal

abbrev pub invariant-loop-from : goal.invariant-loop-from
invariant-loop-from l =
    (length l.numbers ≡ length l.initial.numbers)
    × ((w : RowsReady l.initial.from l.initial.to l.initial.numbers) → (levels : ℕ) × Updating w.measure w.start w.M w.slots levels l.from l.to l.numbers)

abbrev pub decreases-loop-from : goal.decreases-loop-from
decreases-loop-from l = l.from
