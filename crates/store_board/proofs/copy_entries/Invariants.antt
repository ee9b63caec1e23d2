-- `copy_entries` meets its contract. The loop's invariant: the entries at the first k ranks are copied; the slots from `at` on, which is not
-- before `start`, have the entries behind the first `seen`; and the ranks from k on do not fall, from `seen` on.
use mathlib.Core.Path.{◌≡◌}
use mathlib.Core.Bool.{false}
use Prim.Native.Nat.{◌≤◌}
use lib.ListN.{length, drop}
use Rattle.store_layout.specs.Leaf.{nonzero}
use Rattle.store_slices.specs.Reading.{Reading}
use Rattle.store_board.specs.Board.{falls_below, entries_at}
use Rattle.store_board.proofs.copy_entries.Given as goal

abbrev pub invariant-loop-k : goal.invariant-loop-k
invariant-loop-k l =
    (l.start ≤ l.at) × (nonzero (drop l.at l.slots) ≡ drop l.seen (nonzero l.slots)) × (falls_below l.seen (drop l.k l.ranks) ≡ false)
    × Reading l.initial.output (entries_at (nonzero l.slots) l.ranks) (length l.ranks) l.k l.output
