-- `leaf_is_spread` meets its contract. The loop's invariant: the places of the first k entries are not empty, and the position is that of
-- entry k.
use Prim.Native.Nat.{ℕ, ◌+◌, ◌<◌}
use lib.ListN.{get_or}
use Rattle.store_layout.specs.Leaf.{slot_of}
use Rattle.store_layout.specs.Quotient.{Stands}
use Rattle.store_leaf_test.proofs.leaf_is_spread.Given as goal

abbrev pub invariant-loop-k : goal.invariant-loop-k
invariant-loop-k l =
    ((j : ℕ) → j < l._k → 0 < get_or l.slots (l.from + slot_of l.s l.n j) 0) × Stands l.s l.n l._k l.position
