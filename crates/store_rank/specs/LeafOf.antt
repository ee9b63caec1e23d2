-- The leaf in which the entry of a rank stands, by the counts of the ranges. Definitions only.
use Rattle.std.specs.Prelude.{List, ℕ, zero, suc, ◌+◌, ◌-◌, ◌*◌, ◌^◌, get_or}
use Rattle.base.specs.Cases.{if_lt}
use Rattle.tree_sizes.specs.Sizes.{height, leaf_slots}
use Rattle.store_rank.specs.declared.Start.{Start}

-- The range number of a leaf, and a rank among its entries.
pub record InLeaf : Type 0 where
  pub leaf : ℕ
  pub rank : ℕ

-- Where the entry of this rank in the range k, `levels` above the leaves, stands: in its left half where this has more entries than the rank;
-- in its right half where not, and so many ranks lower.
unfoldable pub leaf_of : ℕ → List ℕ → ℕ → ℕ → InLeaf
leaf_of zero counts k rank = record { leaf = k; rank = rank }
leaf_of (suc levels) counts k rank =
    if_lt rank (get_or counts (2 * k) 0) (leaf_of levels counts (2 * k) rank) (leaf_of levels counts (2 * k + 1) (rank - get_or counts (2 * k) 0))

-- The same in a sheet of size M, whose leaves have the range numbers from 2 ^ h on, with the first slot of the leaf.
unfoldable pub start_of : ℕ → List ℕ → ℕ → Start
start_of M counts rank = record {
  slot = leaf_slots M * ((leaf_of (height M) counts 1 rank).leaf - 2 ^ height M);
  rank = (leaf_of (height M) counts 1 rank).rank;
  leaf = (leaf_of (height M) counts 1 rank).leaf;
}
