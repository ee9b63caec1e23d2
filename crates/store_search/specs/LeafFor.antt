-- The leaf in which an entry with a key stands or would stand, by the balance entries and the counts of the ranges. Definitions only.
use Rattle.std.specs.Prelude.{List, Result, ℕ, zero, suc, ◌+◌, ◌-◌, ◌*◌, ◌^◌, get_or}
use Rattle.base.specs.Cases.{if_lt}
use Rattle.tree_sizes.specs.Sizes.{height, leaf_slots}
use Rattle.store_keys.specs.Key.{key, rank_of, present}
use Rattle.store_search.specs.declared.Start.{Start}
use Rattle.store_search.specs.Sought.{sought_at}

-- The range number of a leaf, and the number of entries that stand before it.
pub record LeafBehind : Type 0 where
  pub leaf : ℕ
  pub before : ℕ

-- Where an entry with the key x stands or would stand in the range k, `levels` above the leaves, which has so many entries before it: in its
-- left half where x is below the key of the balance entry; in its right half, behind the entries of the left one, where not.
unfoldable pub leaf_for : ℕ → List ℕ → List ℕ → ℕ → ℕ → ℕ → LeafBehind
leaf_for zero counts balance x k before = record { leaf = k; before = before }
leaf_for (suc levels) counts balance x k before =
    if_lt x (key (get_or balance k 0)) (leaf_for levels counts balance x (2 * k) before)
    (leaf_for levels counts balance x (2 * k + 1) (before + get_or counts (2 * k) 0))

-- The same in a sheet of size M, whose leaves have the range numbers from 2 ^ h on, by the first slot of the leaf.
unfoldable pub start_for : ℕ → List ℕ → List ℕ → ℕ → Start
start_for M counts balance x = record {
  slot = leaf_slots M * ((leaf_for (height M) counts balance x 1 0).leaf - 2 ^ height M);
  before = (leaf_for (height M) counts balance x 1 0).before;
}

-- The rank of a key among some entries and those before them, where one of them has this key, or that at which it would stand.
unfoldable pub sought_behind : ℕ → ℕ → List ℕ → Result ℕ ℕ
sought_behind before x list = sought_at (present x list) (before + rank_of x list)
