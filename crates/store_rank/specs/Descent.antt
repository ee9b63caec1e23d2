-- How far the descent to a leaf has come. Definitions only.
use Rattle.std.specs.Prelude.{◌≡◌, List, ℕ, ◌+◌, ◌*◌, ◌^◌, ◌≤◌}
use Rattle.store_rank.specs.LeafOf.{leaf_of}

-- From the root of a tree with h levels the descent has come to the range k, `levels` above the leaves, and the rank is `rest` there; no leaf
-- below the range has a number past those of the tree.
pub record Descent (h : ℕ) (counts : List ℕ) (rank levels k rest : ℕ) : Type 0 where
  pub before : (k + 1) * 2 ^ levels ≤ 2 * 2 ^ h
  pub same : leaf_of levels counts k rest ≡ leaf_of h counts 1 rank
