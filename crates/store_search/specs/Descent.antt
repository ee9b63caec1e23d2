-- How far the descent to the leaf for a key has come. Definitions only.
use Rattle.std.specs.Prelude.{◌≡◌, List, ℕ, ◌+◌, ◌*◌, ◌^◌, ◌≤◌}
use Rattle.store_search.specs.LeafFor.{leaf_for}

-- From the root of a tree with h levels the descent for the key x has come to the range k, `levels` above the leaves, which has `before`
-- entries before it: counts of less than 2 ^ 32 each, one a level at most. No leaf below the range has a number past those of the tree.
pub record Descent (h : ℕ) (counts balance : List ℕ) (x levels k before : ℕ) : Type 0 where
  pub inside : (k + 1) * 2 ^ levels ≤ 2 * 2 ^ h
  pub small : before + levels * 2 ^ 32 ≤ h * 2 ^ 32
  pub same : leaf_for levels counts balance x k before ≡ leaf_for h counts balance x 1 0
