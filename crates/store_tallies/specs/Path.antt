-- The scoring entries before a leaf, by the tallies on the way to it. Definitions only.
use Rattle.std.specs.Prelude.{◌≡◌, List, ℕ, zero, suc, ◌+◌, ◌*◌, ◌^◌, ◌≤◌, get_or}
use Rattle.base.specs.Cases.{if_le}

-- From the range k, `levels` above the leaves, down to the leaf: the sum of the words at the left halves that are passed by, which are those
-- whose range has a right half that begins with this leaf or one before it.
unfoldable pub path_tally : List ℕ → ℕ → ℕ → ℕ → ℕ
path_tally words leaf zero k = 0
path_tally words leaf (suc levels) k =
    if_le ((2 * k + 1) * 2 ^ levels) leaf
    (get_or words (2 * k) 0 + path_tally words leaf levels (2 * k + 1))
    (path_tally words leaf levels (2 * k))

-- How far the way from the root of a tree with h levels has come: to the range k, `levels` above the leaves, with this sum so far, which has at
-- most one word, of 32 bits, for each level passed. No leaf below the range has a number past those of the tree.
pub record OnPath (h : ℕ) (words : List ℕ) (leaf levels k sum : ℕ) : Type 0 where
  pub within : levels ≤ h
  pub before : (k + 1) * 2 ^ levels ≤ 2 * 2 ^ h
  pub few : sum + levels * 2 ^ 32 ≤ h * 2 ^ 32
  pub same : path_tally words leaf h 1 ≡ sum + path_tally words leaf levels k
