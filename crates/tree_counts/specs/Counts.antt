-- The numbers of entries of the ranges, by range number: range k has the halves 2 k and 2 k + 1. Definitions only.
use Rattle.std.specs.Prelude.{◌≡◌, List, ℕ, zero, suc, ◌+◌, ◌-◌, ◌*◌, ◌≤◌, get_or, set, replicate}
use Rattle.tree_sizes.specs.Sizes.{height}
use Rattle.tree_rules.specs.Tree.{Tree, leaf, node, Shape}
use Rattle.tree_counts.specs.Ranges.{Below}

-- The counts with those of the range k, which has n entries and this tree, written in.
unfoldable pub write_tree : List ℕ → ℕ → ℕ → Tree → List ℕ
write_tree counts k n leaf = set counts k n
write_tree counts k n (node b l r) = write_tree (write_tree (set counts k n) (2 * k) b l) (2 * k + 1) (n - b) r

-- The tree of the range k, `levels` above the leaves: a balance rank is the count of the left half.
unfoldable pub read_tree : ℕ → List ℕ → ℕ → Tree
read_tree zero counts k = leaf
read_tree (suc levels) counts k =
    node (get_or counts (2 * k) 0) (read_tree levels counts (2 * k)) (read_tree levels counts (2 * k + 1))

-- The counts are those of the range k, which has n entries and this tree.
unfoldable pub Holds : List ℕ → ℕ → ℕ → Tree → Type 0
Holds counts k n leaf = get_or counts k 0 ≡ n
Holds counts k n (node b l r) = (get_or counts k 0 ≡ n) × Holds counts (2 * k) b l × Holds counts (2 * k + 1) (n - b) r

-- Two lists of counts agree at the ranges down to `levels` below the range k.
abbrev pub SameBelow : ℕ → ℕ → List ℕ → List ℕ → Type 0
SameBelow levels k xs ys = (d j : ℕ) → d ≤ levels → Below k d j → get_or xs j 0 ≡ get_or ys j 0

-- All counts of a shape with N entries: the size parameter at 0, the root at 1, and 0 at every number that is not in use.
unfoldable pub shape_counts : ℕ → ℕ → Shape → List ℕ
shape_counts room N s = write_tree (set (replicate room 0) 0 s.size) 1 N s.tree

-- The shape that counts hold, by range number: count 0 is the size parameter.
unfoldable pub shape_in : List ℕ → Shape
shape_in counts = record { size = get_or counts 0 0; tree = read_tree (height (get_or counts 0 0)) counts 1 }
