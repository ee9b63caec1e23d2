-- The ranges of a sheet as a tree of balance ranks. Definitions only.
use Rattle.std.specs.Prelude.{ℕ, zero, suc, ◌-◌}
use Rattle.tree_sizes.specs.Sizes.{Allowed, height, candidates, IsCandidate}

-- A range: a leaf, or the rank of its balance entry, which is the number of entries of its left half, and the two halves.
-- The number of entries of each range follows from that of the whole.
pub data Tree : Type 0 where
  leaf : Tree
  node : ℕ → Tree → Tree → Tree

-- In a sheet of size M, a range with n entries at depth d, `levels` above the leaves, has this tree: each balance entry is a candidate.
unfoldable pub Balanced : ℕ → ℕ → ℕ → ℕ → Tree → Type 0
Balanced M zero d n leaf = Unit {0}
Balanced M zero d n (node b l r) = ⊥
Balanced M (suc levels) d n leaf = ⊥
Balanced M (suc levels) d n (node b l r) =
    IsCandidate n (candidates M d) b × Balanced M levels (suc d) b l × Balanced M levels (suc d) (n - b) r

-- The shape of a sheet: its size parameter and its tree.
pub record Shape : Type 0 where
  pub size : ℕ
  pub tree : Tree

-- N entries can have this shape.
pub record IsShape (N : ℕ) (s : Shape) : Type 0 where
  pub allowed : Allowed N s.size
  pub balanced : Balanced s.size (height s.size) 0 N s.tree
