-- Range numbers: range k has the halves 2 k and 2 k + 1. Which ranges stand below a range, and trees whose leaves are all at one depth.
-- Definitions only.
use Rattle.std.specs.Prelude.{ℕ, zero, suc, ◌+◌, ◌*◌, ◌^◌, ◌≤◌, ◌<◌}
use Rattle.tree_rules.specs.Tree.{Tree, leaf, node}

-- The range j stands d levels below the range k.
pub record Below (k d j : ℕ) : Type 0 where
  pub from : k * 2 ^ d ≤ j
  pub before : j < (k + 1) * 2 ^ d

-- The range j is the range k or one below it.
abbrev pub InSubtree : ℕ → ℕ → Type 0
InSubtree k j = (d : ℕ) × Below k d j

-- No range is in both subtrees.
unfoldable pub Apart : ℕ → ℕ → Type 0
Apart i k = (j : ℕ) → InSubtree i j → InSubtree k j → ⊥

-- The tree is perfect: all its leaves stand `levels` below its root.
unfoldable pub Perfect : ℕ → Tree → Type 0
Perfect zero leaf = Unit {0}
Perfect zero (node b l r) = ⊥
Perfect (suc levels) leaf = ⊥
Perfect (suc levels) (node b l r) = Perfect levels l × Perfect levels r
