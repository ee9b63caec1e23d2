-- The order of the shapes (document 02, F-12): in rising M, then by the balance ranks of the ranges taken root, left, right. Definitions only.
use Rattle.std.specs.Prelude.{◌≡◌, ◌⊎◌, List, [], ◌∷◌, ◌++◌, ℕ, ◌<◌}
use Rattle.base.specs.Lists.{Every}
use Rattle.tree_rules.specs.Tree.{Tree, leaf, node, Shape}

-- The balance ranks of the ranges of a tree, taken root, left, right.
unfoldable pub ranks : Tree → List ℕ
ranks leaf = []
ranks (node b l r) = b ∷ (ranks l ++ ranks r)

-- What shapes are ordered by.
unfoldable pub ordered_by : Shape → List ℕ
ordered_by s = s.size ∷ ranks s.tree

-- Where the lists first differ, the first one has the smaller number.
unfoldable pub Before : List ℕ → List ℕ → Type 0
Before [] ys = ⊥
Before (x ∷ xs) [] = ⊥
Before (x ∷ xs) (y ∷ ys) = (x < y) ⊎ ((x ≡ y) × Before xs ys)

-- Every member stands before each later one.
unfoldable pub InOrder : {A : Type 0} → (A → List ℕ) → List A → Type 0
InOrder by [] = Unit {0}
InOrder by (x ∷ xs) = Every (λ y. Before (by x) (by y)) xs × InOrder by xs
