-- Where a number stands in a list, and how often. Definitions only.
use Rattle.std.specs.Prelude.{List, [], ◌∷◌, ℕ, suc, ◌+◌}
use Rattle.base.specs.Cases.{if_eq}

-- How often k stands in a list.
unfoldable pub occurs : ℕ → List ℕ → ℕ
occurs k [] = 0
occurs k (x ∷ xs) = if_eq x k 1 0 + occurs k xs

-- The index of the first k in a list, and the length of the list where there is none.
unfoldable pub index_of : ℕ → List ℕ → ℕ
index_of k [] = 0
index_of k (x ∷ xs) = if_eq x k 0 (suc (index_of k xs))
