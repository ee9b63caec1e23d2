-- A choice between two values by a comparison of two numbers. Definitions only.
use Rattle.std.specs.Prelude.{true, false, ℕ, eqb, leb, ltb}

module _ {A : Type 0} where
  -- x where m = n, y otherwise
  unfoldable pub if_eq : ℕ → ℕ → A → A → A
  if_eq m n x y = elim (eqb m n) [ true ↦ x | false ↦ y ]

  -- x where m < n, y otherwise
  unfoldable pub if_lt : ℕ → ℕ → A → A → A
  if_lt m n x y = elim (ltb m n) [ true ↦ x | false ↦ y ]

  -- x where m ≤ n, y otherwise
  unfoldable pub if_le : ℕ → ℕ → A → A → A
  if_le m n x y = elim (leb m n) [ true ↦ x | false ↦ y ]
