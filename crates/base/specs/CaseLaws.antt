-- Which value a comparison chooses, and proofs by its two cases.
use Rattle.std.specs.Prelude.{◌≡◌, ◌⊎◌, ◌≢◌, ℕ, ◌≤◌, ◌<◌}
use Rattle.std.proofs.Common.{inl, inr, ⊎_elim, arith, lt-ltb, le-ltb, le-leb, eq-eqb, ne_eqb}
use Rattle.std.proofs.Math.Decide.{ℕ_discrete, dec_lt}
use Rattle.std.proofs.lemmas.Bool.{lt-leb}
use Rattle.base.specs.Cases.{if_eq, if_lt, if_le}

pub eq_or_ne : (m n : ℕ) → (m ≡ n) ⊎ (m ≢ n)
eq_or_ne m n = elim (ℕ_discrete m n) [ yes e ↦ inl e | no d ↦ inr d ]

pub lt_or_ge : (m n : ℕ) → (m < n) ⊎ (n ≤ m)
lt_or_ge m n = elim (dec_lt m n) [ yes h ↦ inl h | no d ↦ inr (omega arith) ]

pub le_or_gt : (m n : ℕ) → (m ≤ n) ⊎ (n < m)
le_or_gt m n = ⊎_elim (λ h. inr h) (λ h. inl h) (lt_or_ge n m)

module _ {A : Type 0} (m n : ℕ) (x y : A) where
  pub if_eq_yes : m ≡ n → if_eq m n x y ≡ x
  unfolding if_eq
  if_eq_yes h = rw (eq-eqb m n h, if_eq)

  pub if_eq_no : m ≢ n → if_eq m n x y ≡ y
  unfolding if_eq
  if_eq_no h = rw (ne_eqb m n h, if_eq)

  pub if_lt_yes : m < n → if_lt m n x y ≡ x
  unfolding if_lt
  if_lt_yes h = rw (lt-ltb m n h, if_lt)

  pub if_lt_no : n ≤ m → if_lt m n x y ≡ y
  unfolding if_lt
  if_lt_no h = rw (le-ltb m n h, if_lt)

  pub if_le_yes : m ≤ n → if_le m n x y ≡ x
  unfolding if_le
  if_le_yes h = rw (le-leb m n h, if_le)

  pub if_le_no : n < m → if_le m n x y ≡ y
  unfolding if_le
  if_le_no h = rw (lt-leb m n h, if_le)

module _ {A : Type 0} (P : A → Type 0) (m n : ℕ) (x y : A) where
  pub by_eq : (m ≡ n → P x) → (m ≢ n → P y) → P (if_eq m n x y)
  by_eq f g = ⊎_elim (λ h. rw (if_eq_yes m n x y h) (f h)) (λ h. rw (if_eq_no m n x y h) (g h)) (eq_or_ne m n)

  pub by_lt : (m < n → P x) → (n ≤ m → P y) → P (if_lt m n x y)
  by_lt f g = ⊎_elim (λ h. rw (if_lt_yes m n x y h) (f h)) (λ h. rw (if_lt_no m n x y h) (g h)) (lt_or_ge m n)

  pub by_le : (m ≤ n → P x) → (n < m → P y) → P (if_le m n x y)
  by_le f g = ⊎_elim (λ h. rw (if_le_yes m n x y h) (f h)) (λ h. rw (if_le_no m n x y h) (g h)) (le_or_gt m n)
