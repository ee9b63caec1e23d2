-- Laws of where a number stands in a list.
use Rattle.std.specs.Prelude.{◌≡◌, refl, List, [], ◌∷◌, ◌++◌, ◌≢◌, ℕ, zero, suc, ◌+◌, ◌≤◌, ◌<◌, length, get_or}
use Rattle.std.proofs.Common.{sym, ap, ◌∙◌, ⊎_elim, not-suc-le-zero, le_of_suc-le-suc, arith}
use Rattle.base.specs.CaseLaws.{eq_or_ne, lt_or_ge, if_eq_yes, if_eq_no}
use Rattle.store_order.specs.Occurs.{occurs, index_of}

pub occurs_append : (k : ℕ) (xs ys : List ℕ) → occurs k (xs ++ ys) ≡ occurs k xs + occurs k ys
unfolding occurs
occurs_append k [] ys = omega arith
occurs_append k (x ∷ xs) ys = omega (arith, occurs_append k xs ys)

-- A number at the front, and one that is not.
module _ (k x : ℕ) (xs : List ℕ) where
  pub occurs_here : x ≡ k → occurs k (x ∷ xs) ≡ suc (occurs k xs)
  unfolding occurs
  occurs_here e = omega (arith, if_eq_yes {A = ℕ} x k 1 0 e)

  pub occurs_later : x ≢ k → occurs k (x ∷ xs) ≡ occurs k xs
  unfolding occurs
  occurs_later d = omega (arith, if_eq_no {A = ℕ} x k 1 0 d)

  pub index_here : x ≡ k → index_of k (x ∷ xs) ≡ 0
  unfolding index_of
  index_here e = if_eq_yes x k 0 (suc (index_of k xs)) e

  pub index_later : x ≢ k → index_of k (x ∷ xs) ≡ suc (index_of k xs)
  unfolding index_of
  index_later d = if_eq_no x k 0 (suc (index_of k xs)) d

-- What stands at an index occurs.
pub occurs_at : (xs : List ℕ) (i d : ℕ) → i < length xs → 0 < occurs (get_or xs i d) xs
occurs_at [] i d l = absurd (not-suc-le-zero l)
occurs_at (x ∷ xs) zero d l = omega (arith, occurs_here x x xs refl)
occurs_at (x ∷ xs) (suc i) d l =
    let y = get_or xs i d in
    ⊎_elim
    (λ (e : x ≡ y). omega (arith, occurs_here y x xs e))
    (λ (n : x ≢ y). omega (arith, occurs_later y x xs n, occurs_at xs i d (le_of_suc-le-suc l)))
    (eq_or_ne x y)

-- A number that occurs stands at its index.
pub at_index : (k d : ℕ) (xs : List ℕ) → 0 < occurs k xs → (index_of k xs < length xs) × (get_or xs (index_of k xs) d ≡ k)
unfolding occurs
at_index k d [] o = absurd (not-suc-le-zero o)
at_index k d (x ∷ xs) o =
    ⊎_elim
    (λ (e : x ≡ k). rw (index_here k x xs e) (omega arith, e))
    (λ (n : x ≢ k).
    let there = at_index k d xs (omega (arith, occurs_later k x xs n)) in
    rw (index_later k x xs n) (omega (arith, there.0), there.1))
    (eq_or_ne x k)

-- The index of what stands at i is i, where it occurs once.
pub index_at : (xs : List ℕ) (i d : ℕ) → i < length xs → occurs (get_or xs i d) xs ≡ 1 → index_of (get_or xs i d) xs ≡ i
index_at [] i d l o = absurd (not-suc-le-zero l)
index_at (x ∷ xs) zero d l o = index_here x x xs refl
index_at (x ∷ xs) (suc i) d l o =
    let y = get_or xs i d in
    ⊎_elim
    (λ (e : x ≡ y). absurd (omega (arith, occurs_here y x xs e, occurs_at xs i d (le_of_suc-le-suc l))))
    (λ (n : x ≢ y).
    index_later y x xs n ∙ ap suc (index_at xs i d (le_of_suc-le-suc l) (sym (occurs_later y x xs n) ∙ o)))
    (eq_or_ne x y)

-- A number that stands at no index does not occur.
pub occurs_none : (k d : ℕ) (xs : List ℕ) → ((i : ℕ) → i < length xs → get_or xs i d ≢ k) → occurs k xs ≡ 0
occurs_none k d xs none =
    ⊎_elim
    (λ (o : 0 < occurs k xs). absurd (none (index_of k xs) (at_index k d xs o).0 (at_index k d xs o).1))
    (λ (z : occurs k xs ≤ 0). omega arith)
    (lt_or_ge 0 (occurs k xs))

-- One that stands at one index alone occurs once.
pub occurs_once : (k d : ℕ) (xs : List ℕ) (i : ℕ) → i < length xs → get_or xs i d ≡ k
    → ((j : ℕ) → j < length xs → get_or xs j d ≡ k → j ≡ i) → occurs k xs ≡ 1
occurs_once k d [] i l e one = absurd (not-suc-le-zero l)
occurs_once k d (x ∷ xs) zero l e one =
    occurs_here k x xs e ∙ ap suc (occurs_none k d xs (λ j m f. omega (arith, one (suc j) (omega arith) f)))
occurs_once k d (x ∷ xs) (suc i) l e one =
    occurs_later k x xs (λ f. omega (arith, one 0 (omega arith) f))
    ∙ occurs_once k d xs i (le_of_suc-le-suc l) e (λ j m f. omega (arith, one (suc j) (omega arith) f))
