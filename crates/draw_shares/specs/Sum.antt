-- Finite sums and means of rationals.
use Rattle.std.specs.Prelude.{◌≡◌, refl, ℕ, zero, suc, ◌+◌, ◌≤◌, ◌<◌}
use Rattle.std.proofs.Common.{sym, ◌∙◌, ap, arith}
use native.Mathlib.Nat.{add-suc}
use Rattle.draw_shares.specs.Rational.{Rational, ◌⊕◌, ◌⊗◌, nat, inv}
use Rattle.draw_shares.specs.RationalLaws.{ring, add_comm, add_assoc, zero_add, add_zero, mul_add, mul_zero, zero_mul, mul_left_comm, nat_suc, inv_cancel}
use Rattle.draw_shares.specs.Same.{sum, mean}

pub sum_zero : (h : ℕ → Rational) → sum 0 h ≡ nat 0
unfolding sum
sum_zero h = refl

pub sum_suc : (m : ℕ) (h : ℕ → Rational) → sum (suc m) h ≡ sum m h ⊕ h m
unfolding sum
sum_suc m h = refl

pub sum_cong : (m : ℕ) {h k : ℕ → Rational} → ((i : ℕ) → i < m → h i ≡ k i) → sum m h ≡ sum m k
unfolding sum
sum_cong zero e = refl
sum_cong (suc m) e = rw (sum_cong m (λ i l. e i (omega arith)), e m (omega arith))

pub sum_add : (m : ℕ) (h k : ℕ → Rational) → sum m (λ i. h i ⊕ k i) ≡ sum m h ⊕ sum m k
unfolding sum
sum_add zero h k = sym (zero_add (nat 0))
sum_add (suc m) h k = rw (sum_add m h k) (simp ring)

pub sum_mul : (m : ℕ) (x : Rational) (h : ℕ → Rational) → sum m (λ i. x ⊗ h i) ≡ x ⊗ sum m h
unfolding sum
sum_mul zero x h = sym (mul_zero x)
sum_mul (suc m) x h = rw (sum_mul m x h) (sym (mul_add x (sum m h) (h m)))

pub sum_const : (m : ℕ) (x : Rational) → sum m (λ i. x) ≡ nat m ⊗ x
unfolding sum
sum_const zero x = sym (zero_mul x)
sum_const (suc m) x = rw (sum_const m x, nat_suc m) (simp ring)

pub sum_swap : (m n : ℕ) (h : ℕ → ℕ → Rational) → sum m (λ i. sum n (λ j. h i j)) ≡ sum n (λ j. sum m (λ i. h i j))
unfolding sum
sum_swap zero n h = sym (sum_const n (nat 0) ∙ mul_zero (nat n))
sum_swap (suc m) n h = rw (sum_swap m n h) (sym (sum_add n (λ j. sum m (λ i. h i j)) (λ j. h m j)))

pub sum_front : (m : ℕ) (h : ℕ → Rational) → sum (suc m) h ≡ h 0 ⊕ sum m (λ i. h (suc i))
unfolding sum
sum_front zero h = add_comm (nat 0) (h 0)
sum_front (suc m) h = ap (λ (t : Rational). t ⊕ h (suc m)) (sum_front m h) ∙ add_assoc (h 0) (sum m (λ i. h (suc i))) (h (suc m))

pub sum_split : (m n : ℕ) (h : ℕ → Rational) → sum (m + n) h ≡ sum m h ⊕ sum n (λ i. h (m + i))
unfolding sum
sum_split m zero h = simp (native.Mathlib.Nat.add-zero, add_zero)
sum_split m (suc n) h = rw (add-suc m n) (rw (sum_split m n h) (add_assoc (sum m h) (sum n (λ i. h (m + i))) (h (m + n))))

-- The i-th of the numbers other than j.
unfoldable pub skip : ℕ → ℕ → ℕ
skip zero i = suc i
skip (suc j) zero = zero
skip (suc j) (suc i) = suc (skip j i)

pub skip_lt : (j i : ℕ) → i < j → skip j i ≡ i
unfolding skip
skip_lt zero i l = absurd (omega arith)
skip_lt (suc j) zero l = refl
skip_lt (suc j) (suc i) l = ap suc (skip_lt j i (omega arith))

pub skip_ge : (j i : ℕ) → j ≤ i → skip j i ≡ suc i
unfolding skip
skip_ge zero i l = refl
skip_ge (suc j) zero l = absurd (omega arith)
skip_ge (suc j) (suc i) l = ap suc (skip_ge j i (omega arith))

-- A sum is that over all numbers but j, and the term at j.
pub sum_skip : (m j : ℕ) (h : ℕ → Rational) → j ≤ m → sum (suc m) h ≡ sum m (λ i. h (skip j i)) ⊕ h j
unfolding skip
sum_skip m zero h l = sum_front m h ∙ add_comm _ _
sum_skip zero (suc j) h l = absurd (omega arith)
sum_skip (suc m) (suc j) h l =
    sum_front (suc m) h
    ∙ ap (λ (t : Rational). h 0 ⊕ t) (sum_skip m j (λ i. h (suc i)) (omega arith))
    ∙ sym (add_assoc _ _ _)
    ∙ ap (λ (t : Rational). t ⊕ h (suc j)) (sym (sum_front m (λ i. h (skip (suc j) i))))

pub mean_cong : (m : ℕ) {h k : ℕ → Rational} → ((i : ℕ) → i < m → h i ≡ k i) → mean m h ≡ mean m k
unfolding mean
mean_cong m e = ap (λ (t : Rational). inv m ⊗ t) (sum_cong m e)

pub mean_const : (m : ℕ) (x : Rational) → 0 < m → mean m (λ i. x) ≡ x
unfolding mean
mean_const m x l = rw (sum_const m x) (inv_cancel m x l)

pub mean_add : (m : ℕ) (h k : ℕ → Rational) → mean m (λ i. h i ⊕ k i) ≡ mean m h ⊕ mean m k
unfolding mean
mean_add m h k = rw (sum_add m h k) (mul_add _ _ _)

pub mean_mul : (m : ℕ) (x : Rational) (h : ℕ → Rational) → mean m (λ i. x ⊗ h i) ≡ x ⊗ mean m h
unfolding mean
mean_mul m x h = rw (sum_mul m x h) (mul_left_comm _ _ _)

mean_sum : (m n : ℕ) (h : ℕ → ℕ → Rational) → mean m (λ i. sum n (λ j. h i j)) ≡ sum n (λ j. mean m (λ i. h i j))
unfolding mean
mean_sum m n h = rw (sum_swap m n h) (sym (sum_mul n (inv m) (λ j. sum m (λ i. h i j))))

pub mean_swap : (m n : ℕ) (h : ℕ → ℕ → Rational) → mean m (λ i. mean n (λ j. h i j)) ≡ mean n (λ j. mean m (λ i. h i j))
unfolding mean
mean_swap m n h = rw (mean_mul m (inv n) (λ i. sum n (λ j. h i j))) (ap (λ (t : Rational). inv n ⊗ t) (mean_sum m n h))
