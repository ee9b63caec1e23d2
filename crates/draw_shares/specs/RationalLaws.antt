-- The arithmetic of rationals.
use Rattle.std.specs.Prelude.{◌≡◌, refl, ◌≢◌, ℕ, zero, suc, ◌+◌, ◌*◌, ◌<◌}
use Rattle.std.proofs.Common.{sym, ◌∙◌, ap, arith}
use mathlib.Core.HLevel.{Π_prop}
use native.Mathlib.Nat.{eq_of_mul-eq-mul_right, mul-suc}
use Rattle.draw_shares.specs.Fraction.{Fraction, ◌≐◌, plus, times, whole, unit}
use Rattle.draw_shares.specs.Rational.{Rational, Rational-set, ⟦◌⟧, same_value, crosswise, ◌⊕◌, ◌⊗◌, nat, inv, plus_⊕, times_⊗, by_two, equal_one, equal_two, equal_three}

ruleset as-fraction = (← plus_⊕, ← times_⊗)

pub add_comm : (a b : Rational) → a ⊕ b ≡ b ⊕ a
add_comm = equal_two (λ a b. a ⊕ b) (λ a b. b ⊕ a) (λ x y. simp as-fraction (same_value (plus x y) (plus y x) (omega arith)))

pub add_assoc : (a b c : Rational) → a ⊕ b ⊕ c ≡ a ⊕ (b ⊕ c)
add_assoc =
    equal_three (λ a b c. a ⊕ b ⊕ c) (λ a b c. a ⊕ (b ⊕ c))
    (λ x y z. simp as-fraction (same_value (plus (plus x y) z) (plus x (plus y z)) (omega arith)))

pub mul_comm : (a b : Rational) → a ⊗ b ≡ b ⊗ a
mul_comm = equal_two (λ a b. a ⊗ b) (λ a b. b ⊗ a) (λ x y. simp as-fraction (same_value (times x y) (times y x) (omega arith)))

pub mul_assoc : (a b c : Rational) → a ⊗ b ⊗ c ≡ a ⊗ (b ⊗ c)
mul_assoc =
    equal_three (λ a b c. a ⊗ b ⊗ c) (λ a b c. a ⊗ (b ⊗ c))
    (λ x y z. simp as-fraction (same_value (times (times x y) z) (times x (times y z)) (omega arith)))

pub mul_add : (a b c : Rational) → a ⊗ (b ⊕ c) ≡ a ⊗ b ⊕ a ⊗ c
mul_add =
    equal_three (λ a b c. a ⊗ (b ⊕ c)) (λ a b c. a ⊗ b ⊕ a ⊗ c)
    (λ x y z. simp as-fraction (same_value (times x (plus y z)) (plus (times x y) (times x z)) (omega arith)))

pub zero_add : (a : Rational) → nat 0 ⊕ a ≡ a
unfolding nat
zero_add = equal_one (λ a. nat 0 ⊕ a) (λ a. a) (λ x. simp as-fraction (same_value (plus (whole 0) x) x (omega arith)))

pub one_mul : (a : Rational) → nat 1 ⊗ a ≡ a
unfolding nat
one_mul = equal_one (λ a. nat 1 ⊗ a) (λ a. a) (λ x. simp as-fraction (same_value (times (whole 1) x) x (omega arith)))

pub zero_mul : (a : Rational) → nat 0 ⊗ a ≡ nat 0
unfolding nat
zero_mul = equal_one (λ a. nat 0 ⊗ a) (λ a. nat 0) (λ x. simp as-fraction (same_value (times (whole 0) x) (whole 0) (omega arith)))

pub add_zero : (a : Rational) → a ⊕ nat 0 ≡ a
add_zero a = add_comm a (nat 0) ∙ zero_add a

pub mul_one : (a : Rational) → a ⊗ nat 1 ≡ a
mul_one a = mul_comm a (nat 1) ∙ one_mul a

pub mul_zero : (a : Rational) → a ⊗ nat 0 ≡ nat 0
mul_zero a = mul_comm a (nat 0) ∙ zero_mul a

pub add_mul : (a b c : Rational) → (a ⊕ b) ⊗ c ≡ a ⊗ c ⊕ b ⊗ c
add_mul a b c = rw (mul_comm (a ⊕ b) c, mul_add, mul_comm c a, mul_comm c b)

pub add_left_comm : (a b c : Rational) → a ⊕ (b ⊕ c) ≡ b ⊕ (a ⊕ c)
add_left_comm a b c = sym (add_assoc a b c) ∙ ap (λ (t : Rational). t ⊕ c) (add_comm a b) ∙ add_assoc b a c

pub mul_left_comm : (a b c : Rational) → a ⊗ (b ⊗ c) ≡ b ⊗ (a ⊗ c)
mul_left_comm a b c = sym (mul_assoc a b c) ∙ ap (λ (t : Rational). t ⊗ c) (mul_comm a b) ∙ mul_assoc b a c

-- brings both sides of an equation to one form
pub ruleset ring = (add_assoc, add_comm, add_left_comm, mul_assoc, mul_comm, mul_left_comm, mul_add, add_mul, zero_add, add_zero, one_mul, mul_one, zero_mul, mul_zero)

pub nat_add : (m n : ℕ) → nat (m + n) ≡ nat m ⊕ nat n
unfolding nat
nat_add m n = simp as-fraction (same_value (whole (m + n)) (plus (whole m) (whole n)) (omega arith))

pub nat_mul : (m n : ℕ) → nat (m * n) ≡ nat m ⊗ nat n
unfolding nat
nat_mul m n = simp as-fraction (same_value (whole (m * n)) (times (whole m) (whole n)) (omega arith))

pub nat_suc : (n : ℕ) → nat (suc n) ≡ nat n ⊕ nat 1
unfolding nat
nat_suc n = simp as-fraction (same_value (whole (suc n)) (plus (whole n) (whole 1)) (omega arith))

pub nat_injective : {m n : ℕ} → nat m ≡ nat n → m ≡ n
unfolding nat
nat_injective {m} {n} e = omega (arith, crosswise (whole m) (whole n) e)

pub one_not_zero : nat 1 ≢ nat 0
one_not_zero e = omega (arith, nat_injective e)

pub nat_inv : (m : ℕ) → 0 < m → nat m ⊗ inv m ≡ nat 1
unfolding nat inv unit
nat_inv zero h = absurd (omega arith)
nat_inv (suc m) h = simp as-fraction (same_value (times (whole (suc m)) (unit (suc m))) (whole 1) (omega arith))

unit_mul : (m n : ℕ) → unit (m * n) ≐ times (unit m) (unit n)
unfolding unit
unit_mul zero n = rw (native.Mathlib.Nat.zero-mul n) (omega arith)
unit_mul (suc m) zero = rw (native.Mathlib.Nat.mul-zero (suc m)) (omega arith)
unit_mul (suc m) (suc n) = rw (mul-suc (suc m) n, native.Mathlib.Nat.add-suc (suc m * n) m) (omega arith)

pub inv_mul : (m n : ℕ) → inv (m * n) ≡ inv m ⊗ inv n
unfolding inv
inv_mul m n = simp as-fraction (same_value (unit (m * n)) (times (unit m) (unit n)) (unit_mul m n))

pub inv_one : inv 1 ≡ nat 1
unfolding inv nat unit
inv_one = same_value (unit 1) (whole 1) refl

pub inv_cancel : (m : ℕ) (x : Rational) → 0 < m → inv m ⊗ (nat m ⊗ x) ≡ x
inv_cancel m x h = simp (← mul_assoc) (rw (mul_comm (inv m) (nat m), nat_inv m h) (one_mul x))

pub nat_inv_cancel : (m : ℕ) (x : Rational) → 0 < m → nat m ⊗ (inv m ⊗ x) ≡ x
nat_inv_cancel m x h = sym (mul_assoc (nat m) (inv m) x) ∙ rw (nat_inv m h) (one_mul x)

-- A sum is 0 only where both its terms are.
zero_term : (x y : Fraction) → ⟦ x ⟧ ⊕ ⟦ y ⟧ ≡ nat 0 → ⟦ x ⟧ ≡ nat 0
unfolding nat
zero_term x y e =
    let z = crosswise (plus x y) (whole 0) (plus_⊕ x y ∙ e) in
    same_value x (whole 0) (eq_of_mul-eq-mul_right y.den y.pos (x.num * 1) (0 * x.den) (omega arith))

pub zero_left : (a b : Rational) → a ⊕ b ≡ nat 0 → a ≡ nat 0
zero_left = by_two (λ a b. a ⊕ b ≡ nat 0 → a ≡ nat 0) (λ a b. Π_prop {A = a ⊕ b ≡ nat 0} (λ _. Rational-set a (nat 0))) zero_term
