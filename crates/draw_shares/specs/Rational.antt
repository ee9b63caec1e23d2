-- The rational numbers that the laws of shares are proved in: fractions up to crosswise equality.
-- No statement about sheets names them: there shares are fractions, compared by `◌≐◌`.
use Rattle.std.specs.Prelude.{◌≡◌, refl, ℕ, ◌*◌}
use Rattle.std.proofs.Common.{sym, ap, arith}
use mathlib.Core.Quot.Quotient
use mathlib.Core.Quot.{Quot, mk, sound, Quot-set, ind, Setoid}
use Rattle.std.proofs.Math.Nat.{ℕ_set, eq_of_mul-eq-mul_right}
use Rattle.draw_shares.specs.Fraction.{Fraction, ◌≐◌, plus, times, whole, unit}

infixl 60 ◌⊕◌
infixl 70 ◌⊗◌
pub ≐_trans : (x y z : Fraction) → x ≐ y → y ≐ z → x ≐ z
≐_trans x y z p q =
    eq_of_mul-eq-mul_right y.den y.pos (x.num * z.den) (z.num * x.den)
    (omega (arith, ap (λ (t : ℕ). t * z.den) p, ap (λ (t : ℕ). t * x.den) q))

abbrev pub crosswise_setoid : Setoid {0, 0} Fraction
crosswise_setoid = record {
  r = ◌≐◌;
  iseqv = record {
    refl = λ x. refl;
    symm = λ x y p. sym p;
    trans = ≐_trans;
  };
}

pub Rational : Type 0
Rational = Quot ◌≐◌

pub Rational-set : IsSet Rational
unfolding Rational
Rational-set = Quot-set

-- The value of a fraction.
pub ⟦◌⟧ : Fraction → Rational
unfolding Rational
⟦◌⟧ x = mk x

-- Fractions have the same value exactly when they agree crosswise.
pub same_value : (x y : Fraction) → x ≐ y → ⟦ x ⟧ ≡ ⟦ y ⟧
unfolding Rational ⟦◌⟧
same_value x y p = sound p

pub crosswise : (x y : Fraction) → ⟦ x ⟧ ≡ ⟦ y ⟧ → x ≐ y
unfolding Rational ⟦◌⟧
crosswise x y e = Quotient.exact crosswise_setoid (λ a b. ℕ_set _ _) e

plus_≐ : (x y z w : Fraction) → x ≐ z → y ≐ w → plus x y ≐ plus z w
plus_≐ x y z w p q =
    omega (arith, ap (λ (t : ℕ). t * (y.den * w.den)) p, ap (λ (t : ℕ). t * (x.den * z.den)) q)

times_≐ : (x y z w : Fraction) → x ≐ z → y ≐ w → times x y ≐ times z w
times_≐ x y z w p q =
    omega (arith, ap (λ (t : ℕ). t * (y.num * w.den)) p, ap (λ (t : ℕ). t * (z.num * x.den)) q)

pub ◌⊕◌ : Rational → Rational → Rational
unfolding Rational
◌⊕◌ =
    Quotient.lift₂ crosswise_setoid crosswise_setoid Rational-set (λ x y. ⟦ plus x y ⟧)
    (λ x y z w p q. same_value (plus x y) (plus z w) (plus_≐ x y z w p q))

pub ◌⊗◌ : Rational → Rational → Rational
unfolding Rational
◌⊗◌ =
    Quotient.lift₂ crosswise_setoid crosswise_setoid Rational-set (λ x y. ⟦ times x y ⟧)
    (λ x y z w p q. same_value (times x y) (times z w) (times_≐ x y z w p q))

-- n
unfoldable pub nat : ℕ → Rational
nat n = ⟦ whole n ⟧

-- 1 over m; 0 for m = 0
unfoldable pub inv : ℕ → Rational
inv m = ⟦ unit m ⟧

pub plus_⊕ : (x y : Fraction) → ⟦ plus x y ⟧ ≡ ⟦ x ⟧ ⊕ ⟦ y ⟧
unfolding Rational ⟦◌⟧ ◌⊕◌ Quotient.lift₂
plus_⊕ x y = refl

pub times_⊗ : (x y : Fraction) → ⟦ times x y ⟧ ≡ ⟦ x ⟧ ⊗ ⟦ y ⟧
unfolding Rational ⟦◌⟧ ◌⊗◌ Quotient.lift₂
times_⊗ x y = refl

-- What is to be shown of rationals need be shown of fractions only.
pub by_two : (P : Rational → Rational → Type 0) → ((a b : Rational) → IsProp (P a b)) → ((x y : Fraction) → P ⟦ x ⟧ ⟦ y ⟧) → (a b : Rational) → P a b
unfolding Rational ⟦◌⟧
by_two P prop h a b = Quotient.induction_on₂ crosswise_setoid crosswise_setoid prop a b h

pub equal_one : (f g : Rational → Rational) → ((x : Fraction) → f ⟦ x ⟧ ≡ g ⟦ x ⟧) → (a : Rational) → f a ≡ g a
unfolding Rational ⟦◌⟧
equal_one f g h = ind (λ a. Rational-set (f a) (g a)) h

pub equal_two : (f g : Rational → Rational → Rational) → ((x y : Fraction) → f ⟦ x ⟧ ⟦ y ⟧ ≡ g ⟦ x ⟧ ⟦ y ⟧) → (a b : Rational) → f a b ≡ g a b
equal_two f g h = by_two (λ a b. f a b ≡ g a b) (λ a b. Rational-set (f a b) (g a b)) h

pub equal_three : (f g : Rational → Rational → Rational → Rational) → ((x y z : Fraction) → f ⟦ x ⟧ ⟦ y ⟧ ⟦ z ⟧ ≡ g ⟦ x ⟧ ⟦ y ⟧ ⟦ z ⟧)
    → (a b c : Rational) → f a b c ≡ g a b c
unfolding Rational ⟦◌⟧
equal_three f g h a b c =
    Quotient.induction_on₃ crosswise_setoid crosswise_setoid crosswise_setoid (λ a b c. Rational-set (f a b c) (g a b c)) a b c h
