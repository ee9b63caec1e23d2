-- The two sums behind the size step.
use Rattle.std.specs.Prelude.{◌≡◌, ℕ, suc, ◌*◌, ◌≤◌, ◌<◌}
use Rattle.std.proofs.Common.{sym, ◌∙◌, ap, ap₂, arith}
use Rattle.draw_shares.specs.Rational.{Rational, ◌⊕◌, ◌⊗◌, nat, inv}
use Rattle.draw_shares.specs.RationalLaws.{ring, add_assoc, mul_add, add_mul, mul_assoc, nat_suc, nat_add, nat_mul, inv_mul, inv_cancel, nat_inv_cancel}
use Rattle.draw_shares.specs.Same.{sum, mean}
use Rattle.draw_shares.specs.Sum.{sum_suc, sum_cong, sum_add, sum_mul, sum_const, sum_front}

-- An entry comes in: n + 1 sizes before. The first has the mean H of a size set anew; each other one has H for one face of n + 2 and its
-- own w for the others.
pub grow_sum : (n : ℕ) (t w : ℕ → Rational) (H : Rational)
    → t 0 ≡ H
    → ((k : ℕ) → k < n → t (suc k) ≡ inv (suc (suc n)) ⊗ (H ⊕ nat (suc n) ⊗ w k))
    → mean (suc n) t ≡ inv (suc (suc n)) ⊗ (sum n w ⊕ nat 2 ⊗ H)
unfolding mean
grow_sum n t w H a b =
    ap (λ (u : Rational). inv (suc n) ⊗ u)
    (sum_front n t
    ∙ rw (a, sum_cong n b, sum_mul n (inv (suc (suc n))) (λ k. H ⊕ nat (suc n) ⊗ w k), sum_add n (λ k. H) (λ k. nat (suc n) ⊗ w k), sum_const n H, sum_mul n (nat (suc n)) w)
    (ap (λ (u : Rational). u ⊕ inv (suc (suc n)) ⊗ (nat n ⊗ H ⊕ nat (suc n) ⊗ sum n w)) (sym (inv_cancel (suc (suc n)) H (omega arith)))
    ∙ sym (mul_add (inv (suc (suc n))) (nat (suc (suc n)) ⊗ H) (nat n ⊗ H ⊕ nat (suc n) ⊗ sum n w))
    ∙ ap (λ (u : Rational). inv (suc (suc n)) ⊗ u) count
    ∙ simp ring))
    ∙ inv_cancel (suc n) (inv (suc (suc n)) ⊗ (sum n w ⊕ nat 2 ⊗ H)) (omega arith)
  where
    twice : nat (suc (suc n)) ⊕ nat n ≡ nat (suc n) ⊗ nat 2
    twice = sym (nat_add (suc (suc n)) n) ∙ ap nat (omega arith) ∙ nat_mul (suc n) 2

    count : nat (suc (suc n)) ⊗ H ⊕ (nat n ⊗ H ⊕ nat (suc n) ⊗ sum n w) ≡ nat (suc n) ⊗ (sum n w ⊕ nat 2 ⊗ H)
    count =
        sym (add_assoc _ _ _)
        ∙ ap (λ (u : Rational). u ⊕ nat (suc n) ⊗ sum n w) (sym (add_mul (nat (suc (suc n))) (nat n) H) ∙ ap (λ (u : Rational). u ⊗ H) twice)
        ∙ simp ring

twice_is : (y : Rational) → y ⊕ y ≡ nat 2 ⊗ y
twice_is y = sym (rw (nat_suc 1) (simp ring))

-- An entry goes out: n + 2 sizes before, of which the last two are set anew, to one of n sizes with one face of 2 n + 2 each and to the
-- size of x with the others.
pub shrink_sum : (n : ℕ) (t w : ℕ → Rational) (x : Rational)
    → ((f : ℕ) → f < n → t f ≡ w f)
    → ((f : ℕ) → n ≤ f → f < suc (suc n) → t f ≡ inv (2 * suc n) ⊗ (sum n w ⊕ nat (suc (suc n)) ⊗ x))
    → mean (suc (suc n)) t ≡ inv (suc n) ⊗ (x ⊕ sum n w)
unfolding mean
shrink_sum n t w x a b =
    ap (λ (u : Rational). inv (suc (suc n)) ⊗ u)
    (sum_suc (suc n) t
    ∙ rw (sum_suc n t, sum_cong n a, b n (omega arith) (omega arith), b (suc n) (omega arith) (omega arith))
    (add_assoc _ _ _
    ∙ ap₂ (λ (u v : Rational). u ⊕ v) (sym (inv_cancel (suc n) (sum n w) (omega arith))) last_two
    ∙ sym (mul_add (inv (suc n)) (nat (suc n) ⊗ sum n w) (sum n w ⊕ nat (suc (suc n)) ⊗ x))
    ∙ ap (λ (u : Rational). inv (suc n) ⊗ u) count
    ∙ simp ring))
    ∙ inv_cancel (suc (suc n)) (inv (suc n) ⊗ (x ⊕ sum n w)) (omega arith)
  where
    last_two : inv (2 * suc n) ⊗ (sum n w ⊕ nat (suc (suc n)) ⊗ x) ⊕ inv (2 * suc n) ⊗ (sum n w ⊕ nat (suc (suc n)) ⊗ x)
        ≡ inv (suc n) ⊗ (sum n w ⊕ nat (suc (suc n)) ⊗ x)
    last_two =
        twice_is _
        ∙ rw (inv_mul 2 (suc n), mul_assoc (inv 2) (inv (suc n)) (sum n w ⊕ nat (suc (suc n)) ⊗ x)) (nat_inv_cancel 2 _ (omega arith))

    count : nat (suc n) ⊗ sum n w ⊕ (sum n w ⊕ nat (suc (suc n)) ⊗ x) ≡ nat (suc (suc n)) ⊗ (x ⊕ sum n w)
    count = rw (nat_suc (suc n)) (simp ring)
