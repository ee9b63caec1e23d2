-- The reservoir step: one of c equally likely candidates is held; when one candidate leaves and another enters, a draw among c keeps
-- what is held equally likely among the new candidates.
use Rattle.std.specs.Prelude.{◌≡◌, refl, ◌≢◌, ◌⊎◌}
use Rattle.std.proofs.Common.{sym, ◌∙◌, inl, inr, ⊎_elim, arith}
use Rattle.std.proofs.Math.Path.{ap}
use Prim.Native.Nat.{ℕ, zero, suc, ◌+◌, ◌≤◌, ◌<◌}
use Rattle.base.specs.Cases.{if_eq}
use Rattle.base.specs.CaseLaws.{if_eq_yes, if_eq_no, lt_or_ge}
use Rattle.draw_shares.specs.Rational.{Rational, ◌⊕◌, ◌⊗◌, nat, inv}
use Rattle.draw_shares.specs.RationalLaws.{ring, nat_suc, inv_cancel}
use Rattle.draw_shares.specs.Program.{Program, draw}
use Rattle.draw_shares.specs.Same.{sum, mean, expect, ◌≈◌}
use Rattle.draw_shares.specs.Sum.{sum_cong, sum_add, sum_mul, sum_const, sum_front, sum_skip, skip, skip_lt, skip_ge}

pub skip_case : (j i : ℕ) → ((i < j) × (skip j i ≡ i)) ⊎ ((j ≤ i) × (skip j i ≡ suc i))
skip_case j i = ⊎_elim (λ l. inl (l, skip_lt j i l)) (λ l. inr (l, skip_ge j i l)) (lt_or_ge i j)

pub by_skip : (P : Type 0) (j i : ℕ) → (i < j → skip j i ≡ i → P) → (j ≤ i → skip j i ≡ suc i → P) → P
by_skip P j i l r = ⊎_elim (λ p. l p.0 p.1) (λ p. r p.0 p.1) (skip_case j i)

pub skip_ne : (j i : ℕ) → skip j i ≢ j
skip_ne j i = by_skip (skip j i ≢ j) j i (λ l e. omega arith) (λ l e. omega arith)

pub skip_small : (j i m : ℕ) → i < m → skip j i < suc m
skip_small j i m h = by_skip (skip j i < suc m) j i (λ l e. omega arith) (λ l e. omega arith)

-- Of m + 1 faces one, j, has the mean of the new candidates, whose sum is S; each other face has the entering candidate's x for one
-- face of a second draw, and its own w for the m others.
reservoir_sum : (m j : ℕ) (t w : ℕ → Rational) (x S : Rational)
    → j ≤ m
    → t j ≡ inv (suc m) ⊗ S
    → ((f : ℕ) → f < m → t (skip j f) ≡ inv (suc m) ⊗ (x ⊕ nat m ⊗ w f))
    → sum m w ⊕ x ≡ S
    → mean (suc m) t ≡ inv (suc m) ⊗ S
unfolding mean
reservoir_sum m j t w x S l a b s =
    ap (λ (u : Rational). inv (suc m) ⊗ u) (sum_skip m j t l ∙ rw (a, others) together ∙ inv_cancel (suc m) S (omega arith))
  where
    others : sum m (λ f. t (skip j f)) ≡ inv (suc m) ⊗ (nat m ⊗ S)
    others =
        sum_cong m b
        ∙ sum_mul m (inv (suc m)) (λ f. x ⊕ nat m ⊗ w f)
        ∙ ap (λ (u : Rational). inv (suc m) ⊗ u)
        (sum_add m (λ f. x) (λ f. nat m ⊗ w f) ∙ rw (sum_const m x, sum_mul m (nat m) w, ← s) (simp ring))

    together : inv (suc m) ⊗ (nat m ⊗ S) ⊕ inv (suc m) ⊗ S ≡ inv (suc m) ⊗ (nat (suc m) ⊗ S)
    together = rw (nat_suc m) (simp ring)

module _ {A : Type 0} where
  -- a draw that looks at face 0 alone
  pub expect_face_zero : (m : ℕ) (p q : Program A) (g : A → Rational)
      → expect (draw (suc m) (λ k. if_eq k 0 p q)) g ≡ inv (suc m) ⊗ (expect p g ⊕ nat m ⊗ expect q g)
  unfolding expect mean
  expect_face_zero m p q g =
      ap (λ (u : Rational). inv (suc m) ⊗ u)
      (sum_front m (λ k. expect (if_eq k 0 p q) g)
      ∙ rw (if_eq_yes 0 0 p q refl)
      (ap (λ (u : Rational). expect p g ⊕ u) (sum_cong m (λ f l. rw (if_eq_no (suc f) 0 p q (omega arith))) ∙ sum_const m (expect q g))))

  -- The candidates of the faces below c have the ranks `now f` after a change, but that of the face `leaving` is gone and the rank
  -- `entering` has come in; together they are the ranks from `first` on. Held is face f. Where f leaves, the range is drawn anew; else
  -- face 0 of a draw among c takes the entering one, and any other face keeps what is held. `given r` goes on with the rank r held.
  pub reservoir : (c leaving entering first : ℕ) (now : ℕ → ℕ) (given down : ℕ → Program A)
      → leaving < c
      → ((v : ℕ → Rational) → sum c (λ f. v (if_eq f leaving entering (now f))) ≡ sum c (λ f. v (first + f)))
      → ((f : ℕ) → f < c → f ≢ leaving → down f ≈ given (now f))
      → draw c (λ f. if_eq f leaving (draw c (λ k. given (first + k))) (draw c (λ k. if_eq k 0 (given entering) (down f))))
      ≈ draw c (λ f. given (first + f))
  unfolding expect mean
  reservoir zero j e a φ W down l M d = absurd (omega arith)
  reservoir (suc m) j e a φ W down l M d = record {
    means = λ g.
        reservoir_sum m j
        (λ f. expect (if_eq f j (draw (suc m) (λ k. W (a + k))) (draw (suc m) (λ k. if_eq k 0 (W e) (down f)))) g)
        (λ f. expect (W (φ (skip j f))) g) (expect (W e) g) (sum (suc m) (λ f. expect (W (a + f)) g))
        (omega arith)
        (rw (if_eq_yes j j (draw (suc m) (λ k. W (a + k))) (draw (suc m) (λ k. if_eq k 0 (W e) (down j))) refl))
        (λ f h.
        rw (if_eq_no (skip j f) j (draw (suc m) (λ k. W (a + k))) (draw (suc m) (λ k. if_eq k 0 (W e) (down (skip j f)))) (skip_ne j f))
        (expect_face_zero m (W e) (down (skip j f)) g ∙ rw ((d (skip j f) (skip_small j f m h) (skip_ne j f)).means g)))
        (sym
        (sum_skip m j (λ f. expect (W (if_eq f j e (φ f))) g) (omega arith)
        ∙ rw (if_eq_yes j j e (φ j) refl)
        (ap (λ (u : Rational). u ⊕ expect (W e) g) (sum_cong m (λ f h. rw (if_eq_no (skip j f) j e (φ (skip j f)) (skip_ne j f))))))
        ∙ M (λ r. expect (W r) g));
  }
