-- Where values can be told apart, programs with the same table of shares end with a value in common; a value that a program can end
-- with has a positive share.
use Rattle.std.specs.Prelude.{◌≡◌, Bool, ◌⊎◌, ◌≢◌, ℕ, zero, suc, ◌<◌}
use Rattle.std.proofs.Math.Path.{refl, subst}
use Rattle.std.proofs.Common.{sym, ◌∙◌, arith}
use Rattle.std.proofs.Math.Bool.{true, false}
use Rattle.std.proofs.Math.Logic.{inl, inr, ⊎_elim}
use mathlib.Core.List.{List, [], ◌∷◌}
use Rattle.draw_shares.specs.Fraction.{◌≐◌, whole}
use Rattle.draw_shares.specs.Rational.{Rational, ◌⊕◌, nat, inv, same_value, crosswise}
use Rattle.draw_shares.specs.RationalLaws.{mul_zero, mul_assoc, one_mul, zero_add, add_comm, nat_inv, zero_left, one_not_zero}
use Rattle.draw_shares.specs.Program.{Program, done, draw, Live, Draws, Ends}
use Rattle.draw_shares.specs.Course.{Follows, share}
use Rattle.draw_shares.specs.Apart.{EqualityTest}
use Rattle.draw_shares.specs.Same.{sum, mean, expect}
use Rattle.draw_shares.specs.Sum.{sum_suc}
use Rattle.draw_shares.proofs.ShareLaws.{indicator, share_expect}

-- ---- sums that are 0

sum_zero_terms : (m : ℕ) (h : ℕ → Rational) → sum m h ≡ nat 0 → (f : ℕ) → f < m → h f ≡ nat 0
sum_zero_terms zero h e f l = absurd (omega arith)
sum_zero_terms (suc m) h e f l =
    let z : sum m h ⊕ h m ≡ nat 0 = sym (sum_suc m h) ∙ e in
    ⊎_elim
    (λ (d : f ≡ m). rw d (zero_left (h m) (sum m h) (add_comm (h m) (sum m h) ∙ z)))
    (λ (d : f ≢ m). sum_zero_terms m h (zero_left (sum m h) (h m) z) f (omega arith))
    (Rattle.base.specs.CaseLaws.eq_or_ne f m)

mean_zero_terms : (m : ℕ) (h : ℕ → Rational) → mean m h ≡ nat 0 → (f : ℕ) → f < m → h f ≡ nat 0
unfolding mean
mean_zero_terms m h e f l =
    sum_zero_terms m h
    (sym (one_mul (sum m h)) ∙ rw (← nat_inv m (omega arith)) (mul_assoc (nat m) (inv m) (sum m h) ∙ rw e (mul_zero (nat m)))) f l

some_term : (X : Type 0) (m : ℕ) (h : ℕ → Rational) → ((f : ℕ) → f < m → X ⊎ (h f ≡ nat 0)) → X ⊎ (sum m h ≡ nat 0)
unfolding sum
some_term X zero h k = inr refl
some_term X (suc m) h k =
    ⊎_elim (λ x. inl x)
    (λ (z : sum m h ≡ nat 0). ⊎_elim (λ x. inl x) (λ (y : h m ≡ nat 0). inr (rw (z, y) (zero_add (nat 0)))) (k m (omega arith)))
    (some_term X m h (λ f l. k f (omega arith)))

module _ {A : Type 0} where
  -- A value at the end of a run of faces that the program allows has a share that is not 0.
  follows_counts : (g : A → Rational) (p : Program A) (faces : List ℕ) (a : A) → Follows p faces a → g a ≡ nat 1 → expect p g ≢ nat 0
  unfolding Follows expect
  follows_counts g (done b) [] a e one z = one_not_zero (sym one ∙ subst (λ (x : A). g x ≡ nat 0) e z)
  follows_counts g (done b) (f ∷ fs) a e one z = absurd e
  follows_counts g (draw m p) [] a e one z = absurd e
  follows_counts g (draw m p) (f ∷ fs) a e one z =
      follows_counts g (p f) fs a e.1 one (mean_zero_terms m (λ i. expect (p i) g) z f e.0)

  pub follows_share : (test : A → Bool) (p : Program A) (faces : List ℕ) (a : A) → Follows p faces a → test a ≡ true → ¬ (share test p ≐ whole 0)
  unfolding indicator nat
  follows_share test p faces a e one z =
      follows_counts (λ x. indicator (test x)) p faces a e (rw one)
      (sym (share_expect test p) ∙ same_value (share test p) (whole 0) z)

  -- Either a value passes the test at the end of some run, or the share of the test is 0.
  found : (R : A → Type 0) (test : A → Bool) (p : Program A) → Ends R p
      → ((a : A) × R a × (test a ≡ true)) ⊎ (expect p (λ a. indicator (test a)) ≡ nat 0)
  unfolding expect Ends mean indicator
  found R test (done a) e = one (test a) refl
    where
      one : (b : Bool) → test a ≡ b → ((x : A) × R x × (test x ≡ true)) ⊎ (indicator (test a) ≡ nat 0)
      one true d = inl (a, e, d)
      one false d = inr (rw d)
  found R test (draw m p) e =
      ⊎_elim (λ x. inl x)
      (λ (z : sum m (λ f. expect (p f) (λ a. indicator (test a))) ≡ nat 0). inr (rw z (mul_zero (inv m))))
      (some_term ((a : A) × R a × (test a ≡ true)) m (λ f. expect (p f) (λ a. indicator (test a))) (λ f l. found R test (p f) (e f l)))

  -- A test whose share is not 0 passes at the end of some run.
  pub share_found : (R : A → Type 0) (test : A → Bool) (p : Program A) → Ends R p → ¬ (share test p ≐ whole 0) → (a : A) × R a × (test a ≡ true)
  unfolding nat
  share_found R test p e pos =
      ⊎_elim (λ x. x)
      (λ z. absurd (pos (crosswise (share test p) (whole 0) (share_expect test p ∙ z))))
      (found R test p e)

  -- A live program allows some run of faces.
  pub some_run : (R : A → Type 0) (p : Program A) → Live p → Ends R p → (faces : List ℕ) × (a : A) × Follows p faces a × R a
  unfolding Draws Ends Follows
  some_run R (done a) l e = ([], a, refl, e)
  some_run R (draw m p) l e =
      let r = some_run R (p 0) (l.1 0 l.0) (e 0 l.0) in
      (0 ∷ r.0, r.1, (l.0, r.2), r.3)

  -- Where every value has the same share in both programs, some value ends both; so where no value can, the tables differ.
  pub tables_meet : (R Q : A → Type 0) (equal : A → A → Bool) (p q : Program A) → EqualityTest equal → Live p → Ends R p → Ends Q q
      → ((v : A) → share (equal v) p ≐ share (equal v) q)
      → (a : A) × R a × Q a
  tables_meet R Q equal p q test live r e tables =
      let s = some_run R p live r in
      let positive : ¬ (share (equal s.1) q ≐ whole 0) =
      λ z. follows_share (equal s.1) p s.0 s.1 s.2 (test.itself s.1)
      (Rattle.draw_shares.specs.Rational.≐_trans (share (equal s.1) p) (share (equal s.1) q) (whole 0) (tables s.1) z) in
      let w = share_found Q (equal s.1) q e positive in
      (w.0, subst R (test.sound s.1 w.0 w.2) s.3, w.1)
