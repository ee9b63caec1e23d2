-- A share is an expectation, so programs with the same expectations have the same shares.
use Rattle.std.specs.Prelude.{◌≡◌, Bool}
use Rattle.std.proofs.Math.Path.{refl, sym, ap}
use Rattle.std.proofs.Common.{◌∙◌}
use Rattle.std.proofs.Math.Bool.{true, false, cond}
use mathlib.Core.List.{List, [], ◌∷◌, ◌++◌, map}
use Prim.Native.Nat.{ℕ, zero, suc}
use Rattle.draw_shares.specs.Fraction.{Fraction, ◌≐◌, whole, unit}
use Rattle.draw_shares.specs.Rational.{Rational, ⟦◌⟧, ◌⊕◌, ◌⊗◌, nat, inv, plus_⊕, crosswise}
use Rattle.draw_shares.specs.RationalLaws.{ring, add_assoc, zero_add, mul_assoc, mul_one, mul_zero, inv_mul, inv_one}
use Rattle.draw_shares.specs.Program.{Program, done, draw, Live}
use Rattle.draw_shares.specs.Course.{Course, concat_below, product, before, courses, course_share, sum_shares, share}
use Rattle.draw_shares.specs.Same.{sum, mean, expect, ◌≈◌}
use Rattle.draw_shares.specs.Sum.{sum_mul, sum_cong}
use Rattle.draw_shares.specs.SameLaws.{expect_const}

-- 1 where the test passes, 0 where not
unfoldable pub indicator : Bool → Rational
indicator b = cond b (nat 1) (nat 0)

module _ {A : Type 0} where
  -- w summed over a list of courses
  over : (Course A → Rational) → List (Course A) → Rational
  over w [] = nat 0
  over w (c ∷ cs) = w c ⊕ over w cs

  over_append : (w : Course A → Rational) (cs ds : List (Course A)) → over w (cs ++ ds) ≡ over w cs ⊕ over w ds
  unfolding over
  over_append w [] ds = sym (zero_add (over w ds))
  over_append w (c ∷ cs) ds = rw (over_append w cs ds) (sym (add_assoc (w c) (over w cs) (over w ds)))

  over_concat : (w : Course A → Rational) (m : ℕ) (h : ℕ → List (Course A)) → over w (concat_below m h) ≡ sum m (λ f. over w (h f))
  unfolding over concat_below sum
  over_concat w zero h = refl
  over_concat w (suc m) h = over_append w (concat_below m h) (h m) ∙ ap (λ (t : Rational). t ⊕ over w (h m)) (over_concat w m h)

  over_map : (x : Rational) (w : Course A → Rational) (t : Course A → Course A) → ((c : Course A) → w (t c) ≡ x ⊗ w c) → (cs : List (Course A))
      → over w (map t cs) ≡ x ⊗ over w cs
  unfolding over
  over_map x w t e [] = sym (mul_zero x)
  over_map x w t e (c ∷ cs) = rw (e c, over_map x w t e cs) (simp ring)

  -- the share of a course times what g gives its end
  abbrev weight : (A → Rational) → Course A → Rational
  weight g c = inv (product c.among) ⊗ g c.end

  weight_before : (m f : ℕ) (g : A → Rational) (c : Course A) → weight g (before m f c) ≡ inv m ⊗ weight g c
  unfolding before product
  weight_before m f g c = rw (inv_mul m (product c.among)) (mul_assoc _ _ _)

  over_courses : (g : A → Rational) (p : Program A) → over (weight g) (courses p) ≡ expect p g
  unfolding over courses expect product mean
  over_courses g (done a) = simp (inv_one, ring)
  over_courses g (draw m p) =
      over_concat (weight g) m (λ f. map (before m f) (courses (p f)))
      ∙ sum_cong m (λ f l.
      over_map (inv m) (weight g) (before m f) (weight_before m f g) (courses (p f))
      ∙ ap (λ (t : Rational). inv m ⊗ t) (over_courses g (p f)))
      ∙ sum_mul m (inv m) (λ f. expect (p f) g)

  term_weight : (test : A → Bool) (c : Course A) → ⟦ cond (test c.end) (course_share c) (whole 0) ⟧ ≡ weight (λ a. indicator (test a)) c
  unfolding course_share indicator nat inv
  term_weight test c = go (test c.end) (unit (product c.among))
    where
      go : (b : Bool) (u : Fraction) → ⟦ cond b u (whole 0) ⟧ ≡ ⟦ u ⟧ ⊗ indicator b
      go true u = sym (mul_one ⟦ u ⟧)
      go false u = sym (mul_zero ⟦ u ⟧)

  sum_over : (test : A → Bool) (cs : List (Course A)) → ⟦ sum_shares test cs ⟧ ≡ over (weight (λ a. indicator (test a))) cs
  unfolding sum_shares over nat
  sum_over test [] = refl
  sum_over test (c ∷ cs) = plus_⊕ _ (sum_shares test cs) ∙ rw (term_weight test c, sum_over test cs)

  pub share_expect : (test : A → Bool) (p : Program A) → ⟦ share test p ⟧ ≡ expect p (λ a. indicator (test a))
  unfolding share
  share_expect test p = sum_over test (courses p) ∙ over_courses (λ a. indicator (test a)) p

  -- Programs that are ≈ give every test the same share, crosswise.
  pub same_shares : {p q : Program A} → p ≈ q → (test : A → Bool) → share test p ≐ share test q
  same_shares {p} {q} e test =
      crosswise (share test p) (share test q)
      (share_expect test p ∙ e.means (λ a. indicator (test a)) ∙ sym (share_expect test q))

  -- The shares of all courses sum to 1.
  pub total_share : (p : Program A) → Live p → share (λ _. true) p ≐ whole 1
  unfolding indicator nat
  total_share p l = crosswise (share (λ _. true) p) (whole 1) (share_expect (λ _. true) p ∙ expect_const p (nat 1) l)
