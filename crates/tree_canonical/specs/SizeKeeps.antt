-- The size step keeps the canonical distribution of the size parameter.
use Rattle.std.specs.Prelude.{◌≡◌, refl, ℕ, zero, suc, ◌+◌, ◌-◌, ◌*◌, ◌≤◌, ◌<◌}
use Rattle.std.proofs.Common.{sym, ◌∙◌, ap, ap₂, arith, add-one}
use Rattle.base.specs.Cases.{if_eq, if_lt}
use Rattle.base.specs.CaseLaws.{if_eq_yes, if_eq_no, if_lt_yes, if_lt_no, if_le_yes, if_le_no}
use Rattle.draw_shares.specs.Program.{Program, done, ◌>>=◌}
use Rattle.draw_shares.specs.ProgramLaws.{done_bind}
use Rattle.draw_shares.specs.Rational.{Rational, ◌⊕◌, ◌⊗◌, nat, inv}
use Rattle.draw_shares.specs.RationalLaws.{nat_inv_cancel}
use Rattle.draw_shares.specs.Same.{sum, mean, expect, ◌≈◌}
use Rattle.draw_shares.specs.Sum.{mean_cong, mean_const, sum_cong, sum_const, sum_front, sum_split}
use Rattle.draw_shares.specs.SameLaws.{≈_sym, ≈_trans, ≈_path, draw_one, expect_bind}
use Rattle.draw_shares.specs.Reservoir.{expect_face_zero}
use Rattle.tree_rules.specs.declared.Change.{Change}
use Rattle.tree_rules.specs.declared.Change.TheVariants.{Insert, Delete}
use Rattle.tree_rules.specs.Compare.{count_after}
use Rattle.tree_rules.specs.Rules.{size_after, InReach, SizeStep, kept, anew, grow, insert_size, shrink, delete_size, size_step}
use Rattle.tree_canonical.specs.Canonical.{canonical_size, new_size}
use Rattle.tree_canonical.specs.SizeSums.{grow_sum, shrink_sum}

-- what g gives the size parameter after a size step from M
abbrev after : (ℕ → Rational) → ℕ → SizeStep → Rational
after g M step = g (size_after M step)

new_size_lem : (change : Change) (N M : ℕ) (g : ℕ → Rational) → expect (new_size change N M) g ≡ expect (size_step change N M) (after g M)
unfolding new_size expect
new_size_lem change N M g = expect_bind (size_step change N M) (λ step. done (size_after M step)) g

-- ---- an entry comes in

-- the mean over a size set anew
abbrev grown : ℕ → (ℕ → Rational) → Rational
grown N g = mean 2 (λ j. g (2 * N + j))

grow_mean : (N M : ℕ) (g : ℕ → Rational) → expect (grow N) (after g M) ≡ grown N g
unfolding grow expect size_after
grow_mean N M g = refl

insert_least : (n M : ℕ) (g : ℕ → Rational) → M ≡ suc n → expect (insert_size (suc n) M) (after g M) ≡ grown (suc n) g
unfolding insert_size
insert_least n M g e = rw (if_eq_no (suc n) 0 (done (anew 1)) _ (omega arith), if_eq_yes M (suc n) (grow (suc n)) _ e) (grow_mean (suc n) M g)

insert_larger : (n M : ℕ) (g : ℕ → Rational) → suc n < M
    → expect (insert_size (suc n) M) (after g M) ≡ inv (suc (suc n)) ⊗ (grown (suc n) g ⊕ nat (suc n) ⊗ g M)
unfolding insert_size expect size_after
insert_larger n M g l =
    rw (if_eq_no (suc n) 0 (done (anew 1)) _ (omega arith), if_eq_no M (suc n) (grow (suc n)) _ (λ e. omega arith), add-one (suc n))
    (expect_face_zero (suc n) (grow (suc n)) (done kept) (after g M) ∙ rw (grow_mean (suc n) M g))

-- the sizes that are kept, and the two new ones
grow_window : (n : ℕ) (g : ℕ → Rational)
    → sum (suc (suc n)) (λ f. g (suc (suc n) + f)) ≡ sum n (λ k. g (suc n + suc k)) ⊕ nat 2 ⊗ grown (suc n) g
unfolding mean
grow_window n g =
    ap (λ (m : ℕ). sum m (λ f. g (suc (suc n) + f))) (omega arith)
    ∙ sum_split n 2 (λ f. g (suc (suc n) + f))
    ∙ rw (nat_inv_cancel 2 (sum 2 (λ j. g (2 * suc n + j))) (omega arith))
    (ap₂ (λ (u v : Rational). u ⊕ v) (sum_cong n (λ k _. ap g (omega arith))) (sum_cong 2 (λ k _. ap g (omega arith))))

insert_keeps : (n : ℕ) (g : ℕ → Rational)
    → mean (suc n) (λ f. expect (insert_size (suc n) (suc n + f)) (after g (suc n + f))) ≡ mean (suc (suc n)) (λ f. g (suc (suc n) + f))
unfolding mean
insert_keeps n g =
    grow_sum n (λ f. expect (insert_size (suc n) (suc n + f)) (after g (suc n + f))) (λ k. g (suc n + suc k)) (grown (suc n) g)
    (insert_least n (suc n + 0) g (omega arith))
    (λ k l. insert_larger n (suc n + suc k) g (omega arith))
    ∙ ap (λ (u : Rational). inv (suc (suc n)) ⊗ u) (sym (grow_window n g))

-- ---- an entry goes out

delete_kept : (n M : ℕ) (g : ℕ → Rational) → M < 2 * suc (suc n) - 2 → expect (delete_size (suc (suc n)) M) (after g M) ≡ g M
unfolding delete_size expect size_after
delete_kept n M g l =
    rw (if_eq_no (suc (suc n)) 1 (done (anew 0)) _ (λ e. omega arith), if_le_no (2 * suc (suc n) - 2) M (shrink (suc (suc n))) (done kept) l)

shrink_mean : (n M : ℕ) (g : ℕ → Rational)
    → expect (shrink (suc (suc n))) (after g M) ≡ inv (2 * suc n) ⊗ (sum n (λ f. g (suc (suc n) + f)) ⊕ nat (suc (suc n)) ⊗ g (suc n))
unfolding shrink expect size_after mean
shrink_mean n M g =
    let e₁ : 2 * suc (suc n) - 2 ≡ 2 * suc n = omega arith in
    let e₂ : suc (suc n) - 2 ≡ n = omega arith in
    let e₃ : suc (suc n) - 1 ≡ suc n = omega arith in
    rw (e₁, e₂, e₃)
    (ap (λ (u : Rational). inv (2 * suc n) ⊗ u)
    (ap (λ (m : ℕ). sum m (λ f. g (if_lt f n (suc (suc n) + f) (suc n)))) (omega arith)
    ∙ sum_split n (suc (suc n)) (λ f. g (if_lt f n (suc (suc n) + f) (suc n)))
    ∙ ap₂ (λ (u v : Rational). u ⊕ v)
    (sum_cong n (λ f l. rw (if_lt_yes f n (suc (suc n) + f) (suc n) l)))
    (sum_cong (suc (suc n)) {k = λ f. g (suc n)} (λ f l. rw (if_lt_no (n + f) n (suc (suc n) + (n + f)) (suc n) (omega arith)))
    ∙ sum_const (suc (suc n)) (g (suc n)))))

delete_anew : (n M : ℕ) (g : ℕ → Rational) → 2 * suc (suc n) - 2 ≤ M
    → expect (delete_size (suc (suc n)) M) (after g M) ≡ expect (shrink (suc (suc n))) (after g M)
unfolding delete_size
delete_anew n M g l =
    rw (if_eq_no (suc (suc n)) 1 (done (anew 0)) _ (λ e. omega arith), if_le_yes (2 * suc (suc n) - 2) M (shrink (suc (suc n))) (done kept) l)

shrink_window : (n : ℕ) (g : ℕ → Rational) → sum (suc n) (λ f. g (suc n + f)) ≡ g (suc n) ⊕ sum n (λ f. g (suc (suc n) + f))
shrink_window n g =
    sum_front n (λ f. g (suc n + f)) ∙ ap₂ (λ (u v : Rational). u ⊕ v) (ap g (omega arith)) (sum_cong n (λ f _. ap g (omega arith)))

delete_keeps : (n : ℕ) (g : ℕ → Rational)
    → mean (suc (suc n)) (λ f. expect (delete_size (suc (suc n)) (suc (suc n) + f)) (after g (suc (suc n) + f)))
    ≡ mean (suc n) (λ f. g (suc n + f))
unfolding mean
delete_keeps n g =
    shrink_sum n (λ f. expect (delete_size (suc (suc n)) (suc (suc n) + f)) (after g (suc (suc n) + f))) (λ f. g (suc (suc n) + f)) (g (suc n))
    (λ f l. delete_kept n (suc (suc n) + f) g (omega arith))
    (λ f l h. delete_anew n (suc (suc n) + f) g (omega arith) ∙ shrink_mean n (suc (suc n) + f) g)
    ∙ ap (λ (u : Rational). inv (suc n) ⊗ u) (sym (shrink_window n g))

-- ---- both

size_bind : (n : ℕ) (k : ℕ → Program ℕ) (g : ℕ → Rational) → expect (canonical_size (suc n) >>= k) g ≡ mean (suc n) (λ f. expect (k (suc n + f)) g)
unfolding canonical_size ◌>>=◌ expect
size_bind n k g = refl

size_mean : (n : ℕ) (g : ℕ → Rational) → expect (canonical_size (suc n)) g ≡ mean (suc n) (λ f. g (suc n + f))
unfolding canonical_size expect
size_mean n g = refl

-- the first entry comes in, and the last one goes out
first_entry : (i M : ℕ) → new_size (Insert i) 0 M ≡ done 1
unfolding new_size size_step insert_size if_eq size_after ◌>>=◌
first_entry i M = refl

last_entry : (i M : ℕ) → new_size (Delete i) 1 M ≡ done 0
unfolding new_size size_step delete_size if_eq size_after ◌>>=◌
last_entry i M = refl

pub size_keeps : (change : Change) (N : ℕ) → InReach change N → (canonical_size N >>= new_size change N) ≈ canonical_size (count_after change N)
unfolding count_after size_step canonical_size InReach
size_keeps (Insert i) zero p = ≈_trans (≈_path (from_none i)) (≈_sym to_one)
  where
    from_none : (i : ℕ) → canonical_size 0 >>= new_size (Insert i) 0 ≡ done 1
    from_none i = done_bind 0 (new_size (Insert i) 0) ∙ first_entry i 0

    to_one : canonical_size 1 ≈ done 1
    to_one = draw_one (λ face. done (1 + face))
size_keeps (Insert i) (suc n) p = record {
  means = λ g.
      size_bind n (new_size (Insert i) (suc n)) g
      ∙ mean_cong (suc n) (λ f l. new_size_lem (Insert i) (suc n) (suc n + f) g)
      ∙ insert_keeps n g
      ∙ sym (size_mean (suc n) g);
}
size_keeps (Delete i) zero p = absurd (omega (arith, p))
size_keeps (Delete i) (suc zero) p = record {
  means = λ g.
      size_bind 0 (new_size (Delete i) 1) g
      ∙ mean_cong 1 {k = λ f. expect (done 0) g} (λ f l. rw (last_entry i (1 + f)))
      ∙ mean_const 1 (expect (done 0) g) (omega arith);
}
size_keeps (Delete i) (suc (suc n)) p =
    let e : suc (suc n) - 1 ≡ suc n = omega arith in
    rw e
    record {
      means = λ g.
          size_bind (suc n) (new_size (Delete i) (suc (suc n))) g
          ∙ mean_cong (suc (suc n)) (λ f l. new_size_lem (Delete i) (suc (suc n)) (suc (suc n) + f) g)
          ∙ delete_keeps n g
          ∙ sym (size_mean n g);
    }
