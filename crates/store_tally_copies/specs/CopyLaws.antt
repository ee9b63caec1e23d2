-- Tallies compared with the counts, by the first number and the others.
use Rattle.std.specs.Prelude.{◌≡◌, false, ◌≢◌, List, [], ◌∷◌, ℕ, zero, suc, ◌+◌, ◌-◌, ◌≤◌, ◌<◌, length, get_or, set, take, drop}
use Rattle.std.proofs.Common.{sym, ◌∙◌, ⊎_elim, not-suc-le-zero, zero-add, suc-add, arith, eq-eqb, ne_eqb, length-set, length-drop, take_all, get_or-set_same, get_or-set_other, get_or-drop, ext_get_or}
use Rattle.base.specs.Lists.{equal_lists}
use Rattle.base.specs.CaseLaws.{lt_or_ge}

pub first_other : (tallies counts : List ℕ) → 0 < length tallies → get_or tallies 0 0 ≢ 0 → false ≡ equal_lists tallies (0 ∷ drop 1 counts)
unfolding equal_lists
first_other [] counts some h = absurd (not-suc-le-zero some)
first_other (x ∷ xs) counts some h = rw (ne_eqb x 0 h)

pub first_zero : (tallies counts : List ℕ) → 0 < length tallies → get_or tallies 0 0 ≡ 0
    → equal_lists (drop 1 tallies) (drop 1 counts) ≡ equal_lists tallies (0 ∷ drop 1 counts)
unfolding equal_lists
first_zero [] counts some h = absurd (not-suc-le-zero some)
first_zero (x ∷ xs) counts some h = rw (eq-eqb x 0 h)

-- The numbers behind the first one.
pub behind_first : (numbers : List ℕ) → take (length numbers - 1) (drop 1 numbers) ≡ drop 1 numbers
behind_first numbers = take_all (length numbers - 1) (drop 1 numbers) (omega (arith, length-drop 1 numbers))

-- ---- the loop that copies

-- The tallies are copied from the counts from number 1 on, before the number k, and number 0 is x.
pub record CopiedTo (x : ℕ) (counts : List ℕ) (k : ℕ) (tallies : List ℕ) : Type 0 where
  pub lengths : length tallies ≡ length counts
  pub first : get_or tallies 0 0 ≡ x
  pub others : (i : ℕ) → 0 < i → i < k → get_or tallies i 0 ≡ get_or counts i 0

pub copied : {x : ℕ} {tallies counts : List ℕ} {k : ℕ} → 0 < length counts → length counts ≤ k → CopiedTo x counts k tallies → tallies ≡ x ∷ drop 1 counts
copied {x} {tallies} {counts} some all w =
    ext_get_or 0 tallies (x ∷ drop 1 counts) (w.lengths ∙ omega (arith, length-drop 1 counts)) at
  where
    at : (i : ℕ) → i < length tallies → get_or tallies i 0 ≡ get_or (x ∷ drop 1 counts) i 0
    at zero h = w.first
    at (suc i) h =
        let next : 1 + i ≡ suc i = suc-add 0 i ∙ rw (zero-add i) in
        w.others (suc i) (omega arith) (omega (arith, w.lengths)) ∙ sym (rw next at (get_or-drop 1 counts i 0))

-- One number more.
pub copied_next : {x : ℕ} {tallies counts : List ℕ} {k : ℕ} → 0 < k → k < length counts → CopiedTo x counts k tallies
    → CopiedTo x counts (k + 1) (set tallies k (get_or counts k 0))
copied_next {x} {tallies} {counts} {k} some less w = record {
  lengths = length-set tallies k (get_or counts k 0) ∙ w.lengths;
  first = get_or-set_other tallies k 0 (get_or counts k 0) 0 (λ e. omega (arith, e)) ∙ w.first;
  others = λ i pos h.
      ⊎_elim
      (λ (before : i < k). get_or-set_other tallies k i (get_or counts k 0) 0 (λ e. omega (arith, e, before)) ∙ w.others i pos before)
      (λ (from : k ≤ i).
      let here : i ≡ k = omega arith in
      rw here (get_or-set_same tallies k (get_or counts k 0) 0 (omega (arith, w.lengths))))
      (lt_or_ge i k);
}
