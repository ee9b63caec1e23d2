-- The search for a tied group, boat by boat: back to its first, and on to its last.
use Rattle.std.specs.Prelude.{Bool, ◌≡◌}
use Rattle.std.proofs.Math.Bool.{true, false}
use Rattle.std.proofs.Math.Path.{refl, sym, ap}
use Rattle.std.proofs.Common.{◌∙◌, ⊎_elim, add-one}
use Prim.Native.Nat.{ℕ, zero, suc, ◌+◌, ◌-◌, ◌≤◌, ◌<◌}
use native.Mathlib.Omega.{arith}
use Rattle.base.specs.BoolLaws.{true_or_false}
use Rattle.store_ties.specs.Groups.{group_first, tied_from, group_end}
use Rattle.store_ties.specs.Steps.{FirstBefore, EndFrom}

module _ (tied : ℕ → Bool) where
  -- The two cases of a boat: she tied with the boat before her, or not.
  module _ {A : Type 0} (i : ℕ) where
    pub by_tie : (tied i ≡ true → A) → (tied i ≡ false → A) → A
    by_tie f g = ⊎_elim f g (true_or_false (tied i))

  pub first_untied : (i : ℕ) → tied i ≡ false → group_first tied i ≡ i
  unfolding group_first
  first_untied zero is = refl
  first_untied (suc i) is = rw (group_first, is)

  pub first_tied : (i : ℕ) → tied i ≡ true → group_first tied i ≡ group_first tied (i - 1)
  unfolding group_first
  first_tied zero is = refl
  first_tied (suc i) is = let before : suc i - 1 ≡ i = omega arith in rw (group_first, is, before) refl

  pub from_untied : (k i : ℕ) → tied i ≡ false → tied_from tied k i ≡ 0
  unfolding tied_from
  from_untied zero i is = refl
  from_untied (suc k) i is = rw (tied_from, is)

  pub from_tied : (k i : ℕ) → tied i ≡ true → tied_from tied (suc k) i ≡ suc (tied_from tied k (suc i))
  unfolding tied_from
  from_tied k i is = rw (tied_from, is) refl

-- ---- back

pub first_start : {tied : ℕ → Bool} {i : ℕ} → FirstBefore tied i (i + 1) true
first_start {i = i} = let last : i + 1 - 1 ≡ i = omega arith in record { same = rw last refl }

module _ {tied : ℕ → Bool} {i k : ℕ} where
  -- the last boat: whether she tied with the boat before her tells whether the group goes on to that one
  pub back_boat : FirstBefore tied i k true → FirstBefore tied i (k - 1) (tied (k - 1))
  back_boat w = record {
    same = w.same
        ∙ by_tie tied (k - 1) (λ is. rw is (first_tied tied (k - 1) is)) (λ is. rw is (first_untied tied (k - 1) is));
  }

  -- the group does not go on
  pub back_first : FirstBefore tied i k false → k ≡ group_first tied i
  back_first w = sym w.same

  -- no boat is left
  pub back_zero : (joined : Bool) → FirstBefore tied i k joined → k ≡ 0 → 0 ≡ group_first tied i
  unfolding group_first
  back_zero true w none = sym (w.same ∙ rw none refl)
  back_zero false w none = sym (w.same ∙ none)

-- ---- on

pub end_next : {tied : ℕ → Bool} {N i : ℕ} → EndFrom tied N i (i + 1)
unfolding group_end
end_next {i = i} = record { end = rw (add-one i) refl }

module _ {tied : ℕ → Bool} {N i k : ℕ} (w : EndFrom tied N i k) where
  pub end_tied_lem : tied k ≡ true → k < N → EndFrom tied N i (k + 1)
  end_tied_lem is more =
      let left : N - k ≡ suc (N - (k + 1)) = omega arith in
      record {
        end = rw (add-one k)
            (w.end ∙ omega (arith, ap (λ (n : ℕ). tied_from tied n k) left, from_tied tied (N - (k + 1)) k is, ap (λ (n : ℕ). tied_from tied (N - n) (suc k)) (add-one k)));
      }

  pub end_untied : tied k ≡ false → k ≡ group_end tied N i
  end_untied is = omega (arith, w.end, from_untied tied (N - k) k is)

  pub end_all : N ≤ k → k ≡ group_end tied N i
  unfolding tied_from
  end_all past = let none : N - k ≡ 0 = omega arith in omega (arith, w.end, ap (λ (n : ℕ). tied_from tied n k) none)
