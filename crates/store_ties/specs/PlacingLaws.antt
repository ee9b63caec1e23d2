-- What the boats of tied groups have: a retired boat has no place, a scoring boat alone has her own one, and the sums of all groups are the places
-- from 1 on.
use Rattle.std.specs.Prelude.{Bool, true, false, not, List, [], ◌∷◌, map, ◌≡◌, length, get_or, take}
use Rattle.std.proofs.Math.Path.{refl, sym, ap, ap₂, fun_ext}
use Rattle.std.proofs.Common.{◌∙◌, mod-eq_of_lt, length-take-le}
use Rattle.std.proofs.Math.Logic.{⊎_elim}
use Prim.Native.Nat.{ℕ, zero, suc, ◌+◌, ◌-◌, ◌%◌, ◌^◌, ◌≤◌, ◌<◌}
use Rattle.std.proofs.Math.Numerals.{add-one}
use native.Mathlib.Omega.{arith}
use Rattle.std.proofs.Math.ListN.{get_or-map}
use Rattle.std.proofs.lemmas.Bool.{lt-leb, not-true}
use Rattle.base.specs.BoolLaws.{and_both}
use Rattle.base.specs.CaseLaws.{lt_or_ge, if_eq_yes, if_eq_no}
use Rattle.base.specs.Lists.{Every}
use Rattle.base.specs.ListLaws.{every_get_d}
use Rattle.store_scoring.specs.Scoring.{retired_bit, tally, none_retired}
use Rattle.store_scoring.specs.ScoringLaws.{none_parts, none_tally}
use Rattle.store_ties.specs.Groups.{group_first, tied_from, group_end, places_sum, placing, placing_of, single, sums_from, group_sums}
use Rattle.store_ties.specs.Ties.{tie_bit, ties_from, tied_in, no_place, placing_in}
use Rattle.store_ties.specs.TiesLaws.{ties_scoring}
use Rattle.store_ties.specs.StepLaws.{by_tie, first_untied, first_tied, from_untied, from_tied}
use Rattle.store_ties.specs.SumLaws.{sum_append}
use Rattle.store_ties.specs.GroupLaws.{first_most, from_most}

-- ---- retired and scoring boats

module _ (list : List ℕ) (i : ℕ) where
  pub retired_placing : retired_bit (get_or list i 0) ≡ true → placing_in list i ≡ no_place
  unfolding placing_in
  retired_placing is = rw (is, placing_in)

  pub scoring_placing : retired_bit (get_or list i 0) ≡ false → placing_in list i ≡ placing_of (tied_in list) (tally list) (tally (take i list))
  unfolding placing_in
  scoring_placing is = rw (is, placing_in)

-- ---- a boat alone

module _ (tied : ℕ → Bool) (N : ℕ) where
  first_alone : (i : ℕ) → (0 < i → tied i ≡ false) → group_first tied i ≡ i
  unfolding group_first
  first_alone zero before = refl
  first_alone (suc i) before = first_untied tied (suc i) (before (omega arith))

  end_alone : (i : ℕ) → (suc i < N → tied (suc i) ≡ false) → group_end tied N i ≡ suc i
  unfolding group_end tied_from
  end_alone i behind =
      ⊎_elim
      (λ (more : suc i < N). omega (arith, from_untied tied (N - suc i) (suc i) (behind more)))
      (λ (last : N ≤ suc i).
      let none : N - suc i ≡ 0 = omega arith in
      omega (arith, ap (λ (k : ℕ). tied_from tied k (suc i)) none))
      (lt_or_ge (suc i) N)

  -- A boat that tied neither with the boat before her nor with the one behind.
  pub alone : (i : ℕ) → (0 < i → tied i ≡ false) → (suc i < N → tied (suc i) ≡ false) → placing_of tied N i ≡ single i
  unfolding placing_of placing places_sum
  alone i before behind =
      let one : suc i - i ≡ 1 = omega arith in
      let own : suc i + 0 ≡ i + 1 = omega arith in
      rw (first_alone i before, end_alone i behind, one, own, add-one i) refl

-- ---- lists without retired boats

none_at : (list : List ℕ) → none_retired list ≡ true → (i : ℕ) → i < length list → retired_bit (get_or list i 0) ≡ false
unfolding none_retired
none_at [] none i below = absurd (omega arith)
none_at (e ∷ list) none zero below = not-true (retired_bit e) (and_both (not (retired_bit e)) (none_retired list) none).0
none_at (e ∷ list) none (suc i) below = none_at list (and_both (not (retired_bit e)) (none_retired list) none).1 i (omega arith)

-- Each boat ties by her own bit.
none_ties : (list : List ℕ) → none_retired list ≡ true → ties_from true list ≡ map tie_bit list
unfolding none_retired ties_from
none_ties [] none = refl
none_ties (e ∷ list) none =
    let both = and_both (not (retired_bit e)) (none_retired list) none in
    ties_scoring true e list (not-true (retired_bit e) both.0) ∙ ap (λ (bs : List Bool). tie_bit e ∷ bs) (none_ties list both.1)

none_tied : (list : List ℕ) → none_retired list ≡ true → tied_in list ≡ (λ j. tie_bit (get_or list j 0))
unfolding tie_bit
none_tied list none = fun_ext (λ j. ap (λ (bs : List Bool). get_or bs j false) (none_ties list none) ∙ get_or-map tie_bit list j 0)

-- Where no boat is retired, F-11 is the rule of F-3: every boat has her rank among the scoring boats, and ties by her own bit.
pub none_retired_lem : (list : List ℕ) → none_retired list ≡ true → (i : ℕ) → i < length list
    → placing_in list i ≡ placing_of (λ j. tie_bit (get_or list j 0)) (length list) i
none_retired_lem list none i below =
    let ahead : tally (take i list) ≡ i = none_tally (take i list) (none_parts i list none).0 ∙ length-take-le i list (omega arith) in
    scoring_placing list i (none_at list none i below) ∙ rw (none_tied list none, none_tally list none, ahead)

-- ---- lists without bits

no_bits_retired : (list : List ℕ) → Every (λ e. e < 2 ^ 62) list → none_retired list ≡ true
unfolding Every none_retired retired_bit
no_bits_retired [] w = refl
no_bits_retired (e ∷ list) w =
    let low : e < 2 ^ 62 = w.0 in
    let small : e % 2 ^ 63 ≡ e = mod-eq_of_lt (omega arith) in
    rw (small, lt-leb (2 ^ 62) e low, no_bits_retired list w.1)

no_bits_tied : (list : List ℕ) → Every (λ e. e < 2 ^ 62) list → (j : ℕ) → j < length list → tie_bit (get_or list j 0) ≡ false
unfolding tie_bit
no_bits_tied list w j inside =
    let low : get_or list j 0 < 2 ^ 62 = every_get_d (λ e. e < 2 ^ 62) list j 0 w inside in
    lt-leb (2 ^ 63) (get_or list j 0) (omega arith)

-- Without bits it is the rule of document 01.
pub no_bits : (list : List ℕ) → Every (λ e. e < 2 ^ 62) list → (i : ℕ) → i < length list → placing_in list i ≡ single i
no_bits list w i below =
    none_retired_lem list (no_bits_retired list w) i below
    ∙ alone (λ j. tie_bit (get_or list j 0)) (length list) i (λ pos. no_bits_tied list w i below) (no_bits_tied list w (suc i))

-- ---- the sums of all groups

module _ (tied : ℕ → Bool) where
  -- from a rank that is the first of its group
  sums_at : (N k i : ℕ) → suc i + k ≡ N → group_first tied i ≡ i
      → sums_from tied N k (suc i) ≡ places_sum (suc (suc i + tied_from tied k (suc i))) (k - tied_from tied k (suc i))
      → sums_from tied N (suc k) i ≡ places_sum (suc i) (suc k)
  unfolding sums_from placing_of placing group_end
  sums_at N k i number is rest =
      let behind = tied_from tied k (suc i) in
      let left : N - suc i ≡ k = omega arith in
      let boats : suc i + behind - i ≡ suc behind = omega arith in
      let own : places_sum (suc (group_first tied i)) (group_end tied N i - group_first tied i) ≡ places_sum (suc i) (suc behind) = rw (group_end, is, left, boats) in
      let all : suc behind + (k - behind) ≡ suc k = omega (arith, from_most tied k (suc i)) in
      let next : suc i + suc behind ≡ suc (suc i + behind) = omega arith in
      let joined : places_sum (suc i) (suc behind) + places_sum (suc (suc i + behind)) (k - behind) ≡ places_sum (suc i) (suc k)
      = rw (← next, ← all) (sym (sum_append (suc i) (suc behind) (k - behind))) in
      omega (arith, if_eq_yes (group_first tied i) i (places_sum (suc (group_first tied i)) (group_end tied N i - group_first tied i)) 0 is, own, rest, joined)

  -- from any rank but 0: the groups are those behind the boats that still belong to an earlier one
  sums_from_lem : (N k i : ℕ) → i + k ≡ N → 0 < i → sums_from tied N k i ≡ places_sum (suc (i + tied_from tied k i)) (k - tied_from tied k i)
  unfolding sums_from tied_from places_sum
  sums_from_lem N zero i number pos = refl
  sums_from_lem N (suc k) i number pos =
      let rest = sums_from_lem N k (suc i) (omega arith) (omega arith) in
      by_tie tied i
      (λ is.
      let other : group_first tied i ≡ i → ⊥ = λ same. omega (arith, first_tied tied i is, first_most tied (i - 1)) in
      let from : i + tied_from tied (suc k) i ≡ suc i + tied_from tied k (suc i) = omega (arith, from_tied tied k i is) in
      let left : suc k - tied_from tied (suc k) i ≡ k - tied_from tied k (suc i) = omega (arith, from_tied tied k i is) in
      omega (arith, if_eq_no (group_first tied i) i (placing_of tied N i).sum 0 other, rest, ap₂ (λ (p t : ℕ). places_sum (suc p) t) from left))
      (λ is.
      let none : i + tied_from tied (suc k) i ≡ i = omega (arith, from_untied tied (suc k) i is) in
      let left : suc k - tied_from tied (suc k) i ≡ suc k = omega (arith, from_untied tied (suc k) i is) in
      sums_at N k i (omega arith) (first_untied tied i is) rest ∙ sym (ap₂ (λ (p t : ℕ). places_sum (suc p) t) none left))

  -- The groups' sums add up to 1 + 2 + … + N.
  pub groups_sum : (N : ℕ) → group_sums tied N ≡ places_sum 1 N
  unfolding group_sums sums_from places_sum group_first
  groups_sum zero = refl
  groups_sum (suc k) = sums_at (suc k) k 0 (omega arith) refl (sums_from_lem (suc k) k 1 (omega arith) (omega arith))
