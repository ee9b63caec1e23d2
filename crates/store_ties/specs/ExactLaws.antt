-- The sentences of document 02 on ties and places, rank by rank: when a scoring boat ties with the scoring boat before her, and that a place is one
-- more than the scoring entries before the first boat of the group.
use Rattle.std.proofs.Math.Bool.{true, false}
use Rattle.std.specs.Prelude.{◌&&◌, List, ◌∷◌, ◌↔◌, ◌≡◌, get_or, take, drop}
use Rattle.std.proofs.Math.Logic.{⊎_elim}
use Rattle.std.proofs.Math.Path.{refl, sym}
use Rattle.std.proofs.Common.{◌∙◌, ap, take-suc}
use Prim.Native.Nat.{ℕ, zero, suc, ◌+◌, ◌-◌, ◌*◌, ◌≤◌, ◌<◌}
use Rattle.std.proofs.Math.Nat.{mul-le-mul_right}
use native.Mathlib.Omega.{arith}
use Rattle.std.proofs.Math.ListN.{length}
use Rattle.std.proofs.Math.Seq.{split_at}
use Rattle.base.specs.BoolLaws.{and_both}
use Rattle.base.specs.CaseLaws.{lt_or_ge}
use Rattle.store_scoring.specs.Scoring.{retired_bit, tally}
use Rattle.store_scoring.specs.ScoringLaws.{tally_scoring, tally_append, tally_most}
use Rattle.store_ties.specs.Groups.{group_first, group_end, places_sum, placing, placing_of, group_sums}
use Rattle.store_ties.specs.Ties.{tie_bit, tied_in, placing_in, TiesBack, StartsAt}
use Rattle.store_ties.specs.Steps.{end_tied}
use Rattle.store_ties.specs.TiesLaws.{by_boat, tally_last_retired, tally_last_scoring, end_last_retired, end_last_scoring, tied_scoring}
use Rattle.store_ties.specs.SumLaws.{sum_most}
use Rattle.store_ties.specs.GroupLaws.{first_most, end_above, end_most}
use Rattle.store_ties.specs.PlacingLaws.{retired_placing, scoring_placing, groups_sum}

module _ (list : List ℕ) where
  -- ---- one rank more

  module _ (i : ℕ) (below : i < length list) where
    module _ (is : retired_bit (get_or list i 0) ≡ true) where
      tally_past_retired : tally (take (suc i) list) ≡ tally (take i list)
      tally_past_retired = ap tally (take-suc list i 0 below) ∙ tally_last_retired (take i list) (get_or list i 0) is

      end_past_retired : end_tied true (take (suc i) list) ≡ (end_tied true (take i list) && tie_bit (get_or list i 0))
      end_past_retired = ap (end_tied true) (take-suc list i 0 below) ∙ end_last_retired (take i list) (get_or list i 0) is

    module _ (is : retired_bit (get_or list i 0) ≡ false) where
      tally_past_scoring : tally (take (suc i) list) ≡ tally (take i list) + 1
      tally_past_scoring = ap tally (take-suc list i 0 below) ∙ tally_last_scoring (take i list) (get_or list i 0) is

      end_past_scoring : end_tied true (take (suc i) list) ≡ true
      end_past_scoring = ap (end_tied true) (take-suc list i 0 below) ∙ end_last_scoring (take i list) (get_or list i 0) is

      tied_rank : tied_in list (tally (take i list)) ≡ (end_tied true (take i list) && tie_bit (get_or list i 0))
      tied_rank =
          ap (λ (xs : List ℕ). tied_in xs (tally (take i list))) (split_at list i 0 below)
          ∙ tied_scoring (take i list) (get_or list i 0) is (drop (suc i) list)

  -- ---- ties

  -- The ranks from j up to, not including, i are those of retired boats.
  abbrev Retired : ℕ → ℕ → Type 0
  Retired j i = (k : ℕ) → j ≤ k → k < i → retired_bit (get_or list k 0) ≡ true

  -- The retired boats right before rank i bear the bit.
  abbrev Bear : ℕ → Type 0
  Bear i = (j : ℕ) → j < i → Retired j i → tie_bit (get_or list j 0) ≡ true

  end_bear : (i : ℕ) → i ≤ length list → end_tied true (take i list) ≡ true → Bear i
  unfolding end_tied
  end_bear zero most is j less run = absurd (omega arith)
  end_bear (suc i) most is j less run =
      let retired = run i (omega arith) (omega arith) in
      let both = and_both (end_tied true (take i list)) (tie_bit (get_or list i 0)) (sym (end_past_retired i most retired) ∙ is) in
      ⊎_elim
      (λ (before : j < i). end_bear i (omega arith) both.0 j before (λ k above below. run k above (omega arith)))
      (λ (least : i ≤ j). let here : j ≡ i = omega arith in rw here both.1)
      (lt_or_ge j i)

  bear_end : (i : ℕ) → i ≤ length list → Bear i → end_tied true (take i list) ≡ true
  unfolding end_tied
  bear_end zero most w = refl
  bear_end (suc i) most w =
      by_boat (get_or list i 0)
      (λ is.
      let earlier : Bear i = λ j less run. w j (omega arith) (λ k above below.
      ⊎_elim (λ (before : k < i). run k above before) (λ (least : i ≤ k). let here : k ≡ i = omega arith in rw here is) (lt_or_ge k i)) in
      let last : tie_bit (get_or list i 0) ≡ true = w i (omega arith) (λ k above below. let here : k ≡ i = omega arith in rw here is) in
      end_past_retired i most is ∙ rw (bear_end i (omega arith) earlier, last))
      (λ is. end_past_scoring i most is)

  module _ (i : ℕ) (below : i < length list) (is : retired_bit (get_or list i 0) ≡ false) where
    -- A scoring boat ties with the scoring boat before her exactly when she and every retired boat between them bear bit 63.
    pub ties_exactly : (tied_in list (tally (take i list)) ≡ true) ↔ TiesBack list i
    ties_exactly = (
      (λ tied j most run.
          let both = and_both (end_tied true (take i list)) (tie_bit (get_or list i 0)) (sym (tied_rank i below is) ∙ tied) in
          ⊎_elim
          (λ (before : j < i). end_bear i (omega arith) both.0 j before run)
          (λ (least : i ≤ j). let here : j ≡ i = omega arith in rw here both.1)
          (lt_or_ge j i)),
      (λ back.
          let bear : end_tied true (take i list) ≡ true = bear_end i (omega arith) (λ j less run. back j (omega arith) run) in
          let own : tie_bit (get_or list i 0) ≡ true = back i (omega arith) (λ k above less. absurd (omega arith)) in
          tied_rank i below is ∙ rw (bear, own)),
    )

  -- ---- places

  -- The scoring boat number q stands at some rank.
  scoring_rank : (i q : ℕ) → i ≤ length list → q < tally (take i list)
      → (f : ℕ) × (f < i) × (retired_bit (get_or list f 0) ≡ false) × (tally (take f list) ≡ q)
  unfolding tally
  scoring_rank zero q most less = absurd (omega arith)
  scoring_rank (suc i) q most less =
      let earlier : q < tally (take i list) → (f : ℕ) × (f < suc i) × (retired_bit (get_or list f 0) ≡ false) × (tally (take f list) ≡ q)
      = λ more. let w = scoring_rank i q (omega arith) more in (w.0, omega (arith, w.1), w.2, w.3) in
      by_boat (get_or list i 0)
      (λ is. earlier (omega (arith, less, tally_past_retired i most is)))
      (λ is. ⊎_elim earlier (λ (least : tally (take i list) ≤ q). (i, omega arith, is, omega (arith, less, tally_past_scoring i most is)))
      (lt_or_ge q (tally (take i list))))

  module _ (i : ℕ) (below : i < length list) where
    module _ (is : retired_bit (get_or list i 0) ≡ false) where
      pub scoring_below : tally (take i list) < tally list
      scoring_below =
          omega (
            arith,
            ap tally (split_at list i 0 below),
            tally_append (take i list) (get_or list i 0 ∷ drop (suc i) list),
            tally_scoring (get_or list i 0) (drop (suc i) list) is,
          )

      -- A group's place is one more than the scoring entries before its first boat, counted in the full list.
      pub place_counted : (f : ℕ) × StartsAt list i f × ((placing_in list i).place ≡ 1 + tally (take f list))
      unfolding placing_of placing
      place_counted =
          let low = first_most (tied_in list) (tally (take i list)) in
          let past = tally_past_scoring i below is in
          let w = scoring_rank (suc i) (group_first (tied_in list) (tally (take i list))) below (omega (arith, low, past)) in (
            w.0,
            record { order = omega (arith, w.1); scoring = w.2; first = sym w.3 },
            rw (scoring_placing list i is) (omega (arith, w.3)),
          )

    -- Place and boats are no more than the entries, and neither is each of the places summed.
    pub placing_most : let p = placing_in list i in
        let N = length list in
        (p.place ≤ N) × (p.sum ≤ N * N) × (p.boats ≤ N)
    unfolding placing_of placing
    placing_most = by_boat (get_or list i 0) (λ is. rw (retired_placing list i is) (omega arith)) scoring
      where
        scoring : retired_bit (get_or list i 0) ≡ false → let p = placing_in list i in
            let N = length list in
            (p.place ≤ N) × (p.sum ≤ N * N) × (p.boats ≤ N)
        scoring is =
            let N = tally list in
            let number = tally (take i list) in
            let first = group_first (tied_in list) number in
            let end = group_end (tied_in list) N number in
            let inside = scoring_below is in
            let few = tally_most list in
            let low = first_most (tied_in list) number in
            let above = end_above (tied_in list) N number in
            let high = end_most (tied_in list) N number inside in
            let boats : end - first ≤ length list = omega arith in
            rw (scoring_placing list i is)
            (omega arith, omega (arith, sum_most (suc first) (end - first) (length list) (omega arith), mul-le-mul_right (length list) boats), boats)

  -- The sums of the groups of scoring boats add up to 1 + 2 + … + the number of these boats.
  pub scoring_sum : group_sums (tied_in list) (tally list) ≡ places_sum 1 (tally list)
  scoring_sum = groups_sum (tied_in list) (tally list)
