-- One slot on the way from a boat back to the first of her tied group, and on the way to the last.
use Rattle.std.specs.Prelude.{true, false, ◌&&◌, ◌≡◌, List, length, get_or, drop}
use Rattle.std.proofs.Common.{sym, ◌∙◌, ap, length-drop}
use Prim.Native.Nat.{ℕ, zero, suc, ◌+◌, ◌-◌, ◌≤◌, ◌<◌}
use native.Mathlib.Omega.{arith}
use Rattle.store_layout.specs.Leaf.{nonzero}
use Rattle.store_layout.proofs.LeafLaws.{nonzero_length}
use Rattle.store_scoring.specs.Scoring.{retired_bit, tally}
use Rattle.store_scoring.specs.ScoringLaws.{tally_append, tally_most, tally_slots}
use Rattle.store_ties.specs.Ties.{tie_bit, tied_in}
use Rattle.store_ties.specs.Steps.{entries_before, InSlot, Scores, end_tied, Passed, Back, On}
use Rattle.store_ties.specs.Groups.{group_end}
use Rattle.store_ties.specs.StepLaws.{first_start, back_boat, end_next, end_tied_lem, end_untied}
use Rattle.store_ties.specs.BeforeLaws.{parted, next_empty, tally_next_retired, tally_next_scoring, end_next_retired, end_next_scoring, parted_entry}
use Rattle.store_ties.specs.TiesLaws.{tied_scoring, tied_none}

-- Both ways start behind the slot of a scoring boat.
module _ {slots : List ℕ} {slot i : ℕ} (w : Scores slots slot i) where
  pub scores_most : i ≤ slot
  scores_most = omega (arith, w.number, tally_slots slot slots)

  passed_start : Passed slots (slot + 1) (i + 1)
  passed_start = record {
    inside = omega (arith, w.boat.inside);
    scoring = omega (arith, tally_next_scoring slots slot w.boat w.scoring, w.number);
  }

  behind : end_tied true (entries_before slots (slot + 1)) ≡ true
  behind = end_next_scoring slots slot w.boat w.scoring

  pub back_start : Back slots i (slot + 1) (i + 1) (end_tied true (entries_before slots (slot + 1)))
  back_start = record { passed = passed_start; first = rw behind first_start }

  pub on_start : (N : ℕ) → On slots N i (slot + 1) (i + 1)
  on_start N = record { passed = passed_start; tied = behind; end = end_next }

-- ---- back

module _ {slots : List ℕ} where
  -- How the boat of a slot ties, if she scores; and how the next scoring boat from her on does, if she has no bit.
  module _ {at : ℕ} (w : InSlot slots at) where
    tied_slot : retired_bit (get_or slots at 0) ≡ false
        → tied_in (nonzero slots) (tally (entries_before slots at)) ≡ (end_tied true (entries_before slots at) && tie_bit (get_or slots at 0))
    tied_slot is = rw (parted_entry slots at w) (tied_scoring (entries_before slots at) (get_or slots at 0) is (nonzero (drop (at + 1) slots)))

    untied_slot : tie_bit (get_or slots at 0) ≡ false → tied_in (nonzero slots) (tally (entries_before slots at)) ≡ false
    untied_slot none = rw (parted_entry slots at w) (tied_none (entries_before slots at) (get_or slots at 0) none (nonzero (drop (at + 1) slots)))

  pub slot_before : {k : ℕ} (at : ℕ) → Passed slots at k → 0 < k → 0 < at
  unfolding nonzero tally
  slot_before zero w some = absurd (omega (arith, w.scoring))
  slot_before (suc at) w some = omega arith

  -- The slot before the index.
  module _ {i at k : ℕ} (w : Back slots i (at + 1) k (end_tied true (entries_before slots (at + 1)))) where
    inside : at < length slots
    inside = omega (arith, w.passed.inside)

    pub back_empty : get_or slots at 0 ≡ 0 → Back slots i at k (end_tied true (entries_before slots at))
    back_empty none =
        let same = next_empty slots at inside none in
        record {
          passed = record { inside = omega (arith, inside); scoring = ap tally (sym same) ∙ w.passed.scoring };
          first = rw same at w.first;
        }

    module _ (entry : 0 < get_or slots at 0) where
      boat : InSlot slots at
      boat = record { inside = inside; entry = entry }

      pub back_retired : retired_bit (get_or slots at 0) ≡ true → Back slots i at k (end_tied true (entries_before slots at) && tie_bit (get_or slots at 0))
      back_retired is = record {
        passed = record { inside = omega (arith, inside); scoring = sym (tally_next_retired slots at boat is) ∙ w.passed.scoring };
        first = rw (end_next_retired slots at boat is) at w.first;
      }

      pub back_scoring : retired_bit (get_or slots at 0) ≡ false
          → Back slots i at (k - 1) (end_tied true (entries_before slots at) && tie_bit (get_or slots at 0))
      back_scoring is =
          let number : tally (entries_before slots at) ≡ k - 1 = omega (arith, tally_next_scoring slots at boat is, w.passed.scoring) in
          record {
            passed = record { inside = omega (arith, inside); scoring = number };
            first = rw (← tied_slot boat is, number) (back_boat (rw (end_next_scoring slots at boat is) at w.first));
          }

-- ---- on

module _ {slots : List ℕ} {N i at k : ℕ} (w : On slots N i at k) where
  -- A scoring boat is left.
  pub slot_behind : k < tally (nonzero slots) → at < length slots
  slot_behind more =
      omega (
        arith,
        w.passed.scoring,
        ap tally (parted slots at),
        tally_append (entries_before slots at) (nonzero (drop at slots)),
        tally_most (nonzero (drop at slots)),
        nonzero_length (drop at slots),
        length-drop at slots,
      )

  module _ (inside : at < length slots) where
    pub on_empty : get_or slots at 0 ≡ 0 → On slots N i (at + 1) k
    on_empty none =
        let same = next_empty slots at inside none in
        record {
          passed = record { inside = omega arith; scoring = ap tally same ∙ w.passed.scoring };
          tied = ap (end_tied true) same ∙ w.tied;
          end = w.end;
        }

    module _ (entry : 0 < get_or slots at 0) where
      on_boat : InSlot slots at
      on_boat = record { inside = inside; entry = entry }

      pub on_untied : tie_bit (get_or slots at 0) ≡ false → k ≡ group_end (tied_in (nonzero slots)) N i
      on_untied none = end_untied w.end (ap (tied_in (nonzero slots)) (sym w.passed.scoring) ∙ untied_slot on_boat none)

      module _ (bit : tie_bit (get_or slots at 0) ≡ true) where
        pub on_retired : retired_bit (get_or slots at 0) ≡ true → On slots N i (at + 1) k
        on_retired is = record {
          passed = record { inside = omega arith; scoring = tally_next_retired slots at on_boat is ∙ w.passed.scoring };
          tied = end_next_retired slots at on_boat is ∙ rw (w.tied, bit);
          end = w.end;
        }

        pub on_scoring : retired_bit (get_or slots at 0) ≡ false → k < N → On slots N i (at + 1) (k + 1)
        on_scoring is more =
            let ties : tied_in (nonzero slots) k ≡ true
            = ap (tied_in (nonzero slots)) (sym w.passed.scoring) ∙ tied_slot on_boat is ∙ rw (w.tied, bit) in
            record {
              passed = record { inside = omega arith; scoring = tally_next_scoring slots at on_boat is ∙ rw w.passed.scoring };
              tied = end_next_scoring slots at on_boat is;
              end = end_tied_lem w.end ties more;
            }
