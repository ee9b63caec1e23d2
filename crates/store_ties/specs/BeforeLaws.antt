-- The entries before a slot and from it on, and what one slot more adds to them.
use Rattle.std.specs.Prelude.{true, false, ◌&&◌, ◌≡◌, ℕ, suc, ◌+◌, ◌<◌, length, get_or, take, drop}
use Rattle.std.proofs.Common.{sym, ◌∙◌, ap, add-one, take-append-drop, drop-cons}
use mathlib.Core.List.{List, [], ◌∷◌, ◌++◌, append-nil}
use Rattle.store_layout.specs.Leaf.{nonzero}
use Rattle.store_layout.proofs.LeafLaws.{nonzero_append, nonzero_zero, nonzero_entry, entries_next}
use Rattle.store_scoring.specs.Scoring.{retired_bit, tally}
use Rattle.store_ties.specs.Ties.{tie_bit}
use Rattle.store_ties.specs.Steps.{entries_before, InSlot, end_tied}
use Rattle.store_ties.specs.TiesLaws.{tally_last_retired, tally_last_scoring, end_last_retired, end_last_scoring}

module _ (slots : List ℕ) (i : ℕ) where
  pub parted : nonzero slots ≡ entries_before slots i ++ nonzero (drop i slots)
  parted = ap nonzero (sym (take-append-drop i slots)) ∙ nonzero_append (take i slots) (drop i slots)

  -- one slot more
  pub next_empty : i < length slots → get_or slots i 0 ≡ 0 → entries_before slots (i + 1) ≡ entries_before slots i
  unfolding nonzero
  next_empty inside none = entries_next slots i inside ∙ rw (nonzero_zero (get_or slots i 0) [] none) (append-nil (entries_before slots i))

  module _ (w : InSlot slots i) where
    pub next_entry : entries_before slots (i + 1) ≡ entries_before slots i ++ (get_or slots i 0 ∷ [])
    unfolding nonzero
    next_entry = entries_next slots i w.inside ∙ rw (nonzero_entry (get_or slots i 0) [] w.entry)

    pub parted_entry : nonzero slots ≡ entries_before slots i ++ get_or slots i 0 ∷ nonzero (drop (i + 1) slots)
    parted_entry =
        parted
        ∙ rw (add-one i, drop-cons slots i 0 w.inside, nonzero_entry (get_or slots i 0) (drop (suc i) slots) w.entry)

    -- a retired boat
    module _ (is : retired_bit (get_or slots i 0) ≡ true) where
      pub tally_next_retired : tally (entries_before slots (i + 1)) ≡ tally (entries_before slots i)
      tally_next_retired = ap tally next_entry ∙ tally_last_retired (entries_before slots i) (get_or slots i 0) is

      pub end_next_retired : end_tied true (entries_before slots (i + 1)) ≡ (end_tied true (entries_before slots i) && tie_bit (get_or slots i 0))
      end_next_retired = ap (end_tied true) next_entry ∙ end_last_retired (entries_before slots i) (get_or slots i 0) is

    -- a scoring boat
    module _ (is : retired_bit (get_or slots i 0) ≡ false) where
      pub tally_next_scoring : tally (entries_before slots (i + 1)) ≡ tally (entries_before slots i) + 1
      tally_next_scoring = ap tally next_entry ∙ tally_last_scoring (entries_before slots i) (get_or slots i 0) is

      pub end_next_scoring : end_tied true (entries_before slots (i + 1)) ≡ true
      end_next_scoring = ap (end_tied true) next_entry ∙ end_last_scoring (entries_before slots i) (get_or slots i 0) is
