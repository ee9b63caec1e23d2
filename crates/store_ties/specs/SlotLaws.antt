-- The boat in a slot: her rank, and her placing by what is found around her slot.
use Rattle.std.specs.Prelude.{true, false, ◌≡◌, List, ◌∷◌, ℕ, ◌+◌, ◌<◌, length, get_or, take, drop}
use Rattle.std.proofs.Math.Path.{sym}
use Rattle.std.proofs.Common.{◌∙◌, ap, arith, length-append}
use Rattle.std.proofs.Math.Seq.{take-append_seam, get_or-append_seam}
use Rattle.store_layout.specs.Leaf.{nonzero}
use Rattle.store_scoring.specs.Scoring.{retired_bit, tally}
use Rattle.store_ties.specs.declared.Placing.{Placing}
use Rattle.store_ties.specs.Groups.{group_first, group_end, placing, placing_of}
use Rattle.store_ties.specs.Ties.{tied_in, no_place, placing_in}
use Rattle.store_ties.specs.Steps.{entries_before, InSlot, Scores}
use Rattle.store_ties.specs.BeforeLaws.{parted, parted_entry}
use Rattle.store_ties.specs.PlacingLaws.{retired_placing, scoring_placing}
use Rattle.store_ties.specs.ExactLaws.{scoring_below}

module _ {slots : List ℕ} {slot : ℕ} (w : InSlot slots slot) where
  rank_entry : get_or (nonzero slots) (length (entries_before slots slot)) 0 ≡ get_or slots slot 0
  rank_entry =
      ap (λ (xs : List ℕ). get_or xs (length (entries_before slots slot)) 0) (parted_entry slots slot w)
      ∙ get_or-append_seam (entries_before slots slot) (get_or slots slot 0) (nonzero (drop (slot + 1) slots)) 0

  pub retired_found : retired_bit (get_or slots slot 0) ≡ true → no_place ≡ placing_in (nonzero slots) (length (entries_before slots slot))
  retired_found is = sym (retired_placing (nonzero slots) (length (entries_before slots slot)) (ap retired_bit rank_entry ∙ is))

module _ {slots : List ℕ} {slot before : ℕ} (w : Scores slots slot before) where
  rank_scoring : retired_bit (get_or (nonzero slots) (length (entries_before slots slot)) 0) ≡ false
  rank_scoring = ap retired_bit (rank_entry w.boat) ∙ w.scoring

  rank_number : before ≡ tally (take (length (entries_before slots slot)) (nonzero slots))
  rank_number =
      w.number
      ∙ ap tally (sym (ap (take (length (entries_before slots slot))) (parted slots slot) ∙ take-append_seam (entries_before slots slot) (nonzero (drop slot slots))))

  pub scores_below : before < tally (nonzero slots)
  scores_below = rw rank_number (scoring_below (nonzero slots) (length (entries_before slots slot)) inside rank_scoring)
    where
      inside : length (entries_before slots slot) < length (nonzero slots)
      inside =
          omega (
            arith,
            ap length (parted_entry slots slot w.boat),
            length-append (entries_before slots slot) (get_or slots slot 0 ∷ nonzero (drop (slot + 1) slots)),
          )

  -- Her placing, by the first boat and the end of her group.
  pub scoring_found : {first end N : ℕ} {r : Placing} → first ≡ group_first (tied_in (nonzero slots)) before
      → end ≡ group_end (tied_in (nonzero slots)) N before → N ≡ tally (nonzero slots) → r ≡ placing first end
      → r ≡ placing_in (nonzero slots) (length (entries_before slots slot))
  unfolding placing_of
  scoring_found first_is end_is number is =
      is
      ∙ (rw (first_is, end_is, number, rank_number))
      ∙ sym (scoring_placing (nonzero slots) (length (entries_before slots slot)) rank_scoring)
