-- Clearing zeroes a store of the right lengths.
use Rattle.std.specs.Prelude.{Ok, ◌≡◌, true, List, [], ◌++◌, ℕ, ◌-◌, length, take, drop, replicate}
use Rattle.std.proofs.Common.{sym, ◌∙◌, ap, append-nil, le_of_eq, drop_of_length-le}
use Rattle.std.proofs.Math.Nat.{sub-zero}
use Rattle.store_layout.specs.declared.Capacity.{Capacity}
use Rattle.store_layout.specs.EmptyLaws.{empty_slots, empty_counts}
use Rattle.store_tallies.specs.LayLaws.{empty_tallies}
use Rattle.call_outcomes.specs.declared.Answer.TheVariants.{Cleared}
use Rattle.call_outcomes.specs.Kind.{empty, clear}
use Rattle.call_outcomes.specs.Outcome.{outcome}
use Rattle.call_outcomes.specs.DecisionLaws.{clear_outcome}
use Rattle.call_outcomes.specs.Plain.{plain_view, plain, PlainStore, PlainLengths, lay_plain, plain_store_of, plain_outcome_of}
use Rattle.call_outcomes.proofs.PlainLaws.{right_plain}

-- Slots that are zeroed from the first to the last.
pub zeroed : (xs : List ℕ) {xs' : List ℕ} (room : ℕ) → length xs ≡ room → xs' ≡ take 0 xs ++ replicate (room - 0) 0 ++ drop room xs → xs' ≡ replicate room 0
zeroed xs room l z = z ∙ rw (drop_of_length-le xs (le_of_eq l), sub-zero room) (append-nil (replicate room 0))

module _ (cap : Capacity) (slots counts tallies : List ℕ) {slots' counts' tallies' : List ℕ}
    (right : (plain_view cap).right_lengths (plain_store_of slots counts tallies) ≡ true)
    (s : slots' ≡ take 0 slots ++ replicate (cap.slots - 0) 0 ++ drop cap.slots slots) (k : counts' ≡ replicate cap.counts 0)
    (z : tallies' ≡ replicate cap.counts 0) where
  lengths : PlainLengths cap (plain_store_of slots counts tallies)
  lengths = right_plain cap (plain_store_of slots counts tallies) right

  -- What is left is the empty sheet.
  pub clear_laid : plain_store_of slots' counts' tallies' ≡ lay_plain cap empty.list empty.shape
  clear_laid =
      let no_entry : slots' ≡ (lay_plain cap empty.list empty.shape).sheet.slots = zeroed slots cap.slots lengths.sheet.slots s ∙ sym (empty_slots cap) in
      let no-count : counts' ≡ (lay_plain cap empty.list empty.shape).sheet.counts = k ∙ sym (empty_counts cap) in
      let no-tally : tallies' ≡ (lay_plain cap empty.list empty.shape).slice = z ∙ sym (empty_tallies cap.counts) in
      λ i. plain_store_of (no_entry i) (no-count i) (no-tally i)

  pub clear_done : plain_outcome_of (Ok Cleared) slots' counts' tallies' [] ≡ outcome (plain cap) clear [] (plain_store_of slots counts tallies) []
  clear_done =
      ap (λ (store : PlainStore). record { answer = Ok Cleared; store = store; output = [] }) clear_laid
      ∙ clear_outcome (plain cap) (plain_store_of slots counts tallies) [] right
