-- Clearing zeroes a timed store of the right lengths.
use Rattle.std.specs.Prelude.{Ok, ◌≡◌, true, ℕ, ◌-◌, take, drop, replicate}
use Rattle.std.proofs.Common.{◌∙◌}
use Rattle.std.proofs.Math.Path.{ap₂}
use mathlib.Core.List.{List, [], ◌++◌}
use Rattle.store_layout.specs.declared.Capacity.{Capacity}
use Rattle.store_balance.specs.Balance.{write_balance, lay_balance}
use Rattle.call_outcomes.specs.declared.Answer.TheVariants.{Cleared}
use Rattle.call_outcomes.specs.Kind.{clear}
use Rattle.call_outcomes.specs.Outcome.{outcome}
use Rattle.call_outcomes.specs.DecisionLaws.{clear_outcome}
use Rattle.call_outcomes.specs.Plain.{PlainStore}
use Rattle.call_outcomes.proofs.PlainLaws.{plain_right}
use Rattle.call_timed.specs.Timed.{timed_view, timed, timed_store_of, timed_outcome_of}
use Rattle.call_timed.proofs.TimedLaws.{right_timed}
use Rattle.sheet_answers.specs.ClearLaws.{zeroed, clear_laid}

module _ (cap : Capacity) (slots counts tallies balance : List ℕ) where
  pub clear_done : {slots' counts' tallies' balance' : List ℕ} → (timed_view cap).right_lengths (timed_store_of slots counts tallies balance) ≡ true
      → slots' ≡ take 0 slots ++ replicate (cap.slots - 0) 0 ++ drop cap.slots slots → counts' ≡ replicate cap.counts 0
      → tallies' ≡ replicate cap.counts 0 → balance' ≡ take 0 balance ++ replicate (cap.counts - 0) 0 ++ drop cap.counts balance
      → timed_outcome_of (Ok Cleared) slots' counts' tallies' balance' [] ≡ outcome (timed cap) clear [] (timed_store_of slots counts tallies balance) []
  unfolding lay_balance write_balance
  clear_done right s k y z =
      let lengths = right_timed cap (timed_store_of slots counts tallies balance) right in
      ap₂ (λ (sheet : PlainStore) (xs : List ℕ). record { answer = Ok Cleared; store = record { sheet = sheet; slice = xs }; output = [] })
      (clear_laid cap slots counts tallies (plain_right cap _ lengths.plain) s k y) (zeroed balance cap.counts lengths.balance z)
      ∙ clear_outcome (timed cap) (timed_store_of slots counts tallies balance) [] right
