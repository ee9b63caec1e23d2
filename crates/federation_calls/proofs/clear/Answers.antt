-- `clear` meets its contract.
use mathlib.Core.Path.{◌≡◌, sym, ◌∙◌, ap}
use mathlib.Core.Bool.{true}
use Prim.Native.Nat.{ℕ}
use native.Mathlib.Omega.{arith}
use lib.ListN.{replicate}
use Rattle.call_outcomes.specs.DecisionLaws.{clear_refused}
use Rattle.call_outcomes.specs.Plain.{plain_view, plain, plain_store_of}
use Rattle.call_outcomes.proofs.PlainLaws.{right_plain}
use Rattle.call_outcomes.specs.Federation.{federation}
use Rattle.sheet_open.specs.LengthLaws.{lengths_tested}
use Rattle.sheet_answers.specs.ClearLaws.{clear_done}
use Rattle.federation_calls.proofs.clear.Goals.{Else-not-right_lengths}
use Rattle.federation_calls.proofs.clear.Goals as goal

-- The lengths are right.
right : (c : Else-not-right_lengths) → let a = c.args in (plain_view federation).right_lengths (plain_store_of a.slots.now a.counts.now a.tallies.now) ≡ true
right c = sym (lengths_tested federation _ _ _) ∙ sym c.right_lengths.ensures ∙ c.if-not-right_lengths.false

pub returns-then-not-right_lengths : goal.returns-then-not-right_lengths
returns-then-not-right_lengths c =
    clear_refused (plain federation) _ _ (sym (lengths_tested federation _ _ _) ∙ sym c.right_lengths.ensures ∙ c.if-not-right_lengths.true)

pub zero_slots-requires : goal.zero_slots-requires
zero_slots-requires c = omega (arith, (right_plain federation _ (right (goal.at.zero_slots-requires c).Else-not-right_lengths)).sheet.slots)

pub returns : goal.returns
returns c =
    let right_is = right (goal.at.returns c).Else-not-right_lengths in
    let lengths = right_plain federation _ right_is in
    clear_done federation _ _ _ right_is c.zero_slots.ensures (c.zero_counts.ensures ∙ ap (λ (n : ℕ). replicate n 0) lengths.sheet.counts)
    (c.zero_counts-2.ensures ∙ ap (λ (n : ℕ). replicate n 0) lengths.tallies)
