-- `clear` meets its contract.
use mathlib.Core.Path.{◌≡◌, sym, ◌∙◌}
use mathlib.Core.Bool.{true}
use Prim.Native.Nat.{◌^◌, ◌<◌}
use native.Mathlib.Omega.{arith}
use Rattle.base.specs.ListLaws.{every_replicate}
use Rattle.call_outcomes.specs.DecisionLaws.{clear_refused}
use Rattle.call_outcomes.specs.Plain.{plain_view, plain, plain_store_of}
use Rattle.call_outcomes.proofs.PlainLaws.{right_plain}
use Rattle.call_outcomes.specs.Clubs.{clubs}
use Rattle.sheet_open.specs.LengthLaws.{lengths_tested}
use Rattle.sheet_answers.specs.ClearLaws.{clear_done}
use Rattle.sheet_calls.proofs.clear.Goals.{After-right_lengths, Else-not-right_lengths}
use Rattle.sheet_calls.proofs.clear.Goals as goal

-- The test of the lengths is that of the clubs' store.
tested : (c : After-right_lengths) → let a = c.args in
    c.right_lengths.result ≡ (plain_view clubs).right_lengths (plain_store_of a.slots.now a.counts.now a.tallies.now)
tested c =
    let a = c.args in
    (rw c.capacity-cap.ensures at c.right_lengths.ensures) ∙ lengths_tested clubs a.slots.now a.counts.now a.tallies.now

right : (c : Else-not-right_lengths) → let a = c.args in (plain_view clubs).right_lengths (plain_store_of a.slots.now a.counts.now a.tallies.now) ≡ true
right c = sym (tested (goal.at.Else-not-right_lengths c).After-right_lengths) ∙ c.if-not-right_lengths.false

pub returns-then-not-right_lengths : goal.returns-then-not-right_lengths
returns-then-not-right_lengths c = clear_refused (plain clubs) _ _ (sym (tested (goal.at.returns-then-not-right_lengths c).After-right_lengths) ∙ c.if-not-right_lengths.true)

pub zero_slots-requires : goal.zero_slots-requires
zero_slots-requires c = omega (arith, (right_plain clubs _ (right (goal.at.zero_slots-requires c).Else-not-right_lengths)).sheet.slots)

pub narrow-requires : goal.narrow-requires
narrow-requires c =
    record { lengths = (right_plain clubs _ (right (goal.at.narrow-requires c).Else-not-right_lengths)).sheet.counts; fit = every_replicate (λ x. x < 2 ^ 16) 256 0 (omega arith) }

pub narrow-requires-2 : goal.narrow-requires-2
narrow-requires-2 c =
    record { lengths = (right_plain clubs _ (right (goal.at.narrow-requires-2 c).Else-not-right_lengths)).tallies; fit = every_replicate (λ x. x < 2 ^ 16) 256 0 (omega arith) }

pub returns : goal.returns
returns c =
    clear_done clubs _ _ _ (right (goal.at.returns c).Else-not-right_lengths) c.zero_slots.ensures c.narrow.ensures c.narrow-2.ensures
