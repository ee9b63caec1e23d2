-- `clear` meets its contract.
use mathlib.Core.Path.{◌≡◌, sym, ◌∙◌, ap}
use mathlib.Core.Bool.{true}
use Prim.Native.Nat.{ℕ}
use native.Mathlib.Omega.{arith}
use lib.ListN.{replicate}
use Rattle.call_outcomes.specs.DecisionLaws.{clear_refused}
use Rattle.call_outcomes.specs.Federation.{federation}
use Rattle.call_timed.specs.Timed.{timed_view, timed, TimedLengths, timed_store_of}
use Rattle.call_timed.proofs.TimedLaws.{right_timed}
use Rattle.timed_open.specs.LengthLaws.{lengths_tested}
use Rattle.timed_answers.specs.ClearLaws.{clear_done}
use Rattle.federation_timed_calls.proofs.clear.Goals.{After-right_lengths, Else-not-right_lengths}
use Rattle.federation_timed_calls.proofs.clear.Goals as goal

-- The test of the lengths is that of the federation's store.
tested : (c : After-right_lengths) → let a = c.args in
    c.right_lengths.result ≡ (timed_view federation).right_lengths (timed_store_of a.slots.now a.counts.now a.tallies.now a.balance.now)
tested c =
    let a = c.args in
    (rw c.capacity-cap.ensures at c.right_lengths.ensures) ∙ lengths_tested federation a.slots.now a.counts.now a.tallies.now a.balance.now

right : (c : Else-not-right_lengths)
    → let a = c.args in (timed_view federation).right_lengths (timed_store_of a.slots.now a.counts.now a.tallies.now a.balance.now) ≡ true
right c = sym (tested (goal.at.Else-not-right_lengths c).After-right_lengths) ∙ c.if-not-right_lengths.false

lengths : (c : Else-not-right_lengths)
    → let a = c.args in TimedLengths federation (timed_store_of a.slots.now a.counts.now a.tallies.now a.balance.now)
lengths c = right_timed federation _ (right c)

pub returns-then-not-right_lengths : goal.returns-then-not-right_lengths
returns-then-not-right_lengths c = clear_refused (timed federation) _ _ (sym (tested (goal.at.returns-then-not-right_lengths c).After-right_lengths) ∙ c.if-not-right_lengths.true)

pub zero_slots-requires : goal.zero_slots-requires
zero_slots-requires c = omega (arith, (lengths (goal.at.zero_slots-requires c).Else-not-right_lengths).plain.sheet.slots)

pub zero_slots-requires-2 : goal.zero_slots-requires-2
zero_slots-requires-2 c = omega (arith, (lengths (goal.at.zero_slots-requires-2 c).Else-not-right_lengths).balance)

pub returns : goal.returns
returns c =
    let right_is = right (goal.at.returns c).Else-not-right_lengths in
    let l = right_timed federation _ right_is in
    clear_done federation _ _ _ _ right_is c.zero_slots.ensures (c.zero_counts.ensures ∙ ap (λ (n : ℕ). replicate n 0) l.plain.sheet.counts)
    (c.zero_counts-2.ensures ∙ ap (λ (n : ℕ). replicate n 0) l.plain.tallies) c.zero_slots-2.ensures
