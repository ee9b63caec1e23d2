-- `examine_numbers` meets its contract.
use mathlib.Core.Path.{◌≡◌, sym, ◌∙◌}
use Rattle.call_outcomes.specs.Plain.{plain_view, PlainLengths, plain_store_of}
use Rattle.call_outcomes.proofs.PlainLaws.{right_plain}
use Rattle.call_outcomes.specs.Clubs.{clubs}
use Rattle.call_outcomes.proofs.ClubsLaws.{clubs_ready}
use Rattle.sheet_open.specs.LengthLaws.{lengths_tested}
use Rattle.sheet_open.specs.PlainOpeningLaws.{plain_wrong}
use Rattle.sheet_clubs.proofs.examine_numbers.Goals.{After-right_lengths, Else-not-right_lengths}
use Rattle.sheet_clubs.proofs.examine_numbers.Goals as goal

-- The test of the lengths is that of the clubs' store.
tested : (c : After-right_lengths) → let a = c.args in
    c.right_lengths.result ≡ (plain_view clubs).right_lengths (plain_store_of a.slots.now a.counts.now a.tallies.now)
tested c =
    let a = c.args in
    (rw c.capacity.ensures at c.right_lengths.ensures) ∙ lengths_tested clubs a.slots.now a.counts.now a.tallies.now

right : (c : Else-not-right_lengths) → let a = c.args in PlainLengths clubs (plain_store_of a.slots.now a.counts.now a.tallies.now)
right c = right_plain clubs _ (sym (tested (goal.at.Else-not-right_lengths c).After-right_lengths) ∙ c.if-not-right_lengths.false)

pub returns-then-not-right_lengths : goal.returns-then-not-right_lengths
returns-then-not-right_lengths c = plain_wrong (sym (tested (goal.at.returns-then-not-right_lengths c).After-right_lengths) ∙ c.if-not-right_lengths.true)

pub widen-requires : goal.widen-requires
widen-requires c = sym (right (goal.at.widen-requires c).Else-not-right_lengths).sheet.counts

pub widen-requires-2 : goal.widen-requires-2
widen-requires-2 c = sym (right (goal.at.widen-requires-2 c).Else-not-right_lengths).tallies

pub examine-requires : goal.examine-requires
examine-requires c =
    rw c.capacity-2.ensures record { ready = clubs_ready; work = c.requires.work; numbers = c.requires.numbers }

pub returns : goal.returns
returns c =
    rw (c.capacity-2.ensures, c.widen.ensures, c.widen-2.ensures) at c.examine.ensures
