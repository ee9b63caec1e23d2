-- `mend` meets its contract.
use mathlib.Core.Path.{◌≡◌, refl, sym, ◌∙◌}
use mathlib.Core.Bool.{true}
use native.Mathlib.Omega.{arith}
use lib.ListN.{get_or}
use Rattle.call_outcomes.specs.Untallied.{store_of}
use Rattle.call_outcomes.specs.Federation.{federation}
use Rattle.call_outcomes.proofs.FederationLaws.{federation_ready}
use Rattle.call_open.specs.Opening.{OpenedSheet}
use Rattle.call_open.specs.OpenedLaws.{size_small, slots_room, levels_room}
use Rattle.call_open.specs.PassedLaws.{passed_on}
use Rattle.call_timed.specs.Timed.{timed_view, TimedLengths, timed_store_of}
use Rattle.call_timed.proofs.TimedLaws.{right_timed}
use Rattle.sheet_recount.specs.FoundLaws.{fresh_number, same_counts}
use Rattle.timed_open.specs.LengthLaws.{lengths_tested}
use Rattle.timed_answers.specs.MendLaws.{mend_lengths, mend_none, mend_fallen, mend_made}
use Rattle.federation_timed_mend.proofs.mend.Goals.{After-right_lengths, Else-not-right_lengths, In_ok-sheet}
use Rattle.federation_timed_mend.proofs.mend.Goals as goal

-- The test of the lengths is that of the federation's store.
tested : (c : After-right_lengths) → let a = c.args in
    c.right_lengths.result ≡ (timed_view federation).right_lengths (timed_store_of a.slots.now a.counts.now a.tallies.now a.balance.now)
tested c =
    let a = c.args in
    (rw c.capacity-cap.ensures at c.right_lengths.ensures) ∙ lengths_tested federation a.slots.now a.counts.now a.tallies.now a.balance.now

-- The start; and the lengths are right.
right : (c : Else-not-right_lengths)
    → let a = c.args in (timed_view federation).right_lengths (timed_store_of a.slots.now a.counts.now a.tallies.now a.balance.now) ≡ true
right c = sym (tested (goal.at.Else-not-right_lengths c).After-right_lengths) ∙ c.if-not-right_lengths.false

lengths : (c : Else-not-right_lengths)
    → let a = c.args in TimedLengths federation (timed_store_of a.slots.now a.counts.now a.tallies.now a.balance.now)
lengths c = right_timed federation _ (right c)

-- The sheet that was found, and where its lengths were tested.
found : (c : In_ok-sheet) → let a = c.args in
    OpenedSheet federation (store_of a.slots.now c.recount.new.fresh) c.in_ok-sheet.sheet.n c.in_ok-sheet.sheet.m c.recount.new.work
    × (c.in_ok-sheet.sheet.m ≡ get_or a.counts.now 0 0)
found c = (rw c.capacity-cap.ensures at c.recount.ensures).found _ c.in_ok-sheet.was

pub returns-then-not-right_lengths : goal.returns-then-not-right_lengths
returns-then-not-right_lengths c = mend_lengths federation_ready _ _ _ _ (sym (tested (goal.at.returns-then-not-right_lengths c).After-right_lengths) ∙ c.if-not-right_lengths.true)

pub bounds-counts-0 : goal.bounds-counts-0
bounds-counts-0 c = omega (arith, (lengths (goal.at.bounds-counts-0 c).Else-not-right_lengths).plain.sheet.counts)

pub recount-requires : goal.recount-requires
recount-requires c =
    rw c.capacity-cap.ensures record { ready = federation_ready; slots = (lengths (goal.at.recount-requires c).Else-not-right_lengths).plain.sheet.slots; work = refl; fresh = refl }

pub slots-requires : goal.slots-requires
slots-requires c = omega (arith, size_small federation_ready (found c).0)

pub entries_rise-requires : goal.entries_rise-requires
entries_rise-requires c = rw c.slots.ensures (slots_room federation_ready (found (goal.at.entries_rise-requires c).In_ok-sheet).0)

pub returns-then-not-entries_rise : goal.returns-then-not-entries_rise
returns-then-not-entries_rise c =
    mend_fallen federation_ready _ _ _ _ (right (goal.at.returns-then-not-entries_rise c).Else-not-right_lengths) (found (goal.at.returns-then-not-entries_rise c).In_ok-sheet).0 (rw (← c.slots.ensures) (sym c.entries_rise.ensures ∙ c.if-not-entries_rise.true))

pub tally-requires : goal.tally-requires
tally-requires c =
    rw c.capacity-cap.ensures record { ready = federation_ready; sheet = (found (goal.at.tally-requires c).In_ok-sheet).0; numbers = refl; tallies = (lengths (goal.at.tally-requires c).Else-not-right_lengths).plain.tallies }

pub copy_ranges-requires : goal.copy_ranges-requires
copy_ranges-requires c =
    let l = (lengths (goal.at.copy_ranges-requires c).Else-not-right_lengths).plain.sheet.counts in
    record { lengths = l ∙ sym (fresh_number federation_ready (found (goal.at.copy_ranges-requires c).In_ok-sheet).0); some = omega (arith, l) }

pub write_balance-requires : goal.write_balance-requires
write_balance-requires c =
    record { most = omega (arith, size_small federation_ready (found (goal.at.write_balance-requires c).In_ok-sheet).0); room = omega (arith, levels_room federation_ready (found (goal.at.write_balance-requires c).In_ok-sheet).0, (lengths (goal.at.write_balance-requires c).Else-not-right_lengths).balance) }

pub returns : goal.returns
returns c =
    let counts = c.args.counts.now in
    mend_made federation_ready _ counts _ _ (right (goal.at.returns c).Else-not-right_lengths) (found (goal.at.returns c).In_ok-sheet).0 (found (goal.at.returns c).In_ok-sheet).1
    (rw (← c.slots.ensures) (sym c.entries_rise.ensures ∙ c.if-not-entries_rise.false))
    (same_counts federation_ready (found (goal.at.returns c).In_ok-sheet).0 counts (sym (found (goal.at.returns c).In_ok-sheet).1) c.copy_ranges.ensures) (rw c.capacity-cap.ensures at c.tally.ensures)
    c.write_balance.ensures

pub returns-in_err-sheet : goal.returns-in_err-sheet
returns-in_err-sheet c =
    let none = (rw c.capacity-cap.ensures at c.recount.ensures).none _ c.in_err-sheet.was in
    rw (passed_on c.from_residual.ensures.1, none.0) (mend_none federation_ready _ _ _ _ (right (goal.at.returns-in_err-sheet c).Else-not-right_lengths) none.1)
