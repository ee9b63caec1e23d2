-- `mend` meets its contract.
use mathlib.Core.Path.{◌≡◌, refl, sym, ◌∙◌}
use mathlib.Core.Bool.{true}
use native.Mathlib.Omega.{arith}
use lib.ListN.{get_or}
use Rattle.call_outcomes.specs.Untallied.{store_of}
use Rattle.call_outcomes.specs.Plain.{plain_view, PlainLengths, plain_store_of}
use Rattle.call_outcomes.proofs.PlainLaws.{right_plain}
use Rattle.call_outcomes.specs.Clubs.{clubs}
use Rattle.call_outcomes.proofs.ClubsLaws.{clubs_ready}
use Rattle.call_open.specs.Opening.{OpenedSheet}
use Rattle.call_open.specs.PassedLaws.{passed_on}
use Rattle.sheet_open.specs.LengthLaws.{lengths_tested}
use Rattle.sheet_recount.specs.MendLaws.{mend_lengths, mend_none, mend_made}
use Rattle.sheet_mend.proofs.mend.Goals.{After-right_lengths, Else-not-right_lengths, In_ok-sheet}
use Rattle.sheet_mend.proofs.mend.Goals as goal

-- The lengths are right.
tested : (c : After-right_lengths) → let a = c.args in
    c.right_lengths.result ≡ (plain_view clubs).right_lengths (plain_store_of a.slots.now a.counts.now a.tallies.now)
tested c =
    let a = c.args in
    (rw c.capacity-cap.ensures at c.right_lengths.ensures) ∙ lengths_tested clubs a.slots.now a.counts.now a.tallies.now

right : (c : Else-not-right_lengths) → let a = c.args in (plain_view clubs).right_lengths (plain_store_of a.slots.now a.counts.now a.tallies.now) ≡ true
right c = sym (tested (goal.at.Else-not-right_lengths c).After-right_lengths) ∙ c.if-not-right_lengths.false

lengths : (c : Else-not-right_lengths) → let a = c.args in PlainLengths clubs (plain_store_of a.slots.now a.counts.now a.tallies.now)
lengths c = right_plain clubs _ (right c)

-- The sheet that was found.
found : (c : In_ok-sheet) → let a = c.args in
    OpenedSheet clubs (store_of a.slots.now c.recount.new.fresh) c.in_ok-sheet.sheet.n c.in_ok-sheet.sheet.m c.recount.new.work
    × (c.in_ok-sheet.sheet.m ≡ get_or a.counts.now 0 0)
found c = (rw c.capacity-cap.ensures at c.recount.ensures).found _ c.in_ok-sheet.was

pub returns-then-not-right_lengths : goal.returns-then-not-right_lengths
returns-then-not-right_lengths c = mend_lengths clubs_ready _ _ _ (sym (tested (goal.at.returns-then-not-right_lengths c).After-right_lengths) ∙ c.if-not-right_lengths.true)

pub bounds-counts-0 : goal.bounds-counts-0
bounds-counts-0 c = omega (arith, (lengths (goal.at.bounds-counts-0 c).Else-not-right_lengths).sheet.counts)

pub recount-requires : goal.recount-requires
recount-requires c =
    rw c.capacity-cap.ensures record { ready = clubs_ready; slots = (lengths (goal.at.recount-requires c).Else-not-right_lengths).sheet.slots; work = refl; fresh = refl }

pub put_in-requires : goal.put_in-requires
put_in-requires c =
    let l = lengths (goal.at.put_in-requires c).Else-not-right_lengths in
    record { sheet = (found (goal.at.put_in-requires c).In_ok-sheet).0; counts = l.sheet.counts; tallies = l.tallies; kept = sym (found (goal.at.put_in-requires c).In_ok-sheet).1 }

pub returns : goal.returns
returns c =
    mend_made clubs_ready _ _ _ (right (goal.at.returns c).Else-not-right_lengths) (found (goal.at.returns c).In_ok-sheet).0 (found (goal.at.returns c).In_ok-sheet).1 c.put_in.ensures.0 c.put_in.ensures.1

pub returns-in_err-sheet : goal.returns-in_err-sheet
returns-in_err-sheet c =
    let none = (rw c.capacity-cap.ensures at c.recount.ensures).none _ c.in_err-sheet.was in
    rw (passed_on c.from_residual.ensures.1, none.0) (mend_none clubs_ready _ _ _ (right (goal.at.returns-in_err-sheet c).Else-not-right_lengths) none.1)
