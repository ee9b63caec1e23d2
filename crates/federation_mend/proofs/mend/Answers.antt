-- `mend` meets its contract.
use mathlib.Core.Path.{◌≡◌, refl, sym, ◌∙◌}
use mathlib.Core.Bool.{true}
use native.Mathlib.Omega.{arith}
use lib.ListN.{get_or}
use Rattle.call_outcomes.specs.Untallied.{store_of}
use Rattle.call_outcomes.specs.Plain.{plain_view, PlainLengths, plain_store_of}
use Rattle.call_outcomes.proofs.PlainLaws.{right_plain}
use Rattle.call_outcomes.specs.Federation.{federation}
use Rattle.call_outcomes.proofs.FederationLaws.{federation_ready}
use Rattle.call_open.specs.Opening.{OpenedSheet}
use Rattle.call_open.specs.PassedLaws.{passed_on}
use Rattle.sheet_open.specs.LengthLaws.{lengths_tested}
use Rattle.sheet_recount.specs.FoundLaws.{fresh_number, same_counts}
use Rattle.sheet_recount.specs.MendLaws.{mend_lengths, mend_none, mend_made}
use Rattle.federation_mend.proofs.mend.Goals.{Else-not-right_lengths, In_ok-sheet}
use Rattle.federation_mend.proofs.mend.Goals as goal

-- The start; and the lengths are right.
right : (c : Else-not-right_lengths) → let a = c.args in (plain_view federation).right_lengths (plain_store_of a.slots.now a.counts.now a.tallies.now) ≡ true
right c = sym (lengths_tested federation _ _ _) ∙ sym c.right_lengths.ensures ∙ c.if-not-right_lengths.false

lengths : (c : Else-not-right_lengths) → let a = c.args in PlainLengths federation (plain_store_of a.slots.now a.counts.now a.tallies.now)
lengths c = right_plain federation _ (right c)

-- The sheet that was found.
found : (c : In_ok-sheet) → let a = c.args in
    OpenedSheet federation (store_of a.slots.now c.recount.new.fresh) c.in_ok-sheet.sheet.n c.in_ok-sheet.sheet.m c.recount.new.work
    × (c.in_ok-sheet.sheet.m ≡ get_or a.counts.now 0 0)
found c =
    (rw c.capacity-cap.ensures at c.recount.ensures).found _ c.in_ok-sheet.was

pub returns-then-not-right_lengths : goal.returns-then-not-right_lengths
returns-then-not-right_lengths c =
    mend_lengths federation_ready _ _ _ (sym (lengths_tested federation _ _ _) ∙ sym c.right_lengths.ensures ∙ c.if-not-right_lengths.true)

pub bounds-counts-0 : goal.bounds-counts-0
bounds-counts-0 c = omega (arith, (lengths (goal.at.bounds-counts-0 c).Else-not-right_lengths).sheet.counts)

pub recount-requires : goal.recount-requires
recount-requires c =
    rw c.capacity-cap.ensures record { ready = federation_ready; slots = (lengths (goal.at.recount-requires c).Else-not-right_lengths).sheet.slots; work = refl; fresh = refl }

pub tally-requires : goal.tally-requires
tally-requires c =
    rw c.capacity-cap.ensures record { ready = federation_ready; sheet = (found (goal.at.tally-requires c).In_ok-sheet).0; numbers = refl; tallies = (lengths (goal.at.tally-requires c).Else-not-right_lengths).tallies }

pub copy_ranges-requires : goal.copy_ranges-requires
copy_ranges-requires c =
    let l = (lengths (goal.at.copy_ranges-requires c).Else-not-right_lengths).sheet.counts in
    record { lengths = l ∙ sym (fresh_number federation_ready (found (goal.at.copy_ranges-requires c).In_ok-sheet).0); some = omega (arith, l) }

pub returns : goal.returns
returns c =
    let counts = c.args.counts.now in
    mend_made federation_ready _ counts _ (right (goal.at.returns c).Else-not-right_lengths) (found (goal.at.returns c).In_ok-sheet).0 (found (goal.at.returns c).In_ok-sheet).1
    (same_counts federation_ready (found (goal.at.returns c).In_ok-sheet).0 counts (sym (found (goal.at.returns c).In_ok-sheet).1) c.copy_ranges.ensures) (rw c.capacity-cap.ensures at c.tally.ensures)

pub returns-in_err-sheet : goal.returns-in_err-sheet
returns-in_err-sheet c =
    let none = (rw c.capacity-cap.ensures at c.recount.ensures).none _ c.in_err-sheet.was in
    rw (passed_on c.from_residual.ensures.1, none.0) (mend_none federation_ready _ _ _ (right (goal.at.returns-in_err-sheet c).Else-not-right_lengths) none.1)
