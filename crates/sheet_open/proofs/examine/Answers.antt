-- `examine` meets its contract.
use mathlib.Core.Path.{sym, ◌∙◌}
use Rattle.store_layout.specs.Decode.{numbered}
use Rattle.call_outcomes.specs.Untallied.{untallied_view, store_of}
use Rattle.call_outcomes.specs.Plain.{tally_slice, plain_store_of}
use Rattle.call_open.specs.Opening.{OpenedStore, OpenedSheet}
use Rattle.call_open.specs.AdmittedLaws.{opened_store, plain_decoded, opened_sheet}
use Rattle.call_open.specs.SliceOpeningLaws.{look_lengths, look_refused, look_not, look_sheet}
use Rattle.call_open.specs.PassedLaws.{passed_on}
use Rattle.sheet_open.specs.PlainOpeningLaws.{plain_refused, plain_sheet}
use Rattle.sheet_open.proofs.examine.Goals.{In_ok-sheet}
use Rattle.sheet_open.proofs.examine.Goals as goal

-- Slots and counts are a sheet with these numbers.
sheet : (c : In_ok-sheet) → let a = c.args in
    OpenedStore (untallied_view a.cap) numbered (store_of a.slots.now a.counts.now) c.in_ok-sheet.sheet.n c.in_ok-sheet.sheet.m c.examine.new.work
sheet c = opened_store (untallied_view _) numbered _ c.examine.ensures _ c.in_ok-sheet.was

holds : (c : In_ok-sheet) → let a = c.args in
    OpenedSheet a.cap (store_of a.slots.now a.counts.now) c.in_ok-sheet.sheet.n c.in_ok-sheet.sheet.m c.examine.new.work
holds c = opened_sheet _ _ c.examine.ensures _ c.in_ok-sheet.was

pub returns-then-tallies-cap : goal.returns-then-tallies-cap
returns-then-tallies-cap c =
    let a = c.args in
    plain_refused (look_lengths (untallied_view a.cap) (tally_slice a.cap) numbered (plain_store_of a.slots.now a.counts.now a.tallies.now) _ c.if-tallies-cap.true)

pub is_tallied-requires : goal.is_tallied-requires
is_tallied-requires c =
    record { ready = c.requires.ready; sheet = holds (goal.at.is_tallied-requires c).In_ok-sheet; tallies = c.if-tallies-cap.false; numbers = c.requires.numbers }

pub returns-then-not-is_tallied : goal.returns-then-not-is_tallied
returns-then-not-is_tallied c =
    let a = c.args in
    plain_refused
    (look_not (untallied_view a.cap) (tally_slice a.cap) numbered (plain_store_of a.slots.now a.counts.now a.tallies.now) _ c.if-tallies-cap.false (sheet (goal.at.returns-then-not-is_tallied c).In_ok-sheet)
    (sym (c.is_tallied.ensures.0 (sheet (goal.at.returns-then-not-is_tallied c).In_ok-sheet).contents (plain_decoded a.cap _ (sheet (goal.at.returns-then-not-is_tallied c).In_ok-sheet).contents (sheet (goal.at.returns-then-not-is_tallied c).In_ok-sheet).decided)) ∙ c.if-not-is_tallied.true))

pub returns : goal.returns
returns c =
    let a = c.args in
    let passed = c.if-not-is_tallied.false in
    plain_sheet
    (look_sheet (untallied_view a.cap) (tally_slice a.cap) numbered (plain_store_of a.slots.now a.counts.now a.tallies.now) _ c.if-tallies-cap.false (sheet (goal.at.returns c).In_ok-sheet)
    (sym (c.is_tallied.ensures.0 (sheet (goal.at.returns c).In_ok-sheet).contents (plain_decoded a.cap _ (sheet (goal.at.returns c).In_ok-sheet).contents (sheet (goal.at.returns c).In_ok-sheet).decided)) ∙ passed))
    (c.is_tallied.ensures.1 passed)

pub returns-in_err-sheet : goal.returns-in_err-sheet
returns-in_err-sheet c =
    let a = c.args in
    rw (passed_on c.from_residual.ensures.1)
    (plain_refused
    (look_refused (untallied_view a.cap) (tally_slice a.cap) numbered (plain_store_of a.slots.now a.counts.now a.tallies.now) _ c.if-tallies-cap.false
    c.examine.ensures c.in_err-sheet.was))
