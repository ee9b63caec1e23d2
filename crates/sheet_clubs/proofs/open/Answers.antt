-- `open` meets its contract.
use mathlib.Core.Path.{◌≡◌, sym, ◌∙◌}
use mathlib.Core.List.{[]}
use Prim.Native.Nat.{ℕ}
use native.Mathlib.Omega.{arith}
use Rattle.store_layout.specs.Decode.{numbered}
use Rattle.call_outcomes.specs.Untallied.{untallied_view, store_of}
use Rattle.call_outcomes.specs.Plain.{tally_slice, plain_view, PlainLengths, plain_store_of}
use Rattle.call_outcomes.proofs.PlainLaws.{right_plain}
use Rattle.call_outcomes.specs.Clubs.{clubs}
use Rattle.call_outcomes.proofs.ClubsLaws.{clubs_ready}
use Rattle.call_open.specs.Opening.{Opening, OpenedStore}
use Rattle.call_open.specs.AdmittedLaws.{opened_store, plain_decoded, opened_sheet}
use Rattle.call_open.specs.SliceOpeningLaws.{look_refused, look_not, look_sheet}
use Rattle.call_open.specs.PassedLaws.{passed_on}
use Rattle.sheet_open.specs.LengthLaws.{lengths_tested}
use Rattle.sheet_open.specs.PlainOpeningLaws.{plain_wrong}
use Rattle.sheet_clubs.proofs.open.Goals.{After-examine, After-right_lengths, Else-not-right_lengths, In_ok-sheet}
use Rattle.sheet_clubs.proofs.open.Goals as goal

-- The test of the lengths is that of the clubs' store.
tested : (c : After-right_lengths) → let a = c.args in
    c.right_lengths.result ≡ (plain_view clubs).right_lengths (plain_store_of a.slots.now a.counts.now a.tallies.now)
tested c =
    let a = c.args in
    (rw c.capacity.ensures at c.right_lengths.ensures) ∙ lengths_tested clubs a.slots.now a.counts.now a.tallies.now

right : (c : Else-not-right_lengths) → let a = c.args in PlainLengths clubs (plain_store_of a.slots.now a.counts.now a.tallies.now)
right c = right_plain clubs _ (sym (tested (goal.at.Else-not-right_lengths c).After-right_lengths) ∙ c.if-not-right_lengths.false)

-- What slots and counts were found to be, and that they are a sheet with these numbers.
found : (c : After-examine) → let a = c.args in
    Opening (untallied_view clubs) numbered (store_of a.slots.now a.counts.now) c.examine.result c.examine.new.work
found c = rw (c.capacity-2.ensures, c.widen.ensures) at c.examine.ensures

sheet : (c : In_ok-sheet) → let a = c.args in
    OpenedStore (untallied_view clubs) numbered (store_of a.slots.now a.counts.now) c.in_ok-sheet.sheet.n c.in_ok-sheet.sheet.m c.examine.new.work
sheet c = opened_store (untallied_view clubs) numbered _ (found (goal.at.In_ok-sheet c).After-examine) _ c.in_ok-sheet.was

pub returns-then-not-right_lengths : goal.returns-then-not-right_lengths
returns-then-not-right_lengths c = (
  (plain_wrong {numbers = []} (sym (tested (goal.at.returns-then-not-right_lengths c).After-right_lengths) ∙ c.if-not-right_lengths.true)).opening,
  record { same = λ e. let z : ◌≡◌ {A = ℕ} 0 1 = cc in absurd (omega arith) },
)

pub widen-requires : goal.widen-requires
widen-requires c = c.requires.counts32 ∙ sym (right (goal.at.widen-requires c).Else-not-right_lengths).sheet.counts

pub examine-requires : goal.examine-requires
examine-requires c =
    rw c.capacity-2.ensures record { capacity = clubs_ready; room = c.requires.work }

pub is_tallied-requires : goal.is_tallied-requires
is_tallied-requires c =
    record { sheet = opened_sheet clubs _ (rw c.capacity-2.ensures at c.examine.ensures) _ c.in_ok-sheet.was; tallies = (right (goal.at.is_tallied-requires c).Else-not-right_lengths).tallies }

pub returns-then-not-is_tallied : goal.returns-then-not-is_tallied
returns-then-not-is_tallied c =
    let a = c.args in (
      look_not (untallied_view clubs) (tally_slice clubs) numbered (plain_store_of a.slots.now a.counts.now a.tallies.now) _ (right (goal.at.returns-then-not-is_tallied c).Else-not-right_lengths).tallies (sheet (goal.at.returns-then-not-is_tallied c).In_ok-sheet)
          (sym ((rw c.widen.ensures at c.is_tallied.ensures) (sheet (goal.at.returns-then-not-is_tallied c).In_ok-sheet).contents (plain_decoded clubs _ (sheet (goal.at.returns-then-not-is_tallied c).In_ok-sheet).contents (sheet (goal.at.returns-then-not-is_tallied c).In_ok-sheet).decided)) ∙ c.if-not-is_tallied.true),
      record { same = λ e. c.widen.ensures },
    )

pub returns : goal.returns
returns c =
    let a = c.args in (
      look_sheet (untallied_view clubs) (tally_slice clubs) numbered (plain_store_of a.slots.now a.counts.now a.tallies.now) _ (right (goal.at.returns c).Else-not-right_lengths).tallies (sheet (goal.at.returns c).In_ok-sheet)
          (sym ((rw c.widen.ensures at c.is_tallied.ensures) (sheet (goal.at.returns c).In_ok-sheet).contents (plain_decoded clubs _ (sheet (goal.at.returns c).In_ok-sheet).contents (sheet (goal.at.returns c).In_ok-sheet).decided)) ∙ c.if-not-is_tallied.false),
      record { same = λ e. c.widen.ensures },
    )

pub returns-in_err-sheet : goal.returns-in_err-sheet
returns-in_err-sheet c =
    let a = c.args in
    rw (passed_on c.from_residual.ensures.1) (
      look_refused (untallied_view clubs) (tally_slice clubs) numbered (plain_store_of a.slots.now a.counts.now a.tallies.now) _ (right (goal.at.returns-in_err-sheet c).Else-not-right_lengths).tallies (found (goal.at.returns-in_err-sheet c).After-examine) c.in_err-sheet.was,
      record { same = λ e. c.widen.ensures },
    )
