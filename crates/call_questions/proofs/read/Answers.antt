-- `read` meets its contract.
use mathlib.Core.Path.{◌≡◌, sym, ◌∙◌}
use mathlib.Core.Option.{none}
use Prim.Native.Nat.{◌+◌, ◌-◌, ◌≤◌, ◌<◌}
use native.Mathlib.Omega.{arith}
use lib.ListN.{length}
use Rattle.store_layout.specs.Room.{CapacityReady}
use Rattle.call_outcomes.specs.PlainCalls.{read_ranks, question_cause}
use Rattle.call_outcomes.specs.Untallied.{store_of}
use Rattle.call_outcomes.specs.PlainCallLaws.{read_within}
use Rattle.call_open.specs.Opening.{admitted, OpenedSheet}
use Rattle.call_open.specs.PassedLaws.{passed_on}
use Rattle.std.specs.Prelude.{Ok}
use Rattle.call_open.specs.AdmittedLaws.{found_sheet, found_free}
use Rattle.call_questions.proofs.AnswerLaws.{asked_refused}
use Rattle.call_questions.specs.StartLaws.{entries_few, size_small, counts_room, from_start, start_enough}
use Rattle.call_questions.specs.ReadLaws.{read_room, read_reply_lem}
use Rattle.call_questions.proofs.read.Goals.{In_ok-sheet}
use Rattle.call_questions.proofs.read.Goals as goal

-- The read goes on, on a plain sheet, and no cause refuses its ranks.
goes_on : (c : In_ok-sheet)
    → let a = c.args in
    admitted (question_cause (read_ranks a.first a.last (length a.output.now))) a.opened ≡ Ok c.in_ok-sheet.sheet
goes_on c = sym c.admit_read.ensures ∙ c.in_ok-sheet.was

sheet : (c : In_ok-sheet)
    → OpenedSheet c.requires.cap (store_of c.args.slots.now c.requires.counts) c.in_ok-sheet.sheet.n c.in_ok-sheet.sheet.m c.args.work.now
sheet c = c.requires.sheet _ (found_sheet _ _ (goes_on c))

free : (c : In_ok-sheet)
    → let a = c.args in
    question_cause (read_ranks a.first a.last (length a.output.now)) c.in_ok-sheet.sheet.n ≡ none
free c = found_free _ _ (goes_on c)

-- Its ranks are there, and the output has room for their entries.
within : (c : In_ok-sheet)
    → let a = c.args in
    (a.first ≤ a.last) × (a.last < c.in_ok-sheet.sheet.n) × (a.last - a.first + 1 ≤ length a.output.now)
within c =
    let a = c.args in
    read_within a.first a.last (length a.output.now) c.in_ok-sheet.sheet.n (free c)

ready : (c : In_ok-sheet) → CapacityReady c.requires.cap
ready c = c.requires.ready

pub overflow_sub-count : goal.overflow_sub-count
overflow_sub-count c = (within c).0

pub overflow_add-count : goal.overflow_add-count
overflow_add-count c =
    omega (arith, (within c).1, entries_few (sheet c) (ready c))

pub start_of-start-requires : goal.start_of-start-requires
start_of-start-requires c =
    record { most = size_small (sheet c) (ready c); room = counts_room (sheet c) (ready c) }

pub read_from-requires : goal.read_from-requires
read_from-requires c =
    record { entries = start_enough (sheet (goal.at.read_from-requires c).In_ok-sheet) (ready (goal.at.read_from-requires c).In_ok-sheet) _ c.start_of-start.ensures _ (omega arith) (read_room (sheet (goal.at.read_from-requires c).In_ok-sheet) _ _ _ (free (goal.at.read_from-requires c).In_ok-sheet)); room = (within (goal.at.read_from-requires c).In_ok-sheet).2 }

pub returns : goal.returns
returns c =
    let a = c.args in
    rw (c.read_from.ensures, from_start (sheet (goal.at.returns c).In_ok-sheet) (ready (goal.at.returns c).In_ok-sheet) a.first c.start_of-start.ensures)
    (read_reply_lem _ _ _ _ _ (goes_on (goal.at.returns c).In_ok-sheet) (read_room (sheet (goal.at.returns c).In_ok-sheet) _ _ _ (free (goal.at.returns c).In_ok-sheet)))

pub returns-in_err-sheet : goal.returns-in_err-sheet
returns-in_err-sheet c =
    rw (passed_on c.from_residual.ensures.1) (asked_refused _ _ (sym c.admit_read.ensures ∙ c.in_err-sheet.was) _ _)
