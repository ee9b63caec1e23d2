-- `board` meets its contract.
use mathlib.Core.Path.{◌≡◌, sym, ap, ◌∙◌}
use mathlib.Core.List.{List}
use Prim.Native.Nat.{ℕ, ◌<◌}
use native.Mathlib.Omega.{arith}
use lib.ListN.{length, get_or}
use Rattle.store_board.specs.BoardLaws.{falls_from, rank_inside}
use Rattle.store_layout.specs.Leaf.{nonzero}
use Rattle.store_layout.specs.Room.{CapacityReady}
use Rattle.call_outcomes.specs.declared.Answer.TheVariants.{Entries}
use Rattle.call_outcomes.specs.PlainCalls.{board_of, question_cause}
use Rattle.call_outcomes.specs.Untallied.{store_of}
use Rattle.call_outcomes.specs.PlainCallLaws.{BoardWithin, board_within}
use Rattle.call_open.specs.Opening.{admitted, OpenedSheet}
use Rattle.call_open.specs.PassedLaws.{passed_on}
use Rattle.std.specs.Prelude.{Ok}
use Rattle.call_open.specs.AdmittedLaws.{found_sheet, found_free}
use Rattle.call_questions.proofs.AnswerLaws.{asked_refused}
use Rattle.call_questions.specs.StartLaws.{entries_number, size_small, counts_room, start_place, start_passed}
use Rattle.call_questions.specs.BoardLaws.{board_reply, no_ranks}
use Rattle.call_questions.proofs.board.Goals.{In_ok-sheet, Then-ranks-gt0}
use Rattle.call_questions.proofs.board.Goals as goal

-- The board goes on, on a plain sheet, and no cause refuses its ranks.
goes_on : (c : In_ok-sheet)
    → let a = c.args in
    admitted (question_cause (board_of a.ranks.now (length a.output.now))) a.opened ≡ Ok c.in_ok-sheet.sheet
goes_on c = sym c.admit_board.ensures ∙ c.in_ok-sheet.was

sheet : (c : In_ok-sheet)
    → OpenedSheet c.requires.cap (store_of c.args.slots.now c.requires.counts) c.in_ok-sheet.sheet.n c.in_ok-sheet.sheet.m c.args.work.now
sheet c = c.requires.sheet _ (found_sheet _ _ (goes_on c))

within : (c : In_ok-sheet)
    → let a = c.args in
    BoardWithin a.ranks.now (length a.output.now) c.in_ok-sheet.sheet.n
within c =
    let a = c.args in
    board_within a.ranks.now (length a.output.now) c.in_ok-sheet.sheet.n (found_free _ _ (goes_on c))

ready : (c : In_ok-sheet) → CapacityReady c.requires.cap
ready c = c.requires.ready

-- The first rank is that of an entry.
first_inside : (c : Then-ranks-gt0)
    → let a = c.args in
    get_or a.ranks.now 0 0 < length (nonzero a.slots.now)
first_inside c =
    let a = c.args in
    omega (arith, entries_number (sheet (goal.at.Then-ranks-gt0 c).In_ok-sheet), rank_inside c.in_ok-sheet.sheet.n a.ranks.now 0 (omega arith) (within (goal.at.Then-ranks-gt0 c).In_ok-sheet).inside)

pub start_of-start-requires : goal.start_of-start-requires
start_of-start-requires c =
    record { most = size_small (sheet (goal.at.start_of-start-requires c).In_ok-sheet) (ready (goal.at.start_of-start-requires c).In_ok-sheet); room = counts_room (sheet (goal.at.start_of-start-requires c).In_ok-sheet) (ready (goal.at.start_of-start-requires c).In_ok-sheet) }

pub overflow_sub-lowest : goal.overflow_sub-lowest
overflow_sub-lowest c =
    omega (arith, start_place (sheet (goal.at.overflow_sub-lowest c).In_ok-sheet) (ready (goal.at.overflow_sub-lowest c).In_ok-sheet) _ c.start_of-start.ensures (first_inside (goal.at.overflow_sub-lowest c).Then-ranks-gt0))

pub copy_entries-requires : goal.copy_entries-requires
copy_entries-requires c =
    record { from = start_passed (sheet (goal.at.copy_entries-requires c).In_ok-sheet) (ready (goal.at.copy_entries-requires c).In_ok-sheet) _ c.start_of-start.ensures (first_inside (goal.at.copy_entries-requires c).Then-ranks-gt0); order = falls_from 0 _ _ (omega arith) (within (goal.at.copy_entries-requires c).In_ok-sheet).in_order; entries = rw (entries_number (sheet (goal.at.copy_entries-requires c).In_ok-sheet)) at (within (goal.at.copy_entries-requires c).In_ok-sheet).inside; room = (within (goal.at.copy_entries-requires c).In_ok-sheet).enough }

pub returns-then-ranks-gt0 : goal.returns-then-ranks-gt0
returns-then-ranks-gt0 c =
    let a = c.args in
    rw c.copy_entries.ensures.1
    (board_reply a.opened a.ranks.now (nonzero a.slots.now) a.output.now (goes_on (goal.at.returns-then-ranks-gt0 c).In_ok-sheet) (entries_number (sheet (goal.at.returns-then-ranks-gt0 c).In_ok-sheet)))

pub returns-else-ranks-gt0 : goal.returns-else-ranks-gt0
returns-else-ranks-gt0 c =
    let a = c.args in
    ap (λ (output : List ℕ). record { answer = Ok (Entries (length a.ranks.now)); output = output })
    (no_ranks a.ranks.now (nonzero a.slots.now) a.output.now (omega arith))
    ∙ board_reply a.opened a.ranks.now (nonzero a.slots.now) a.output.now (goes_on (goal.at.returns-else-ranks-gt0 c).In_ok-sheet) (entries_number (sheet (goal.at.returns-else-ranks-gt0 c).In_ok-sheet))

pub returns-in_err-sheet : goal.returns-in_err-sheet
returns-in_err-sheet c =
    rw (passed_on c.from_residual.ensures.1) (asked_refused _ _ (sym c.admit_board.ensures ∙ c.in_err-sheet.was) _ _)
