-- `answer_frame` meets its contract: each arm gives what the frame is answered by.
use Rattle.std.proofs.Common.{ap, sym, ◌∙◌, rules}
use Rattle.frame_lines.specs.Frame.{words_of}
use Rattle.frame_answers.specs.Step.{answer_to, refusal, entry_count}
use Rattle.frame_answers.specs.StepLaws.{keeping_gives, printed_gives, cleared_gives}
use Rattle.frame_dispatch.proofs.answer_frame.Goals as goal

pub tape_line-requires : goal.tape_line-requires
unfolding words_of
tape_line-requires c =
    record { line = ap words_of (sym c.requires.frame ∙ c.in-Some-Tape.is) ∙ rw (rw c.in-Some-Tape.is at c.in-Some-Tape.field-0-is); tape = search rules; waiting = search rules; room = search rules }

pub returns-in-Some-Insert : goal.returns-in-Some-Insert
unfolding answer_to
returns-in-Some-Insert c = rw (c.in-Some-Insert.is, rw c.in-Some-Insert.is at c.in-Some-Insert.field-0-is) c.insert_line.ensures

pub returns-in-Some-Delete : goal.returns-in-Some-Delete
unfolding answer_to
returns-in-Some-Delete c = rw (c.in-Some-Delete.is, rw c.in-Some-Delete.is at c.in-Some-Delete.field-0-is) c.delete_line.ensures

pub returns-in-Some-Tape : goal.returns-in-Some-Tape
unfolding answer_to
returns-in-Some-Tape c = rw (c.in-Some-Tape.is, rw c.in-Some-Tape.is at c.in-Some-Tape.field-0-is) c.tape_line.ensures

pub returns-in-Some-Read : goal.returns-in-Some-Read
unfolding answer_to
returns-in-Some-Read c = rw (c.in-Some-Read.is, rw c.in-Some-Read.is at c.in-Some-Read.field-0-is) (keeping_gives _ c.read_line-bytes.ensures)

pub returns-in-Some-Print : goal.returns-in-Some-Print
unfolding answer_to
returns-in-Some-Print c = rw (c.in-Some-Print.is, rw c.in-Some-Print.is at c.in-Some-Print.field-0-is) (printed_gives _ c.print_line-bytes.ensures)

pub returns-in-Some-Clear : goal.returns-in-Some-Clear
unfolding answer_to
returns-in-Some-Clear c = rw (c.in-Some-Clear.is, rw c.in-Some-Clear.is at c.in-Some-Clear.field-0-is) (cleared_gives _ _ c.clear_line-bytes.ensures)

pub returns-in-Some-Place : goal.returns-in-Some-Place
unfolding answer_to
returns-in-Some-Place c = rw (c.in-Some-Place.is, rw c.in-Some-Place.is at c.in-Some-Place.field-0-is) (keeping_gives _ c.place_line-bytes.ensures)

pub returns-in-None : goal.returns-in-None
unfolding answer_to refusal entry_count
returns-in-None c = rw c.in-None.is (keeping_gives _ (rw c.from-number.ensures at c.answer-bytes.ensures))
