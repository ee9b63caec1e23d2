-- `step`: each test decides as it does in `step_of`.
use Rattle.frame_answers.specs.StepLaws.{step_short, step_tape, step_waiting, step_done}
use Rattle.frames.proofs.step.Goals as goal

pub returns-then-output-lt69012 : goal.returns-then-output-lt69012
returns-then-output-lt69012 c = step_short _ _ _ c.if-output-lt69012.true

pub returns-then-tape-ne1024 : goal.returns-then-tape-ne1024
returns-then-tape-ne1024 c = step_tape _ _ _ c.if-output-lt69012.false c.if-tape-ne1024.true

pub returns-then-waiting-gt1024 : goal.returns-then-waiting-gt1024
returns-then-waiting-gt1024 c = step_waiting _ _ _ c.if-output-lt69012.false c.if-tape-ne1024.false c.if-waiting-gt1024.true

pub returns : goal.returns
returns c =
    step_done _ _ _ c.if-output-lt69012.false c.if-tape-ne1024.false c.if-waiting-gt1024.false (rw c.decode-frame.ensures at c.answer_frame.ensures)
