-- `frame_step`: a step is made where the slice of the waiting words is not empty.
use Rattle.frames.specs.FrameStepLaws.{frame_step_none, frame_step_done}
use Rattle.frames.proofs.frame_step.Goals as goal

pub returns-then-waiting-lt1 : goal.returns-then-waiting-lt1
returns-then-waiting-lt1 c = frame_step_none _ _ _ _ _ c.if-waiting-lt1.true

pub returns : goal.returns
returns c = frame_step_done _ _ _ _ _ c.if-waiting-lt1.false c.step-stepped.ensures
