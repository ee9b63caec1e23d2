-- The loop's invariant of `put_digits`: all but the first `left` digits are written, and `rest` is the number without them.
use Rattle.frame_replies.specs.Wrote.{DigitsWritten}
use Rattle.frame_replies.proofs.put_digits.Given as goal

abbrev pub invariant-loop-left : goal.invariant-loop-left
invariant-loop-left l = DigitsWritten l.initial.output l.at l.c l.v l.left l.rest l.output
