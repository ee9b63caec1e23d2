-- The loop's invariant of `number`: `n` is what the digits before b write.
use Rattle.std.proofs.Common.{◌≡◌}
use Rattle.frame_lines.specs.Frame.{field}
use Rattle.frame_lines.proofs.number.Given as goal

abbrev pub invariant-loop-b : goal.invariant-loop-b
invariant-loop-b l = l.n ≡ field l.line l.i l.b-index
