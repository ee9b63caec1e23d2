-- The loop's invariant of `print_leaves`: the first j leaves are written.
use Prim.Native.Nat.{◌-◌}
use Rattle.frame_print.specs.Printed.{LeavesWritten}
use Rattle.frame_print.proofs.print_leaves.Given as goal

abbrev pub invariant-loop-j : goal.invariant-loop-j
invariant-loop-j l = LeavesWritten l.slots l.counts l.s l.leaves l.initial.output l.at l.j l.output l.next
