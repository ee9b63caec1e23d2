-- `narrow` meets its contract. The loop's invariant: the first i numbers are copied.
use Rattle.store_slices.specs.Pasted.{Pasted}
use Rattle.store_widths.proofs.narrow.Given as goal

abbrev pub invariant-loop-i : goal.invariant-loop-i
invariant-loop-i l = Pasted l.initial.narrow 0 l.wide l.i l.narrow
