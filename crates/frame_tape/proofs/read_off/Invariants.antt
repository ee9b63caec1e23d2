-- The loop's invariant of `read_off`: the first i words are those of the tape without the ones read.
use Rattle.store_slices.specs.Pasted.{Pasted}
use Rattle.frame_tape.specs.Tape.{read_off}
use Rattle.frame_tape.proofs.read_off.Given as goal

abbrev pub invariant-loop-i : goal.invariant-loop-i
invariant-loop-i l = Pasted l.initial.tape 0 (read_off l.words l.initial.tape) l.i l.tape
