-- The loop's invariant of `add_words`: the first k words of the line stand behind those that wait.
use Prim.Native.Nat.{◌≤◌}
use Rattle.store_slices.specs.Pasted.{Pasted}
use Rattle.frame_tape.specs.Tape.{line_words}
use Rattle.frame_tape.proofs.add_words.Given as goal

abbrev pub invariant-loop-k : goal.invariant-loop-k
invariant-loop-k l = (l.k ≤ l.words) × Pasted l.initial.tape l.waiting (line_words l.line 0 l.words) l.k l.tape
