-- `collect` meets its contract. The loop's invariant: what is collected from the start is what is collected from here.
use mathlib.Core.Path.{◌≡◌}
use Prim.Native.Nat.{◌-◌}
use lib.ListN.{length}
use Rattle.frame_input.specs.Lines.{collecting}
use Rattle.frame_input.proofs.collect.Given as goal

abbrev pub invariant-loop-at : goal.invariant-loop-at
invariant-loop-at l =
    (collecting l.input l.from l.initial.line l.have ≡ collecting l.input l.at l.line l.held) × (length l.line ≡ length l.initial.line)

abbrev pub decreases-loop-at : goal.decreases-loop-at
decreases-loop-at l = length l.input - l.at
