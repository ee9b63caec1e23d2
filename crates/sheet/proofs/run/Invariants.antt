-- The loop of `run`: what is held lies within the buffers.
use Rattle.sheet.specs.Within.{Within}
use Rattle.sheet.proofs.run.Given as goal

abbrev pub invariant-loop : goal.invariant-loop
invariant-loop g l = Within l.state
