-- `tally_before` meets its contract. The loop's invariant is `OnPath`.
use Rattle.store_tallies.specs.Path.{OnPath}
use Rattle.store_tallies.proofs.tally_before.Given as goal

abbrev pub invariant-loop-levels : goal.invariant-loop-levels
invariant-loop-levels l = OnPath l.initial.levels l.tallies l.leaf l.levels l.k l.sum
