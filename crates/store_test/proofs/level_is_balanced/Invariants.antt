-- `level_is_balanced` meets its contract. The loop's invariant: the ranges before k are as they should be where `all` is true (`RangesLeft`).
use Rattle.std.proofs.Common.{◌-◌}
use Rattle.store_test.specs.LevelCheck.{RangesLeft}
use Rattle.store_test.proofs.level_is_balanced.Given as goal

abbrev pub invariant-loop-k : goal.invariant-loop-k
invariant-loop-k l = RangesLeft l.counts l.c l.first l.all (l.k - l.first)
