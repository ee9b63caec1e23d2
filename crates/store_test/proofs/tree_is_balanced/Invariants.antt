-- `tree_is_balanced` meets its contract. The loop's invariant: the levels above are as they should be where `all` is true (`LevelsLeft`).
use Rattle.std.proofs.Common.{◌-◌}
use Rattle.store_test.specs.LevelCheck.{LevelsLeft}
use Rattle.store_test.proofs.tree_is_balanced.Given as goal

abbrev pub invariant-loop-level : goal.invariant-loop-level
invariant-loop-level l = LevelsLeft l.counts l.m l.h l.all l.c l.first (l.h - l._level)
