-- `start_of` meets its contract. The loop's invariant is `Descent`.
use Prim.Native.Nat.{◌-◌}
use Rattle.tree_sizes.specs.Sizes.{height}
use Rattle.store_rank.specs.Descent.{Descent}
use Rattle.store_rank.proofs.start_of.Given as goal

abbrev pub invariant-loop-depth : goal.invariant-loop-depth
invariant-loop-depth l = Descent (height l.size.m) l.counts l.rank (l.h - l._depth) l.range l.rest
