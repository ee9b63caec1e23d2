-- `start_for` meets its contract. The loop's invariant is `Descent`.
use Prim.Native.Nat.{◌-◌}
use Rattle.tree_sizes.specs.Sizes.{height}
use Rattle.store_search.specs.Descent.{Descent}
use Rattle.store_search.proofs.start_for.Given as goal

abbrev pub invariant-loop-depth : goal.invariant-loop-depth
invariant-loop-depth l = Descent (height l.size.m) l.counts l.balance l.k (l.h - l._depth) l.range l.before
