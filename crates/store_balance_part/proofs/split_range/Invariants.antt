-- `split_range` meets its contract. The loop's invariant: the range k begins with the leaf.
use Prim.Native.Nat.{◌<◌}
use Rattle.store_balance_part.specs.Update.{Begins}
use Rattle.store_balance_part.proofs.split_range.Given as goal

abbrev pub invariant-loop-k : goal.invariant-loop-k
invariant-loop-k l = (0 < l.k) × Begins l.k l.leaf

abbrev pub decreases-loop-k : goal.decreases-loop-k
decreases-loop-k l = l.k
