-- `copy_tree` meets its contract. Its measure is the number of levels. The loop's invariant: the first j subtrees are copied, and the next one
-- stands behind them.
use mathlib.Core.Path.{◌≡◌}
use Prim.Native.Nat.{◌+◌, ◌*◌}
use lib.ListN.{length}
use Rattle.store_order.specs.TreeOrder.{each, tree_order}
use Rattle.store_tree.proofs.+copy_tree.Given as goal

abbrev pub decreases-copy_tree : goal.decreases-copy_tree
decreases-copy_tree g l = l.levels

abbrev pub invariant-loop-j : goal.invariant-loop-j
invariant-loop-j g l =
    (l.place ≡ l.initial.place + l.j * l.ranges) × (length l.to ≡ length l.initial.to)
    × (l.to ≡ g.D.Direction.put l.initial.place (each (tree_order l.lower) (l.subtrees * l.k) l.j) l.from l.initial.to)
