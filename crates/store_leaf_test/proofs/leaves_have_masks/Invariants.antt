-- `leaves_have_masks` meets its contract. The loop's invariant: the leaves of the counts seen so far are as they should be where `all` is true (`Remaining`).
use Prim.Native.Nat.{◌*◌}
use lib.ListN.{take, drop}
use Rattle.store_leaf_test.specs.LeavesCheck.{Remaining}
use Rattle.store_leaf_test.proofs.leaves_have_masks.Given as goal

abbrev pub invariant-loop-count : goal.invariant-loop-count
invariant-loop-count l = Remaining l.slots (3 * l.g) (take l.leaves (drop l.first l.counts)) l.all l.count-index l.from
