-- `leaves_one_by_one` meets its contract. The loop's invariant: the leaves of the counts seen so far are as they should be (`Remaining`).
use mathlib.Core.Bool.{true}
use lib.ListN.{take, drop}
use Rattle.store_leaf_test.specs.LeavesCheck.{Remaining}
use Rattle.store_leaf_test.proofs.leaves_one_by_one.Given as goal

abbrev pub invariant-loop-count : goal.invariant-loop-count
invariant-loop-count l = Remaining l.slots l.s (take l.leaves (drop l.first l.counts)) true l.count-index l.from
