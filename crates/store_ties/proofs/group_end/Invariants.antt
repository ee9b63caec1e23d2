-- `group_end` meets its contract. The loop's invariant is `On`: there are `end` scoring boats before the slot `at`, the retired boats right before it
-- bear the bit, and the group of the boat ends behind those from number `end` on that tied, one after the other, with the boat before them.
use Prim.Native.Nat.{◌-◌}
use lib.ListN.{length}
use Rattle.store_ties.specs.Steps.{On}
use Rattle.store_ties.proofs.group_end.Given as goal

abbrev pub invariant-loop-end : goal.invariant-loop-end
invariant-loop-end l = On l.slots l.scoring l.before l.at l.end

abbrev pub decreases-loop-end : goal.decreases-loop-end
decreases-loop-end l = length l.slots - l.at
