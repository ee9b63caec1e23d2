-- `tree_walk::descend` meets its contract. The loop's invariant: the run of the walk is that from the present range on.
use lib.ListN.{get_or}
use Rattle.tree_walk.specs.Walk.{CountedAt, Walking}
use Rattle.tree_walk.proofs.descend.Given as goal

abbrev pub invariant-loop-here : goal.invariant-loop-here
invariant-loop-here l =
    Walking l.initial.here.change l.n (get_or l.initial.counts 0 0) l.initial.counts l.tape l.start l.counts l.here.range.levels l.here.range.depth l.here.range.k l.here.range.n l.here.change l.at
    × CountedAt (get_or l.initial.counts 0 0) l.here.range.depth l.c

abbrev pub decreases-loop-here : goal.decreases-loop-here
decreases-loop-here l = l.here.range.levels
