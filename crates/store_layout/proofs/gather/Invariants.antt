-- `gather` meets its contract. The loop's invariant: the entries of the slots seen so far are gathered.
use lib.ListN.{take, drop}
use Rattle.store_layout.specs.Leaf.{nonzero}
use Rattle.store_layout.specs.Ready.{Gathered}
use Rattle.store_layout.proofs.gather.Given as goal

abbrev pub invariant-loop-slot : goal.invariant-loop-slot
invariant-loop-slot l = Gathered (nonzero (take l.slot-index (take l.len (drop l.from l.slots)))) l.initial.list l.n l.list
