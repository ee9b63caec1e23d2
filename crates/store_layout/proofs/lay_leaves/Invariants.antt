-- `lay_leaves` meets its contract. The loop's invariant: so many leaves are laid out as counts are seen (`Laid`).
use lib.ListN.{take, drop}
use Rattle.store_layout.proofs.LeavesLoop.{Laid}
use Rattle.store_layout.proofs.lay_leaves.Given as goal

abbrev pub invariant-loop-count : goal.invariant-loop-count
invariant-loop-count l =
    Laid l.initial.slots l.from l.s (take l.leaves (drop l.first l.counts)) l.list l.slots l.count-index l.to l.at
