-- `lay_by_table` meets its contract. The loop's invariant: so many leaves are laid out as counts are seen (`Laid`), and the list is as it was.
use mathlib.Core.Path.{◌≡◌}
use lib.ListN.{take, drop}
use Rattle.store_layout.proofs.LeavesLoop.{Laid}
use Rattle.store_spread.proofs.lay_by_table.Given as goal

abbrev pub invariant-loop-count : goal.invariant-loop-count
invariant-loop-count g l =
    Laid l.initial.slots l.from g.row.S (take l.leaves (drop l.first l.counts)) l.initial.list l.slots l.count-index l.to l.at × (l.list ≡ l.initial.list)
