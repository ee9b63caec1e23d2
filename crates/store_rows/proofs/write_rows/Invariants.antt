-- `write_rows` meets its contract. The loop's invariant: the numbers stand at their places but perhaps in the rows that are left.
use Rattle.std.proofs.Common.{◌+◌, ◌≤◌}
use Rattle.store_rows.specs.Above.{PlacedBut}
use Rattle.store_rows.specs.Row.{RowsLeft}
use Rattle.store_rows.proofs.write_rows.Given as goal

abbrev pub invariant-loop-depth : goal.invariant-loop-depth
invariant-loop-depth l =
    (l.depth ≤ l.h + 1) × RowsLeft l.depth l.from l.to × PlacedBut l.h l.from l.to l.numbers l.counts

abbrev pub decreases-loop-depth : goal.decreases-loop-depth
decreases-loop-depth l = l.depth
