-- `write_rows` meets its contract. The loop's invariant: the numbers stand at their places but perhaps in the rows that are left.
use native.Mathlib.Omega.{arith}
use Rattle.store_rows.specs.RowLaws.{placed_up, placed_all, rows_above, rows_none}
use Rattle.store_rows.proofs.write_rows.Goals as goal

pub loop-depth-preserved : goal.loop-depth-preserved
loop-depth-preserved c =
    let inv = c.loop-depth.invariant in
    (omega (arith, inv.0), rows_above inv.1 (omega arith), placed_up inv.2 c.write_row.ensures)

pub returns : goal.returns
returns c = let inv = c.loop-depth.invariant in placed_all inv.2 (rows_none inv.1 (omega (arith, c.loop-depth-test.false)))
