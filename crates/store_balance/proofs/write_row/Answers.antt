-- `write_row` meets its contract. The loop's invariant: the words of the first i ranges of the row are written.
use mathlib.Core.Path.{refl}
use native.Mathlib.Omega.{arith}
use Rattle.store_slices.specs.PastedLaws.{pasted_none}
use Rattle.store_balance.specs.RowLaws.{row_next, row_all}
use Rattle.store_balance.proofs.write_row.Goals.{In-loop-i}
use Rattle.store_balance.proofs.write_row.Goals as goal

pub loop-i-init : goal.loop-i-init
loop-i-init c = pasted_none refl

pub loop-i-preserved : goal.loop-i-preserved
loop-i-preserved c =
    let a = c.args in
    rw c.first_entry.ensures
    (row_next a.slots.now a.half a.ranges c.loop-i.i c.loop-i.invariant (omega arith) (omega arith) _ refl)

pub returns : goal.returns
returns c =
    let a = c.args in
    row_all a.slots.now a.half a.ranges c.loop-i.i c.loop-i.invariant (omega arith)
