-- `write_row` meets its contract. The loop's invariant: the words of the first i ranges of the row are written.
use Rattle.store_slices.specs.Pasted.{Pasted}
use Rattle.store_balance.specs.BalanceIn.{right_firsts}
use Rattle.store_balance.proofs.write_row.Given as goal

abbrev pub invariant-loop-i : goal.invariant-loop-i
invariant-loop-i l =
    Pasted l.initial.balance l.ranges (right_firsts l.slots l.half l.ranges) l.i l.balance
