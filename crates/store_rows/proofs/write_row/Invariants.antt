-- `write_row` meets its contract. The loop's invariant: the numbers of the ranges before k are written.
use Rattle.store_rows.specs.Row.{RowWritten}
use Rattle.store_rows.proofs.write_row.Given as goal

abbrev pub invariant-loop-k : goal.invariant-loop-k
invariant-loop-k l = RowWritten l.h l.from l.k l.numbers l.initial.counts l.counts
