-- `write_balance` meets its contract. The loop's invariant is `Rows`.
use lib.ListN.{length}
use Rattle.store_balance.specs.Rows.{Rows}
use Rattle.store_balance.proofs.write_balance.Given as goal

abbrev pub invariant-loop-levels : goal.invariant-loop-levels
invariant-loop-levels l = Rows l.initial.levels l.leaf l.slots (length l.fn.balance) l.levels l.ranges l.balance
