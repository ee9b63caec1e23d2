-- `first_entry` meets its contract. The loop's invariant: the first entry from `from` on is the first of the slots that are left.
use mathlib.Core.Path.{◌≡◌}
use Rattle.store_balance.specs.BalanceIn.{first_from}
use Rattle.store_balance.proofs.first_entry.Given as goal

abbrev pub invariant-loop-slot : goal.invariant-loop-slot
invariant-loop-slot l = first_from l.slots l.from ≡ first_from l.slot-items l.slot-index
