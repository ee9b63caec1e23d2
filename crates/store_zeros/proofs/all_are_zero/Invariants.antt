-- `all_are_zero` meets its contract. The loop's invariant: the test comes to that of the joined numbers and of those not seen yet.
use Rattle.std.proofs.Common.{◌≡◌, ◌&&◌, eqb, drop}
use Rattle.store_zeros.specs.AllZero.{all_zero}
use Rattle.store_zeros.proofs.all_are_zero.Given as goal

abbrev pub invariant-loop-slot : goal.invariant-loop-slot
invariant-loop-slot l = all_zero l.slots ≡ (eqb l.joined 0 && all_zero (drop l.slot-index l.slots))
