-- `slots_are_zero` meets its contract. The loop's invariant: the test comes to that of the slots behind the blocks seen so far.
use Rattle.std.proofs.Common.{◌≡◌, ◌*◌, drop}
use Rattle.store_zeros.specs.AllZero.{all_zero}
use Rattle.store_zeros.proofs.slots_are_zero.Given as goal

abbrev pub invariant-loop-block : goal.invariant-loop-block
invariant-loop-block l = all_zero (drop l.from l.slots) ≡ all_zero (drop (l.block-index * 64) (drop l.from l.slots))
