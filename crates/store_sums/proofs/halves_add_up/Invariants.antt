-- `halves_add_up` meets its contract. The loop's invariant: the ranges before k have the sums over their halves.
use Rattle.store_sums.specs.Updating.{Agrees, halves_sum}
use Rattle.store_sums.proofs.halves_add_up.Given as goal

abbrev pub invariant-loop-k : goal.invariant-loop-k
invariant-loop-k l = Agrees (halves_sum l.numbers) 1 l.k l.numbers
