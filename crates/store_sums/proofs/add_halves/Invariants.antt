-- `add_halves` meets its contract. The loop's invariant: the sums at the numbers before k are written.
use Rattle.store_sums.specs.Updating.{Filled, halves_sum}
use Rattle.store_sums.proofs.add_halves.Given as goal

abbrev pub invariant-loop-k : goal.invariant-loop-k
invariant-loop-k l = Filled (halves_sum l.initial.numbers) l.first l.k l.initial.numbers l.numbers
