-- `halves_add_up` meets its contract. The loop's invariant: the ranges before k have the sums over their halves.
use native.Mathlib.Omega.{arith}
use Rattle.base.specs.BoolLaws.{fails}
use Rattle.store_sums.specs.Updating.{halves_sum}
use Rattle.store_sums.specs.UpdatingLaws.{agrees_next}
use Rattle.store_sums.proofs.halves_add_up.Goals as goal

pub returns-then-numbers-k : goal.returns-then-numbers-k
unfolding halves_sum
returns-then-numbers-k c =
    fails (λ all. c.if-numbers-k.true (all c.loop-k.k c.loop-k.auto.k (omega arith)))

pub loop-k-preserved : goal.loop-k-preserved
unfolding halves_sum
loop-k-preserved c =
    agrees_next _ _ c.args.numbers.now c.loop-k.k c.loop-k.invariant c.if-numbers-k.false
