-- `add_halves` meets its contract. The loop's invariant: the sums at the numbers before k are written.
use mathlib.Core.Path.{◌≡◌, ap₂}
use Prim.Native.Nat.{ℕ, ◌+◌, ◌*◌}
use native.Mathlib.Omega.{arith}
use lib.ListN.{get_or}
use Rattle.store_sums.specs.Updating.{halves_sum}
use Rattle.store_sums.specs.UpdatingLaws.{filled_next}
use Rattle.store_sums.proofs.add_halves.Goals.{In-loop-k}
use Rattle.store_sums.proofs.add_halves.Goals as goal

-- Neither half of a range is written before it.
sum : (c : In-loop-k)
    → let l = c.loop-k in get_or l.numbers (2 * l.k) 0 + get_or l.numbers (2 * l.k + 1) 0 ≡ halves_sum c.args.numbers.now l.k
unfolding halves_sum
sum c =
    let l = c.loop-k in
    ap₂ (λ (x y : ℕ). x + y) (l.invariant.behind (2 * l.k) (omega arith)) (l.invariant.behind (2 * l.k + 1) (omega arith))

pub overflow_add-numbers-in-loop-k : goal.overflow_add-numbers-in-loop-k
overflow_add-numbers-in-loop-k c =
    omega (arith, sum (goal.at.overflow_add-numbers-in-loop-k c).In-loop-k, c.requires.small c.loop-k.k (omega arith) (omega arith))

pub loop-k-preserved : goal.loop-k-preserved
loop-k-preserved c =
    filled_next c.loop-k.invariant c.loop-k.auto.k (omega arith) _ (sum (goal.at.loop-k-preserved c).In-loop-k)
