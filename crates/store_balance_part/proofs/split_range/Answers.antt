-- `split_range` meets its contract. The loop's invariant: the range k begins with the leaf.
use native.Mathlib.Omega.{arith}
use Rattle.store_balance_part.specs.RightLaws.{begins_itself, begins_up, begins_right}
use Rattle.store_balance_part.proofs.split_range.Goals as goal

pub loop-k-init : goal.loop-k-init
loop-k-init c = (omega arith, begins_itself c.args.leaf)

pub loop-k-smaller : goal.loop-k-smaller
loop-k-smaller c = omega arith

pub loop-k-preserved : goal.loop-k-preserved
loop-k-preserved c = (omega arith, begins_up c.loop-k.invariant.1 c.loop-k-test.true)

pub returns : goal.returns
returns c = begins_right c.loop-k.invariant.1 c.loop-k-test.false
