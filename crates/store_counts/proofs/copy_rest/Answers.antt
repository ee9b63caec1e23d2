-- `copy_rest` meets its contract. The loop's invariant: the numbers up to i that are no range's are copied.
use mathlib.Core.Path.{subst}
use Prim.Native.Nat.{ℕ}
use native.Mathlib.Omega.{arith}
use Rattle.store_order.specs.Copied.{RestCopied}
use Rattle.store_order.specs.RestCopiedLaws.{rest_size, rest_next}
use Rattle.store_counts.proofs.copy_rest.Goals as goal

pub loop-i-init : goal.loop-i-init
loop-i-init c = (omega arith, omega arith, rest_size c.args.to.now c.requires.lengths (omega arith))

pub loop-i-preserved : goal.loop-i-preserved
loop-i-preserved c = (omega arith, omega arith, rest_next _ c.loop-i.invariant.2 (omega arith) (omega arith))

pub returns : goal.returns
returns c =
    let l = c.loop-i in
    let a = c.args in
    subst (λ (stop : ℕ). RestCopied a.start stop a.from.now l.to) (omega (arith, l.invariant.1)) l.invariant.2
