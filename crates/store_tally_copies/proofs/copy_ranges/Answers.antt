-- `copy_ranges` meets its contract. The loop's invariant: the numbers from 1 on before k are copied.
use mathlib.Core.Path.{refl}
use native.Mathlib.Omega.{arith}
use Rattle.store_tally_copies.specs.CopyLaws.{copied, copied_next}
use Rattle.store_tally_copies.proofs.copy_ranges.Goals as goal

pub loop-k-init : goal.loop-k-init
loop-k-init c = (omega arith, record { lengths = c.requires.lengths; first = refl; others = λ i pos h. absurd (omega arith) })

pub bounds-to-k : goal.bounds-to-k
bounds-to-k c = omega (arith, c.loop-k.invariant.1.lengths)

pub loop-k-preserved : goal.loop-k-preserved
loop-k-preserved c = (omega arith, copied_next c.loop-k.invariant.0 (omega arith) c.loop-k.invariant.1)

pub returns : goal.returns
returns c =
    copied (omega (arith, c.requires.lengths, c.requires.some)) (omega arith) c.loop-k.invariant.1
