-- `narrow` meets its contract. The loop's invariant: the first i numbers are copied.
use Prim.Native.Nat.{◌^◌, ◌<◌}
use native.Mathlib.Omega.{arith}
use Rattle.base.specs.ListLaws.{every_get_d}
use Rattle.store_slices.specs.PastedLaws.{copied_next}
use Rattle.store_widths.proofs.narrow.Goals as goal

pub overflow_cast-narrow : goal.overflow_cast-narrow
overflow_cast-narrow c = omega (arith, every_get_d (λ x. x < 2 ^ 16) c.args.wide.now c.loop-i.i 0 c.requires.fit (omega arith))

pub loop-i-preserved : goal.loop-i-preserved
loop-i-preserved c = copied_next c.loop-i.invariant c.requires.lengths (omega arith)
