-- `region_before` meets its contract.
use Prim.Native.Nat.{◌*◌, ◌-◌}
use mathlib.Core.Path.{◌≡◌}
use native.Mathlib.Omega.{arith}
use Rattle.tree_sizes.proofs.SizeLaws.{height_most}
use Rattle.store_part.specs.Region.{leaves_before}
use Rattle.store_part.specs.RegionLaws.{leaves_before_small}
use Rattle.store_part.proofs.region_before.Goals.{After-region_leaves}
use Rattle.store_part.proofs.region_before.Goals as goal

product : (c : After-region_leaves)
    → (c.args.range - c.power.result) * c.region_leaves.result
    ≡ leaves_before c.args.size.m c.args.range c.args.depth
unfolding leaves_before
product c = cc

pub power-requires : goal.power-requires
power-requires c = omega (arith, height_most c.args.size.m 32 (omega arith) (omega arith))

pub overflow_mul-result : goal.overflow_mul-result
overflow_mul-result c =
    let a = c.args in
    omega (arith, product c, leaves_before_small a.size.m a.range a.depth (omega arith) (omega arith) (omega arith))

pub returns : goal.returns
returns c = product c
