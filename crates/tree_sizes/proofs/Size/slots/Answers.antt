-- `Size::slots` meets its contract.
use Prim.Native.Nat.{◌*◌}
use mathlib.Core.Path.{◌≡◌}
use native.Mathlib.Omega.{arith}
use Rattle.tree_sizes.specs.Sizes.{slots}
use Rattle.tree_sizes.proofs.SizeLaws.{height_most, slots_le}
use Rattle.tree_sizes.proofs.Size.slots.Goals as goal

product : (c : goal.After-power)
    → c.leaf_slots-leaf.result * c.power.result ≡ slots c.args.self.m
unfolding slots
product c = cc

pub power-requires : goal.power-requires
power-requires c = omega (arith, height_most c.args.self.m 32 (omega arith) (omega arith))

pub overflow_mul-result : goal.overflow_mul-result
overflow_mul-result c = omega (arith, product c, slots_le c.args.self.m)

pub returns : goal.returns
returns c = product c
