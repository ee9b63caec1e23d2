-- `region_leaves` meets its contract.
use native.Mathlib.Omega.{arith}
use Rattle.tree_sizes.proofs.SizeLaws.{height_most}
use Rattle.store_part.specs.Region.{leaves_of}
use Rattle.store_part.proofs.region_leaves.Goals as goal

pub power-requires : goal.power-requires
power-requires c = omega (arith, height_most c.args.size.m 32 (omega arith) (omega arith))

pub returns : goal.returns
unfolding leaves_of
returns c = cc
