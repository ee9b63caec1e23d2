-- `store_part::first_leaf` meets its contract.
use native.Mathlib.Omega.{arith}
use Rattle.store_part.specs.LeavesLaws.{leaves_small}
use Rattle.store_part.proofs.first_leaf.Goals as goal

pub overflow_mul-result : goal.overflow_mul-result
overflow_mul-result c = rw c.region_leaves.ensures (omega (arith, leaves_small c.requires.inside c.requires.most))

pub returns : goal.returns
returns c = rw c.region_leaves.ensures
