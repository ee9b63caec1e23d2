-- `store_part::last_leaf` meets its contract.
use native.Mathlib.Omega.{arith}
use Rattle.store_part.specs.LeavesLaws.{leaves_some, leaves_small}
use Rattle.store_part.proofs.last_leaf.Goals as goal

pub overflow_sub-result : goal.overflow_sub-result
overflow_sub-result c = rw c.region_leaves.ensures (leaves_some _ _)

pub overflow_add-result : goal.overflow_add-result
overflow_add-result c =
    rw (c.first_leaf.ensures, c.region_leaves.ensures) (omega (arith, leaves_small c.requires.inside c.requires.most))

pub returns : goal.returns
returns c = rw (c.first_leaf.ensures, c.region_leaves.ensures)
