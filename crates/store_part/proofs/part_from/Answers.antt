-- `store_part::part_from` meets its contract.
use native.Mathlib.Omega.{arith}
use Rattle.store_part.specs.Plan.{part_from}
use Rattle.store_part.specs.LayPartLaws.{part_small}
use Rattle.store_part.proofs.part_from.Goals as goal

pub overflow_mul-result : goal.overflow_mul-result
unfolding part_from
overflow_mul-result c =
    let a = c.args in
    rw (c.leaf_slots.ensures, c.region_before.ensures) (omega (arith, part_small a.size.m a.part c.requires))

pub returns : goal.returns
unfolding part_from
returns c = rw (c.leaf_slots.ensures, c.region_before.ensures)
