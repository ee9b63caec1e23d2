-- `Size::leaf_slots` meets its contract.
use native.Mathlib.Omega.{arith}
use Rattle.tree_sizes.proofs.SizeLaws.{digits_most, leaf_slots_large, leaf_slots_small}
use Rattle.tree_sizes.proofs.Size.leaf_slots.Goals as goal

pub returns-then-self-le64 : goal.returns-then-self-le64
returns-then-self-le64 c = omega (arith, leaf_slots_small c.args.self.m (omega arith))

pub overflow_mul-result : goal.overflow_mul-result
overflow_mul-result c = omega (arith, digits_most c.args.self.m 64 (omega arith) (omega arith))

pub returns : goal.returns
returns c = omega (arith, leaf_slots_large c.args.self.m (omega arith))
