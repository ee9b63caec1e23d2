-- `put_numbers` meets its contract.
use native.Mathlib.Omega.{arith}
use Rattle.tree_sizes.proofs.SizeLaws.{height_most}
use Rattle.store_counts.proofs.put_numbers.Goals as goal

pub write_rows-requires : goal.write_rows-requires
write_rows-requires c =
    rw c.height.ensures
    record { most = omega (arith, height_most c.args.size.m 30 (omega arith) (omega (arith, c.requires.most))); leaves = c.requires.leaves; room = omega (arith, c.requires.lengths, c.requires.room); others = c.requires.others c.if-range-eq1.false }

pub returns : goal.returns
returns c = rw (← c.height.ensures) c.write_rows.ensures
