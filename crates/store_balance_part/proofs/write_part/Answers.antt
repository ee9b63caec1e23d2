-- `store_balance_part::write_part` meets its contract.
use Rattle.store_part.specs.LeavesLaws.{part_leaves}
use Rattle.store_balance_part.proofs.write_part.Goals as goal

pub update_balance-requires : goal.update_balance-requires
update_balance-requires c =
    let ready = c.requires in
    rw (c.first_leaf-first.ensures, c.last_leaf-last.ensures)
    record { most = ready.most; room = ready.room; leaves = part_leaves ready.inside; kept = ready.kept c.if-range-eq1.false }
