-- `write_small` meets its contract.
use Rattle.std.proofs.Common.{◌+◌, ◌<◌, length, arith}
use Rattle.call_change.specs.SheetChange.{entries_before}
use Rattle.call_change.specs.WriteLaws.{range_inside, before_most}
use Rattle.sheet_change.proofs.write_small.Goals as goal

pub count_at-requires : goal.count_at-requires
count_at-requires c =
    record { inside = range_inside c.requires.ready }

pub write_by_list-requires-clause-room : goal.write_by_list-requires-clause-room
write_by_list-requires-clause-room c =
    let a = c.args in
    let room : length (entries_before a.drawn a.slots.now) + 1 < 131 =
    omega (arith, before_most c.requires.ready 129 (omega (arith, c.count_at.ensures, c.if-count_at-le128.true))) in room
