-- `write_drawn` meets its contract.
use Rattle.std.proofs.Common.{◌+◌, ◌<◌, length, arith}
use Rattle.call_change.specs.SheetChange.{entries_before}
use Rattle.call_change.specs.WriteLaws.{range_inside, before_most}
use Rattle.federation_change.proofs.write_drawn.Goals as goal

pub count_at-count-requires : goal.count_at-count-requires
count_at-count-requires c =
    record { inside = range_inside c.requires.ready }

pub write_small-requires : goal.write_small-requires
write_small-requires c =
    record { ready = c.requires.ready; most = before_most c.requires.ready 1024 (omega (arith, c.count_at-count.ensures)) }

pub write_by_list-requires-clause-room : goal.write_by_list-requires-clause-room
write_by_list-requires-clause-room c =
    let a = c.args in
    let room : length (entries_before a.drawn a.slots.now) + 1 < 8194 =
    omega (arith, before_most c.requires.ready 8192 (omega (arith, c.count_at-count.ensures, c.if-count-le8191.true))) in room
