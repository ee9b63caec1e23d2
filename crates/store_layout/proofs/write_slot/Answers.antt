-- `write_slot` meets its contract.
use Rattle.store_layout.proofs.QuotientLaws.{next_room, next_stands}
use Rattle.store_layout.proofs.LeafLoop.{entry_left, entry_written, gap_written}
use Rattle.store_layout.proofs.write_slot.Goals as goal

pub plus-requires : goal.plus-requires
plus-requires c =
    let pass = c.requires.pass in
    let both = next_room pass.stands c.requires.step (entry_left pass.passed c.requires.inside c.if-i-next.true) pass.ready.fit pass.ready.small in record { wholes = both.0; rests = both.1 }

pub returns-then-i-next : goal.returns-then-i-next
returns-then-i-next c =
    let pass = c.requires.pass in
    entry_written c.args.leaf c.args.list.now pass c.requires.inside c.if-i-next.true
    (next_stands pass.stands c.requires.step (entry_left pass.passed c.requires.inside c.if-i-next.true) c.plus.ensures)

pub returns : goal.returns
returns c =
    gap_written c.args.leaf c.args.list.now c.requires.pass c.requires.inside c.if-i-next.false
