-- `put_entries` meets its contract.
use Rattle.std.proofs.Common.{rules}
use Rattle.frame_replies.specs.DigitLaws.{entries_room, entries_next, entries_done}
use Rattle.frame_replies.proofs.put_entries.Goals as goal

pub put_digits-next-requires : goal.put_digits-next-requires
put_digits-next-requires c = entries_room c.loop-entry.invariant (search rules) c.requires

pub loop-entry-preserved : goal.loop-entry-preserved
loop-entry-preserved c = entries_next c.loop-entry.invariant c.loop-entry-test.true c.put_digits-next.ensures

pub returns : goal.returns
returns c = entries_done c.loop-entry.invariant c.loop-entry-test.false
