-- The loop's invariant of `put_entries`: the entries before this one are written.
use Rattle.frame_replies.specs.Wrote.{EntriesWritten}
use Rattle.frame_replies.proofs.put_entries.Given as goal

abbrev pub invariant-loop-entry : goal.invariant-loop-entry
invariant-loop-entry l = EntriesWritten l.initial.output l.at l.list l.entry-index l.output l.next
