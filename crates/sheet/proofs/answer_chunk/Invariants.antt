-- The loop of `answer_chunk`: what is held lies within the buffers, and from here on the chunk comes to what it comes to from its start on.
use Rattle.std.proofs.Common.{◌-◌, ◌≡◌, ◌≤◌, length}
use Rattle.call_outcomes.specs.Plain.{plain_store_of}
use Rattle.frame_tape.specs.Tape.{most_waiting}
use Rattle.frame_answers.specs.Gives.{kept_of}
use Rattle.frame_chunks.specs.Chunk.{standing, chunk_outcome}
use Rattle.sheet.specs.Within.{line_room}
use Rattle.sheet.proofs.answer_chunk.Given as goal

abbrev pub invariant-loop-from : goal.invariant-loop-from
invariant-loop-from g l =
    (l.have ≤ line_room) × (l.waiting ≤ most_waiting)
    × ((chunk_outcome l.chunk (standing l.from l.line l.have (kept_of (plain_store_of l.slots l.counts l.tallies) l.tape l.waiting))).end
    ≡ (chunk_outcome l.chunk (standing 0 l.fn.line l.fn.before.have (kept_of (plain_store_of l.fn.slots l.fn.counts l.fn.tallies) l.fn.tape l.fn.before.waiting))).end)

abbrev pub decreases-loop-from : goal.decreases-loop-from
decreases-loop-from g l = length l.chunk - l.from
