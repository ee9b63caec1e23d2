-- `answer_chunk`: each turn of the loop goes on from what was reached, and at the end of the chunk nothing of it is left.
use Rattle.std.proofs.Common.{rules}
use Rattle.frame_chunks.specs.ChunkLaws.{held_within, end_more, end_there}
use Rattle.sheet.proofs.answer_chunk.Goals as goal

pub loop-from-preserved : goal.loop-from-preserved
loop-from-preserved g c =
    let reached = c.answer_lines-reached in
    let within = held_within reached.ensures.0.held (search rules) in
    (within.0, within.1, end_more _ _ c.loop-from.invariant.2 reached.ensures.0)

pub returns : goal.returns
returns g c =
    let i = c.loop-from.invariant in
    ((i.0, i.1), end_there _ _ i.2 c.loop-from-test.false)
