-- `answer_line` meets its contract.
use mathlib.Core.Path.{sym}
use lib.Seq.{length-take-le}
use Rattle.frame_chunks.specs.ChunkLaws.{line_answers}
use Rattle.frame_chunks.proofs.answer_line.Goals as goal

pub slice_bounds-step-end : goal.slice_bounds-step-end
slice_bounds-step-end c = sym (length-take-le _ _ c.requires.line)

pub returns : goal.returns
returns c =
    let s = c.step in
    line_answers _ _ _ _ c.requires.room c.requires.tape s.auto.output s.ensures
