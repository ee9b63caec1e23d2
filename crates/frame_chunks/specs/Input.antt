-- What an input comes to that is read in chunks. Definitions only.
use Rattle.std.specs.Prelude.{List, [], ◌∷◌, ℕ}
use Rattle.base.specs.Cases.{if_eq}
use Rattle.frame_answers.specs.Step.{Kept}
use Rattle.frame_chunks.specs.Chunk.{standing, end, ChunkOutcome, chunk_outcome, with_answers}

-- The end of the input ends a line that is still open, as an LF does.
unfoldable pub at_end : List ℕ → ℕ → Kept → ChunkOutcome
at_end line have k = if_eq have 0 (record { answers = []; end = end line have k }) (chunk_outcome (10 ∷ []) (standing 0 line have k))

-- Chunks, one after the other, and then the end of the input.
unfoldable pub input_outcome : List (List ℕ) → List ℕ → ℕ → Kept → ChunkOutcome
input_outcome [] line have k = at_end line have k
input_outcome (chunk ∷ chunks) line have k =
    let o = chunk_outcome chunk (standing 0 line have k) in
    with_answers o.answers (input_outcome chunks o.end.line o.end.have o.end.kept)
