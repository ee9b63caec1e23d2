-- What a chunk of the input comes to from a place on. Definitions only.
use Rattle.std.specs.Prelude.{◌≡◌, List, ◌++◌, ℕ, ◌+◌, ◌≤◌, length}
use Rattle.frame_input.specs.Chunks.{gone_from}
use Rattle.frame_lines.specs.Frame.{frame_of}
use Rattle.frame_replies.specs.Reply.{bytes_of}
use Rattle.frame_replies.specs.Wrote.{Wrote}
use Rattle.frame_answers.specs.Step.{Kept, TapeReady, answer_to, kept_by, answers_to, kept_after}

-- Between two lines: the place in the chunk to go on at, the line buffer, the number of bytes that it holds of the line that is still
-- open, and what the program keeps.
pub record Standing : Type 0 where
  pub next : ℕ
  pub line : List ℕ
  pub have : ℕ
  pub kept : Kept

abbrev pub standing : ℕ → List ℕ → ℕ → Kept → Standing
standing next line have k = record { next = next; line = line; have = have; kept = k }

-- The line buffer has room for the bytes that it holds, and the tape for the words that wait.
pub record Held (s : Standing) : Type 0 where
  pub line : s.have ≤ length s.line
  pub tape : TapeReady s.kept

-- At the end of a chunk: the line buffer, the number of bytes that it holds of the line that is still open, and what the program keeps.
pub record End : Type 0 where
  pub line : List ℕ
  pub have : ℕ
  pub kept : Kept

abbrev pub end : List ℕ → ℕ → Kept → End
end line have k = record { line = line; have = have; kept = k }

-- The bytes that answer the lines that end in a chunk, and what there is at its end.
pub record ChunkOutcome : Type 0 where
  pub answers : List ℕ
  pub end : End

unfoldable pub chunk_outcome : List ℕ → Standing → ChunkOutcome
chunk_outcome chunk s =
    let gone = gone_from chunk s.next s.line s.have in
    record { answers = answers_to gone.lines s.kept; end = end gone.line gone.have (kept_after gone.lines s.kept) }

-- With bytes of answers in front.
unfoldable pub with_answers : List ℕ → ChunkOutcome → ChunkOutcome
with_answers bytes o = record { answers = bytes ++ o.answers; end = o.end }

-- A line is answered behind the first `at` bytes of the output, and what is kept follows.
pub record AnswersLine (line : List ℕ) (k : Kept) (output : List ℕ) (at bytes : ℕ) (k' : Kept) (output' : List ℕ) : Type 0 where
  pub kept : k' ≡ kept_by line k
  pub wrote : Wrote output at (bytes_of (answer_to (frame_of line) line k).replies) output' (at + bytes)

-- From s to t lines of the chunk are answered behind the first `at` bytes of the output: the bytes written, and then the answers to the
-- lines that are left, are the answers to the lines that end in the chunk from s on; what the chunk comes to at its end is the same.
pub record AnswersLines (chunk : List ℕ) (s : Standing) (output : List ℕ) (at : ℕ) (t : Standing) (output' : List ℕ) (next : ℕ) : Type 0 where
  pub written : List ℕ
  pub wrote : Wrote output at written output' next
  pub answers : chunk_outcome chunk s ≡ with_answers written (chunk_outcome chunk t)
  pub held : Held t
