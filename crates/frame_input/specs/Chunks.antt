-- Collecting line after line out of chunks of the input, as a program does that reads them one after the other.
-- Definitions only.
use Rattle.std.specs.Prelude.{true, false, List, [], ◌∷◌, ◌++◌, ℕ, zero, suc, length, take}
use Rattle.base.specs.Cases.{if_eq, if_lt}
use Rattle.frame_input.specs.Lines.{collecting}

-- The chunks, one behind the other.
unfoldable pub joined : List (List ℕ) → List ℕ
joined [] = []
joined (chunk ∷ chunks) = chunk ++ joined chunks

-- The lines that a chunk ends, and the line buffer with the number of bytes that it holds of the line that is still open.
pub record Gone : Type 0 where
  pub lines : List (List ℕ)
  pub line : List ℕ
  pub have : ℕ

-- A line that has ended, in front of the further ones.
unfoldable pub with : List ℕ → Gone → Gone
with ended gone = record { lines = ended ∷ gone.lines; line = gone.line; have = gone.have }

-- `collect` called on a chunk from the place `from` on until the chunk ends, each time where the last call says, at most `turns` times:
-- a line that ends is given out, and the next one starts with an empty line buffer.
unfoldable pub through : ℕ → List ℕ → ℕ → List ℕ → ℕ → Gone
through zero chunk from line have = record { lines = []; line = line; have = have }
through (suc turns) chunk from line have =
    if_lt from (length chunk)
    (let o = collecting chunk from line have in
    let next = o.answer.next in
    elim o.answer.ended [
      | true ↦ with (take o.answer.have o.line) (through turns chunk next o.line 0)
      | false ↦ through turns chunk next o.line o.answer.have
    ])
    (record { lines = []; line = line; have = have })

-- The lines that a chunk ends from the place `from` on: its length in turns is enough.
unfoldable pub gone_from : List ℕ → ℕ → List ℕ → ℕ → Gone
gone_from chunk from line have = through (length chunk) chunk from line have

-- The lines given out over chunks, one after the other. At the end of the input the open line is given out if it holds a byte.
unfoldable pub lines_over : List (List ℕ) → List ℕ → ℕ → List (List ℕ)
lines_over [] line have = if_eq have 0 [] (take have line ∷ [])
lines_over (chunk ∷ chunks) line have =
    let gone = gone_from chunk 0 line have in
    gone.lines ++ lines_over chunks gone.line gone.have
