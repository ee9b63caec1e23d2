-- The lines of a list of bytes (document 01, "Frames"), and how a line is collected out of a chunk of the input. LF is 10.
-- Definitions only.
use Rattle.std.specs.Prelude.{Bool, true, false, List, [], ◌∷◌, ◌++◌, ℕ, ◌+◌, ◌-◌, length, take, drop}
use Rattle.base.specs.Cases.{if_eq}
use Rattle.frame_input.specs.declared.Collected.{Collected}

-- The byte b in front of the first line; where there is none, b alone is one.
unfoldable pub in_front : ℕ → List (List ℕ) → List (List ℕ)
in_front b [] = (b ∷ []) ∷ []
in_front b (line ∷ lines) = (b ∷ line) ∷ lines

-- The lines, without the LF that ends each. A last one without LF counts if it holds a byte.
unfoldable pub lines_of : List ℕ → List (List ℕ)
lines_of [] = []
lines_of (b ∷ bytes) = if_eq b 10 ([] ∷ lines_of bytes) (in_front b (lines_of bytes))

-- The bytes in front of the first LF; all where there is none.
unfoldable pub up_to_lf : List ℕ → List ℕ
up_to_lf [] = []
up_to_lf (b ∷ bytes) = if_eq b 10 [] (b ∷ up_to_lf bytes)

-- There is an LF.
unfoldable pub has_lf : List ℕ → Bool
has_lf [] = false
has_lf (b ∷ bytes) = if_eq b 10 true (has_lf bytes)

-- The bytes up to and including the first LF are so many.
unfoldable pub length_with_lf : List ℕ → ℕ
length_with_lf bytes = length (up_to_lf bytes) + elim (has_lf bytes) [ true ↦ 1 | false ↦ 0 ]

-- What `collect` returns, and what it leaves in the line buffer.
pub record Outcome : Type 0 where
  pub answer : Collected
  pub line : List ℕ

unfoldable pub left : Collected → List ℕ → Outcome
left answer line = record { answer = answer; line = line }

-- The bytes `more` put behind the first `have` bytes of the line buffer.
unfoldable pub behind : List ℕ → ℕ → List ℕ → List ℕ
behind line have more = take have line ++ more ++ drop (have + length more) line

-- Collecting out of `bytes`, the first of which stands at the place `from` of the chunk: as many of those in front of the first LF as
-- the line buffer has room for.
unfoldable pub collecting_of : List ℕ → ℕ → List ℕ → ℕ → Outcome
collecting_of bytes from line have =
    let kept = take (length line - have) (up_to_lf bytes) in
    left (record { next = from + length_with_lf bytes; have = have + length kept; ended = has_lf bytes }) (behind line have kept)

-- Collecting out of a chunk of the input from the place `from` on.
unfoldable pub collecting : List ℕ → ℕ → List ℕ → ℕ → Outcome
collecting input from line have = collecting_of (drop from input) from line have
