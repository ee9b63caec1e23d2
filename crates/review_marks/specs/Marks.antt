-- The starred cases of document 01, "Marks round the course", the printed sheet by the leaf rule of document 02 (F-2): what each one names
-- by the definitions. Definitions only.
use Rattle.std.specs.Prelude.{List, [], ◌∷◌, map, ℕ, ◌+◌, ◌-◌, ◌*◌, ◌^◌, Option, Some, None}
use Prim.Native.String.{String}
use Rattle.draw.specs.declared.Drawn.{Drawn}
use Rattle.draw.specs.Draw.{draw_at, tape_place_after}
use Rattle.draw_shares.specs.Program.{Program, done, draw}
use Rattle.tree_sizes.specs.Sizes.{digits, height, slots, candidates, window_start}
use Rattle.tree_rules.specs.Rules.{SizeStep, kept, anew, delete_size}
use Rattle.frame_answers.specs.Step.{at_start, answers_to}
use Rattle.review_marks.specs.Text.{bytes, ended}

-- What a case names: a number of a size M; the first or the last of c candidates among n entries, counted from 1; the face of a draw among
-- m from these words, and how many of them it reads; among how many a delete with N and M draws, 0 where it keeps M without a draw.
pub data Asked : Type 0 where
  ranges_of : ℕ → Asked
  digits_of : ℕ → Asked
  height_of : ℕ → Asked
  slots_of : ℕ → Asked
  candidates_of : ℕ → ℕ → Asked
  first_of : ℕ → ℕ → Asked
  last_of : ℕ → ℕ → Asked
  face_of : ℕ → List ℕ → Asked
  words_of : ℕ → List ℕ → Asked
  delete_among : ℕ → ℕ → Asked

unfoldable pub face : Option Drawn → ℕ
face (Some d) = d.face
face None = 0

-- 0 where the size is kept without a draw, 1 where it is set without one.
unfoldable pub among : Program SizeStep → ℕ
among (done kept) = 0
among (done (anew m)) = 1
among (draw m p) = m

-- Its value by the rules.
unfoldable pub by_rules : Asked → ℕ
by_rules (ranges_of M) = 2 * 2 ^ height M - 1
by_rules (digits_of M) = digits M
by_rules (height_of M) = height M
by_rules (slots_of M) = slots M
by_rules (candidates_of M d) = candidates M d
by_rules (first_of n c) = 1 + window_start n c
by_rules (last_of n c) = window_start n c + c
by_rules (face_of m words) = face (draw_at m words 0)
by_rules (words_of m words) = tape_place_after 0 (draw_at m words 0)
by_rules (delete_among N M) = among (delete_size N M)

-- A case: what it names and its value, or lines and the lines that the program answers them by, as the documents write them.
infix 70 ◌is◌ ◌answered_by◌
pub data Case : Type 0 where
  ◌is◌ : Asked → ℕ → Case
  ◌answered_by◌ : List String → List ℕ → Case

-- The case with what the definitions give.
unfoldable pub computed : Case → Case
computed (q is v) = q is by_rules q
computed (lines answered_by answers) = lines answered_by answers_to (map bytes lines) at_start

-- The starred cases in the order of document 01.
unfoldable pub marks : List Case
marks =
    slots_of 64 is 64
    ∷ ranges_of 64 is 1
    ∷ digits_of 65 is 7
    ∷ height_of 65 is 3
    ∷ slots_of 65 is 168
    ∷ candidates_of 65 0 is 3
    ∷ candidates_of 65 1 is 2
    ∷ candidates_of 65 2 is 1
    ∷ slots_of 128 is 336
    ∷ digits_of 129 is 8
    ∷ height_of 129 is 4
    ∷ slots_of 129 is 384
    ∷ slots_of 1407 is 2112
    ∷ slots_of 1408 is 4224
    ∷ digits_of 2047 is 11
    ∷ height_of 2047 is 7
    ∷ candidates_of 2047 0 is 47
    ∷ first_of 10 3 is 4
    ∷ last_of 10 3 is 6
    ∷ first_of 11 3 is 5
    ∷ last_of 11 3 is 7
    ∷ words_of 3 (0xFFFFFFFF ∷ 0xFFFFFFFE ∷ []) is 2
    ∷ face_of 3 (0xFFFFFFFF ∷ 0xFFFFFFFE ∷ []) is 2
    ∷ delete_among 5 9 is 8
    ∷ delete_among 5 7 is 0
    ∷ ("010000000000000000000A" ∷ "0400000001" ∷ "010001000000000000000B" ∷ "05" ∷ [])
    answered_by ended
    ("81000001"
    ∷ "84000001"
    ∷ "81000002"
    ∷ "85000002"
    ∷ "9000030002"
    ∷ "9100000002000000000000000A0000000000000000000000000000000B"
    ∷ [])
    ∷ []
