-- The definitions on written inputs: A is 65, B 66, C 67.
use Rattle.std.specs.Prelude.{◌≡◌, refl, true, false, [], ◌∷◌}
use Rattle.base.specs.Cases.{if_eq, if_lt}
use Rattle.frame_input.specs.Lines.{in_front, lines_of, up_to_lf, has_lf, length_with_lf, left, behind, collecting_of, collecting}
use Rattle.frame_input.specs.Chunks.{with, through, gone_from, lines_over}

-- ---- lines

no_line_lem : lines_of [] ≡ []
unfolding lines_of
no_line_lem = refl

-- an LF alone ends an empty line
empty_line : lines_of (10 ∷ []) ≡ [] ∷ []
unfolding lines_of if_eq
empty_line = refl

-- A LF LF B: an empty line in the middle, and a last one without LF
three_lines : lines_of (65 ∷ 10 ∷ 10 ∷ 66 ∷ []) ≡ (65 ∷ []) ∷ [] ∷ (66 ∷ []) ∷ []
unfolding lines_of in_front if_eq
three_lines = refl

-- A LF, and nothing behind it
one_line : lines_of (65 ∷ 10 ∷ []) ≡ (65 ∷ []) ∷ []
unfolding lines_of in_front if_eq
one_line = refl

-- ---- one line out of a chunk

-- A B LF C, into a buffer of three bytes
line_ends : collecting (65 ∷ 66 ∷ 10 ∷ 67 ∷ []) 0 (1 ∷ 2 ∷ 3 ∷ []) 0
    ≡ left (record { next = 3; have = 2; ended = true }) (65 ∷ 66 ∷ 3 ∷ [])
unfolding collecting collecting_of length_with_lf up_to_lf has_lf behind if_eq
line_ends = refl

-- C, behind the A that the buffer holds; the chunk ends
line_open : collecting (65 ∷ 66 ∷ 10 ∷ 67 ∷ []) 3 (65 ∷ 2 ∷ []) 1 ≡ left (record { next = 4; have = 2; ended = false }) (65 ∷ 67 ∷ [])
unfolding collecting collecting_of length_with_lf up_to_lf has_lf behind if_eq
line_open = refl

-- A B LF, into a buffer of one byte: the B is dropped
line_cut : collecting (65 ∷ 66 ∷ 10 ∷ []) 0 (1 ∷ []) 0 ≡ left (record { next = 3; have = 1; ended = true }) (65 ∷ [])
unfolding collecting collecting_of length_with_lf up_to_lf has_lf behind if_eq
line_cut = refl

-- a place past the chunk, and a number past the buffer: nothing changes
place_past : collecting (65 ∷ []) 7 (1 ∷ 2 ∷ []) 1 ≡ left (record { next = 7; have = 1; ended = false }) (1 ∷ 2 ∷ [])
unfolding collecting collecting_of length_with_lf up_to_lf has_lf behind if_eq
place_past = refl

number_past : collecting (65 ∷ 10 ∷ []) 0 (1 ∷ 2 ∷ []) 5 ≡ left (record { next = 2; have = 5; ended = true }) (1 ∷ 2 ∷ [])
unfolding collecting collecting_of length_with_lf up_to_lf has_lf behind if_eq
number_past = refl

-- ---- chunks

-- A, B LF LF, nothing, C A B: the first line in two chunks, the last one cut
chunks_lines : lines_over ((65 ∷ []) ∷ (66 ∷ 10 ∷ 10 ∷ []) ∷ [] ∷ (67 ∷ 65 ∷ 66 ∷ []) ∷ []) (1 ∷ 2 ∷ []) 0
    ≡ (65 ∷ 66 ∷ []) ∷ [] ∷ (67 ∷ 65 ∷ []) ∷ []
unfolding lines_over gone_from through with collecting collecting_of left length_with_lf up_to_lf has_lf behind if_eq if_lt
chunks_lines = refl
