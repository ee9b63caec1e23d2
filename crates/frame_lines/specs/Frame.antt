-- A line of bytes read as a frame (document 01, "Frames"): upper-case hexadecimal pairs, high byte first.
-- Definitions only.
use Rattle.std.specs.Prelude.{Option, Some, None, Bool, true, false, ◌&&◌, List, ℕ, zero, suc, ◌+◌, ◌-◌, ◌*◌, ◌/◌, ◌%◌, eqb, ltb, length, get_or}
use Rattle.std.specs.List.{list_all}
use Rattle.base.specs.Cases.{if_eq, if_lt}
use Rattle.frame_lines.specs.declared.Frame.{Frame}
use Rattle.frame_lines.specs.declared.Frame.TheVariants.{Insert, Delete, Read, Tape, Print, Clear, Place}

-- The byte is one of 0 to 9 (48 to 57) or A to F (65 to 70).
unfoldable pub is_hex_digit : ℕ → Bool
is_hex_digit b = if_lt b 48 false (if_lt b 58 true (if_lt b 65 false (ltb b 71)))

-- The value of a hexadecimal digit; 0 for any other byte.
unfoldable pub hex_value : ℕ → ℕ
hex_value b = if_lt b 48 0 (if_lt b 58 (b - 48) (if_lt b 65 0 (if_lt b 71 (b - 55) 0)))

-- Every byte is a hexadecimal digit.
unfoldable pub all_hex : List ℕ → Bool
all_hex = list_all is_hex_digit

-- The line is hexadecimal pairs.
unfoldable pub is_hex_line : List ℕ → Bool
is_hex_line line = eqb (length line % 2) 0 && all_hex line

-- The number that c digits from place i on write, the highest digit first.
unfoldable pub field : List ℕ → ℕ → ℕ → ℕ
field line i zero = 0
field line i (suc c) = field line i c * 16 + hex_value (get_or line (i + c) 0)

-- The frame x where the line has n digits, no frame otherwise.
unfoldable pub of_length : List ℕ → ℕ → Frame → Option Frame
of_length line n x = if_eq (length line) n (Some x) None

-- An insert: the first byte, a rank of 2 bytes, an entry of 8.
unfoldable pub insert_of : List ℕ → Option Frame
insert_of line = of_length line 22 (Insert (field line 2 4) (field line 6 16))

-- A delete: a rank of 2 bytes.
unfoldable pub delete_of : List ℕ → Option Frame
delete_of line = of_length line 6 (Delete (field line 2 4))

-- A read: the first and the last rank, 2 bytes each.
unfoldable pub read_of : List ℕ → Option Frame
read_of line = of_length line 10 (Read (field line 2 4) (field line 6 4))

-- A place: a rank of 2 bytes.
unfoldable pub place_of : List ℕ → Option Frame
place_of line = of_length line 6 (Place (field line 2 4))

-- A tape: 1 to 16 words of 4 bytes. With 2 + 8 w digits, w is the length over 8.
unfoldable pub tape_of : List ℕ → Option Frame
tape_of line = if_eq (length line % 8) 2 (if_lt (length line / 8) 1 None (if_lt 16 (length line / 8) None (Some (Tape (length line / 8))))) None

-- The frame that a line of hexadecimal pairs is, by its first byte.
unfoldable pub form_of : ℕ → List ℕ → Option Frame
form_of first line =
    if_eq first 1 (insert_of line)
    (if_eq first 2 (delete_of line)
    (if_eq first 3 (read_of line)
    (if_eq first 4 (tape_of line)
    (if_eq first 5 (of_length line 2 Print)
    (if_eq first 6 (of_length line 2 Clear)
    (if_eq first 7 (place_of line) None))))))

-- The frame that a line is, if it is one: it has a first byte, and is hexadecimal pairs.
unfoldable pub frame_of : List ℕ → Option Frame
frame_of line = if_lt (length line) 2 None (elim (is_hex_line line) [ true ↦ form_of (field line 0 2) line | false ↦ None ])

-- The first byte of a frame.
abbrev pub kind : Frame → ℕ
kind (Insert rank entry) = 1
kind (Delete rank) = 2
kind (Read first last) = 3
kind (Tape words) = 4
kind Print = 5
kind Clear = 6
kind (Place rank) = 7

-- The first byte of a frame, or 255 where there is none.
abbrev pub kind_or_none : Option Frame → ℕ
kind_or_none (Some frame) = kind frame
kind_or_none None = 255

-- The kind of a line.
unfoldable pub kind_of : List ℕ → ℕ
kind_of line = kind_or_none (frame_of line)

-- The number of words of a tape; 0 for every other frame, and where there is none.
unfoldable pub words_of : Option Frame → ℕ
words_of (Some (Insert rank entry)) = 0
words_of (Some (Delete rank)) = 0
words_of (Some (Read first last)) = 0
words_of (Some (Tape words)) = words
words_of (Some Print) = 0
words_of (Some Clear) = 0
words_of (Some (Place rank)) = 0
words_of None = 0

-- Word k of a tape line: 8 digits after the first byte and k words.
unfoldable pub word_at : List ℕ → ℕ → ℕ
word_at line k = field line (2 + 8 * k) 8
