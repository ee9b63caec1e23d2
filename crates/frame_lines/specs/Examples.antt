-- The definition of a frame on written lines: those of document 01's example, and lines that are no frame.
use Rattle.std.specs.Prelude.{◌≡◌, refl, Some, None, List, [], ◌∷◌, ℕ, replicate}
use Rattle.base.specs.Cases.{if_eq, if_lt}
use Rattle.frame_lines.specs.declared.Frame.TheVariants.{Insert, Delete, Read, Tape, Print, Clear, Place}
use Rattle.frame_lines.specs.Frame.{is_hex_digit, hex_value, all_hex, is_hex_line, field, of_length, insert_of, delete_of, read_of, place_of, tape_of, form_of, frame_of, kind_of, word_at}

-- 010000000000000000000A
insert_ten : frame_of (48 ∷ 49 ∷ 48 ∷ 48 ∷ 48 ∷ 48 ∷ 48 ∷ 48 ∷ 48 ∷ 48 ∷ 48 ∷ 48 ∷ 48 ∷ 48 ∷ 48 ∷ 48 ∷ 48 ∷ 48 ∷ 48 ∷ 48 ∷ 48 ∷ 65 ∷ []) ≡ Some (Insert 0 10)
unfolding frame_of is_hex_line all_hex is_hex_digit hex_value field form_of insert_of delete_of of_length if_eq if_lt
insert_ten = refl

-- 0400000001: a tape of one word, the word 1
tape_line : List ℕ
tape_line = 48 ∷ 52 ∷ 48 ∷ 48 ∷ 48 ∷ 48 ∷ 48 ∷ 48 ∷ 48 ∷ 49 ∷ []

tape_one : frame_of tape_line ≡ Some (Tape 1)
unfolding tape_line frame_of is_hex_line all_hex is_hex_digit hex_value field form_of tape_of if_eq if_lt
tape_one = refl

tape_word : word_at tape_line 0 ≡ 1
unfolding tape_line word_at field is_hex_digit hex_value if_lt
tape_word = refl

-- 05
print_line : frame_of (48 ∷ 53 ∷ []) ≡ Some Print
unfolding frame_of is_hex_line all_hex is_hex_digit hex_value field form_of insert_of delete_of of_length if_eq if_lt
print_line = refl

-- the empty line
empty_line : kind_of [] ≡ 255
unfolding kind_of frame_of if_lt
empty_line = refl

-- 04, a tape of no word
tape_none : frame_of (48 ∷ 52 ∷ []) ≡ None
unfolding frame_of is_hex_line all_hex is_hex_digit hex_value field form_of tape_of if_eq if_lt
tape_none = refl

-- 02000a, in lower case, and 02000A
lower_case : frame_of (48 ∷ 50 ∷ 48 ∷ 48 ∷ 48 ∷ 97 ∷ []) ≡ None
unfolding frame_of is_hex_line all_hex is_hex_digit if_lt
lower_case = refl

delete_ten : frame_of (48 ∷ 50 ∷ 48 ∷ 48 ∷ 48 ∷ 65 ∷ []) ≡ Some (Delete 10)
unfolding frame_of is_hex_line all_hex is_hex_digit hex_value field form_of insert_of delete_of of_length if_eq if_lt
delete_ten = refl

-- 05 and CR, and 050
print_cr : frame_of (48 ∷ 53 ∷ 13 ∷ []) ≡ None
unfolding frame_of is_hex_line all_hex is_hex_digit if_lt
print_cr = refl

print_odd : frame_of (48 ∷ 53 ∷ 48 ∷ []) ≡ None
unfolding frame_of is_hex_line all_hex is_hex_digit if_lt
print_odd = refl

-- 05 and a blank, and 05 after a NUL
print_blank : frame_of (48 ∷ 53 ∷ 32 ∷ 32 ∷ []) ≡ None
unfolding frame_of is_hex_line all_hex is_hex_digit if_lt
print_blank = refl

print_nul : frame_of (0 ∷ 0 ∷ 48 ∷ 53 ∷ []) ≡ None
unfolding frame_of is_hex_line all_hex is_hex_digit if_lt
print_nul = refl

-- 06, and 08
clear_line_lem : frame_of (48 ∷ 54 ∷ []) ≡ Some Clear
unfolding frame_of is_hex_line all_hex is_hex_digit hex_value field form_of of_length if_eq if_lt
clear_line_lem = refl

eight_line : kind_of (48 ∷ 56 ∷ []) ≡ 255
unfolding kind_of frame_of is_hex_line all_hex is_hex_digit hex_value field form_of if_eq if_lt
eight_line = refl

-- 030001003F
read_line_lem : frame_of (48 ∷ 51 ∷ 48 ∷ 48 ∷ 48 ∷ 49 ∷ 48 ∷ 48 ∷ 51 ∷ 70 ∷ []) ≡ Some (Read 1 63)
unfolding frame_of is_hex_line all_hex is_hex_digit hex_value field form_of read_of of_length if_eq if_lt
read_line_lem = refl

-- 07FFFF, and 07FF
place_line_lem : frame_of (48 ∷ 55 ∷ 70 ∷ 70 ∷ 70 ∷ 70 ∷ []) ≡ Some (Place 65535)
unfolding frame_of is_hex_line all_hex is_hex_digit hex_value field form_of place_of of_length if_eq if_lt
place_line_lem = refl

place_short : kind_of (48 ∷ 55 ∷ 70 ∷ 70 ∷ []) ≡ 255
unfolding kind_of frame_of is_hex_line all_hex is_hex_digit hex_value field form_of place_of of_length if_eq if_lt
place_short = refl

-- tapes of 16 words and of 17
tape_sixteen : frame_of (48 ∷ 52 ∷ replicate 128 48) ≡ Some (Tape 16)
unfolding frame_of is_hex_line all_hex is_hex_digit hex_value field form_of tape_of if_eq if_lt
tape_sixteen = refl

tape_seventeen : frame_of (48 ∷ 52 ∷ replicate 136 48) ≡ None
unfolding frame_of is_hex_line all_hex is_hex_digit hex_value field form_of tape_of if_eq if_lt
tape_seventeen = refl
