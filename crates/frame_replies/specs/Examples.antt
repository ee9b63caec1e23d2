-- Answer lines and frames as bytes: those of document 01's example, a refusal, an accepted read and accepted places.
use Rattle.std.specs.Prelude.{Some, ◌≡◌, refl, List, [], ◌∷◌, ◌++◌, ℕ, replicate}
use Rattle.base.specs.Cases.{if_eq, if_lt}
use Rattle.frame_lines.specs.declared.Frame.TheVariants.{Insert, Tape}
use Rattle.frame_lines.specs.Frame.{hex_value, field}
use Rattle.frame_replies.specs.Reply.{hex_digit, digits, entry_digits, header, brief, entries, placed, sheet, leaf, encode, line_of}
use Rattle.frame_replies.specs.ReadBack.{entries_from, placed_of, leaf_of, accepted_of, reply_for, reply_of, word_digits, operands, frame_line}

-- 81000001
inserted : encode (brief 129 0 1) ≡ 56 ∷ 49 ∷ 48 ∷ 48 ∷ 48 ∷ 48 ∷ 48 ∷ 49 ∷ []
unfolding encode header digits hex_digit if_lt
inserted = refl

-- 85000002, with its LF
printed : line_of (brief 133 0 2) ≡ 56 ∷ 53 ∷ 48 ∷ 48 ∷ 48 ∷ 48 ∷ 48 ∷ 50 ∷ 10 ∷ []
unfolding line_of encode header digits hex_digit if_lt
printed = refl

-- 9000030002
size_line : encode (sheet 3 2) ≡ 57 ∷ 48 ∷ 48 ∷ 48 ∷ 48 ∷ 51 ∷ 48 ∷ 48 ∷ 48 ∷ 50 ∷ []
unfolding encode header digits hex_digit if_lt
size_line = refl

-- 9100000002000000000000000A0000000000000000000000000000000B
leaf_bytes : List ℕ
leaf_bytes = (57 ∷ 49 ∷ replicate 7 48) ++ ((50 ∷ replicate 15 48) ++ ((65 ∷ replicate 31 48) ++ (66 ∷ [])))

leaf_line : encode (leaf 0 2 (10 ∷ 0 ∷ 11 ∷ [])) ≡ leaf_bytes
unfolding leaf_bytes encode header entry_digits digits hex_digit if_lt
leaf_line = refl

leaf_read : reply_of leaf_bytes ≡ leaf 0 2 (10 ∷ 0 ∷ 11 ∷ [])
unfolding leaf_bytes reply_of reply_for leaf_of entries_from field hex_value if_eq if_lt
leaf_read = refl

-- FF080002: a line that is no frame
no_frame : encode (brief 255 8 2) ≡ 70 ∷ 70 ∷ 48 ∷ 56 ∷ 48 ∷ 48 ∷ 48 ∷ 50 ∷ []
unfolding encode header digits hex_digit if_lt
no_frame = refl

-- 83000002000000000000000B
one_entry : encode (entries 2 (11 ∷ [])) ≡ (56 ∷ 51 ∷ replicate 5 48) ++ ((50 ∷ replicate 15 48) ++ (66 ∷ []))
unfolding encode header entry_digits digits hex_digit if_lt
one_entry = refl

-- 870000020002000000020001: place 2, alone
place_two : encode (placed 2 2 2 1) ≡ (56 ∷ 55 ∷ replicate 5 48) ++ ((50 ∷ 48 ∷ 48 ∷ 48 ∷ 50 ∷ replicate 7 48) ++ (50 ∷ 48 ∷ 48 ∷ 48 ∷ 49 ∷ []))
unfolding encode header digits hex_digit if_lt
place_two = refl

-- 870004000001000802000400: all 1,024 boats crossed together, and share the places 1 to 1,024
dead_heat_bytes : List ℕ
dead_heat_bytes = (56 ∷ 55 ∷ 48 ∷ 48 ∷ 48 ∷ 52 ∷ replicate 5 48) ++ ((49 ∷ 48 ∷ 48 ∷ 48 ∷ 56 ∷ 48 ∷ 50 ∷ replicate 3 48) ++ (52 ∷ 48 ∷ 48 ∷ []))

dead_heat : encode (placed 1024 1 524800 1024) ≡ dead_heat_bytes
unfolding dead_heat_bytes encode header digits hex_digit if_lt
dead_heat = refl

dead_heat_read : reply_of dead_heat_bytes ≡ placed 1024 1 524800 1024
unfolding dead_heat_bytes reply_of reply_for accepted_of placed_of field hex_value if_eq if_lt
dead_heat_read = refl

-- 010001000000000000000B
insert_line : frame_line (Some (Insert 1 11)) [] ≡ (48 ∷ 49 ∷ 48 ∷ 48 ∷ 48 ∷ 49 ∷ replicate 15 48) ++ (66 ∷ [])
unfolding frame_line operands digits hex_digit if_lt
insert_line = refl

-- 0400000001
tape_line : frame_line (Some (Tape 1)) (1 ∷ []) ≡ 48 ∷ 52 ∷ 48 ∷ 48 ∷ 48 ∷ 48 ∷ 48 ∷ 48 ∷ 48 ∷ 49 ∷ []
unfolding frame_line operands word_digits digits hex_digit if_lt
tape_line = refl
