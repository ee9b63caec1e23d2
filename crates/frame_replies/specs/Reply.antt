-- The lines that the program answers (document 01, "Frames"; document 02, F-3), as upper-case hexadecimal pairs, high byte first.
-- Definitions only.
use Rattle.std.specs.Prelude.{List, [], ◌∷◌, ◌++◌, ℕ, zero, suc, ◌+◌, ◌/◌, ◌%◌}
use Rattle.base.specs.Cases.{if_lt}

-- The byte that writes a digit below 16: 0 to 9 are 48 to 57, A to F are 65 to 70.
unfoldable pub hex_digit : ℕ → ℕ
hex_digit v = if_lt v 10 (48 + v) (55 + v)

-- The last c hexadecimal digits of a number, the highest first.
unfoldable pub digits : ℕ → ℕ → List ℕ
digits zero v = []
digits (suc c) v = digits c (v / 16) ++ (hex_digit (v % 16) ∷ [])

-- The slots or entries, 8 bytes each.
unfoldable pub entry_digits : List ℕ → List ℕ
entry_digits [] = []
entry_digits (e ∷ entries) = digits 16 e ++ entry_digits entries

-- A line of the program. `brief` is an answer of its first byte, the number of the cause, or 0, and N. An accepted read has the entries
-- after that, an accepted place the place, the sum of the places that the boats of its tied group share, and the number of these boats.
-- `sheet` and `leaf` are the lines 90 and 91 of a print.
pub data Reply : Type 0 where
  brief : (kind number n : ℕ) → Reply
  entries : (n : ℕ) → List ℕ → Reply
  placed : (n place sum boats : ℕ) → Reply
  sheet : (m n : ℕ) → Reply
  leaf : (number count : ℕ) → List ℕ → Reply

-- What a line begins with: the first byte, a number of w digits and one of 2 bytes. In an answer these are the number of the cause, in one
-- byte, and N; in a line of a print both numbers have 2 bytes.
unfoldable pub header : ℕ → ℕ → ℕ → ℕ → List ℕ
header w kind a b = digits 2 kind ++ (digits w a ++ digits 4 b)

-- The digits of a line, without its LF: 131 is 83 and 135 is 87 in hexadecimal, 144 is 90, 145 is 91.
unfoldable pub encode : Reply → List ℕ
encode (brief kind number n) = header 2 kind number n
encode (entries n list) = header 2 131 0 n ++ entry_digits list
encode (placed n place sum boats) = header 2 135 0 n ++ (digits 4 place ++ (digits 8 sum ++ digits 4 boats))
encode (sheet m n) = header 4 144 m n
encode (leaf number count slots) = header 4 145 number count ++ entry_digits slots

-- The line, ended by LF.
unfoldable pub line_of : Reply → List ℕ
line_of reply = encode reply ++ (10 ∷ [])

-- The bytes of several lines.
unfoldable pub bytes_of : List Reply → List ℕ
bytes_of [] = []
bytes_of (reply ∷ replies) = line_of reply ++ bytes_of replies
