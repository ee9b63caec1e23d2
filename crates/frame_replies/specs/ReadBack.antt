-- The reverse of the program: an answer line read as the reply that it writes, and a frame written as a line (document 01, "Frames";
-- document 02, F-3). Definitions only.
use Rattle.std.specs.Prelude.{Option, Some, None, ◌≡◌, ◌≢◌, List, [], ◌∷◌, ◌++◌, ℕ, zero, suc, ◌+◌, ◌-◌, ◌/◌, ◌≤◌, ◌<◌, ◌^◌, length}
use Rattle.base.specs.Cases.{if_eq}
use Rattle.base.specs.Lists.{Every}
use Rattle.frame_lines.specs.declared.Frame.{Frame}
use Rattle.frame_lines.specs.declared.Frame.TheVariants.{Insert, Delete, Read, Tape, Print, Clear, Place}
use Rattle.frame_lines.specs.Frame.{field, kind_or_none}
use Rattle.frame_replies.specs.Reply.{digits, Reply, brief, entries, placed, sheet, leaf}

-- ---- an answer line, read

-- Slots or entries of 8 bytes, from place i on.
unfoldable pub entries_from : List ℕ → ℕ → ℕ → List ℕ
entries_from line i zero = []
entries_from line i (suc count) = field line i 16 ∷ entries_from line (i + 16) count

-- The first byte, the number of the cause, N.
unfoldable pub brief_of : List ℕ → Reply
brief_of line = brief (field line 0 2) (field line 2 2) (field line 4 4)

-- N, and as many entries as the line has 8-byte fields after its first 4 bytes.
unfoldable pub entries_of : List ℕ → Reply
entries_of line = entries (field line 4 4) (entries_from line 8 ((length line - 8) / 16))

-- N, the place, the sum in 4 bytes, and the number of boats.
unfoldable pub placed_of : List ℕ → Reply
placed_of line = placed (field line 4 4) (field line 8 4) (field line 12 8) (field line 20 4)

-- M and N.
unfoldable pub sheet_of : List ℕ → Reply
sheet_of line = sheet (field line 2 4) (field line 6 4)

-- The leaf's number, its count, and as many slots as the line has 8-byte fields after its first 5 bytes.
unfoldable pub leaf_of : List ℕ → Reply
leaf_of line = leaf (field line 2 4) (field line 6 4) (entries_from line 10 ((length line - 10) / 16))

-- The answer to an accepted call: 83 hexadecimal has the entries, 87 the place, the sum and the boats, every other answer nothing more.
unfoldable pub accepted_of : ℕ → List ℕ → Reply
accepted_of first line = if_eq first 131 (entries_of line) (if_eq first 135 (placed_of line) (brief_of line))

-- By the first byte and the byte after it, which in an answer is the number of the cause, 0 where the call was accepted. The first bytes
-- 90 and 91 hexadecimal are those of a print.
unfoldable pub reply_for : ℕ → ℕ → List ℕ → Reply
reply_for first cause line =
    if_eq first 144 (sheet_of line) (if_eq first 145 (leaf_of line) (if_eq cause 0 (accepted_of first line) (brief_of line)))

-- The reply that a line, without its LF, writes.
unfoldable pub reply_of : List ℕ → Reply
reply_of line = reply_for (field line 0 2) (field line 2 2) line

-- ---- what fits a line

-- Every entry or slot fits 8 bytes.
unfoldable pub EntriesFit : List ℕ → Type 0
EntriesFit list = Every (λ (e : ℕ). e < 2 ^ 64) list

-- The three numbers of a `brief` fit their fields, and its line is not one of another form: the first byte is not one of a print, 90 or 91
-- hexadecimal, and with 83 or 87 there is a cause.
pub record BriefFits (first cause n : ℕ) : Type 0 where
  pub first_fits : first < 2 ^ 8
  pub cause_fits : cause < 2 ^ 8
  pub n_fits : n < 2 ^ 16
  pub no_sheet : first ≢ 144
  pub no_leaf : first ≢ 145
  pub refused_read : first ≡ 131 → cause ≢ 0
  pub refused_place : first ≡ 135 → cause ≢ 0

-- Each number fits its field.
unfoldable pub Writable : Reply → Type 0
Writable (brief first cause n) = BriefFits first cause n
Writable (entries n list) = (n < 2 ^ 16) × EntriesFit list
Writable (placed n place sum boats) = (n < 2 ^ 16) × (place < 2 ^ 16) × (sum < 2 ^ 32) × (boats < 2 ^ 16)
Writable (sheet m n) = (m < 2 ^ 16) × (n < 2 ^ 16)
Writable (leaf number count slots) = (number < 2 ^ 16) × (count < 2 ^ 16) × EntriesFit slots

-- ---- a frame, written

-- The words of a tape, 4 bytes each.
unfoldable pub word_digits : List ℕ → List ℕ
word_digits [] = []
word_digits (w ∷ words) = digits 8 w ++ word_digits words

-- What follows the first byte of a frame. The words are those of a tape.
unfoldable pub operands : Option Frame → List ℕ → List ℕ
operands (Some (Insert rank entry)) words = digits 4 rank ++ digits 16 entry
operands (Some (Delete rank)) words = digits 4 rank
operands (Some (Read first last)) words = digits 4 first ++ digits 4 last
operands (Some (Tape count)) words = word_digits words
operands (Some Print) words = []
operands (Some Clear) words = []
operands (Some (Place rank)) words = digits 4 rank
operands None words = []

-- The line, without LF. None gives FF, which is no frame.
unfoldable pub frame_line : Option Frame → List ℕ → List ℕ
frame_line frame words = digits 2 (kind_or_none frame) ++ operands frame words

-- Every word fits 4 bytes.
unfoldable pub WordsFit : List ℕ → Type 0
WordsFit words = Every (λ (w : ℕ). w < 2 ^ 32) words

-- Each number fits its field; a tape has 1 to 16 words, and counts them.
unfoldable pub WritableFrame : Option Frame → List ℕ → Type 0
WritableFrame (Some (Insert rank entry)) words = (rank < 2 ^ 16) × (entry < 2 ^ 64)
WritableFrame (Some (Delete rank)) words = rank < 2 ^ 16
WritableFrame (Some (Read first last)) words = (first < 2 ^ 16) × (last < 2 ^ 16)
WritableFrame (Some (Tape count)) words = (count ≡ length words) × (1 ≤ count) × (count ≤ 16) × WordsFit words
WritableFrame (Some Print) words = Unit {0}
WritableFrame (Some Clear) words = Unit {0}
WritableFrame (Some (Place rank)) words = rank < 2 ^ 16
WritableFrame None words = Unit {0}
