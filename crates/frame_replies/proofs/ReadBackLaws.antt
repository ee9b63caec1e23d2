-- Decoding what encoding writes gives it back, for every answer line and every frame whose numbers fit their fields.
use Rattle.std.specs.Prelude.{Option, Some, None, ◌≡◌, refl, true, ℕ, zero, suc, ◌+◌, ◌-◌, ◌*◌, ◌/◌, ◌%◌, ◌≤◌, ◌<◌, ◌^◌, length, get_or}
use Rattle.std.proofs.Common.{ap, ap₂, subst, ◌∙◌, arith}
use mathlib.Core.List.{List, [], ◌∷◌, ◌++◌, append_assoc, append-nil}
use Rattle.std.proofs.Math.ListN.{length-append}
use Rattle.base.specs.Cases.{if_eq}
use Rattle.base.specs.CaseLaws.{if_eq_yes, if_eq_no, if_lt_no, by_eq}
use Rattle.base.specs.Lists.{Every}
use Rattle.frame_lines.specs.declared.Frame.{Frame}
use Rattle.frame_lines.specs.declared.Frame.TheVariants.{Insert, Delete, Read, Tape, Print, Clear, Place}
use Rattle.frame_lines.specs.Frame.{all_hex, field, insert_of, delete_of, read_of, tape_of, place_of, of_length, form_of, frame_of, word_at}
use Rattle.frame_lines.specs.FrameLaws.{line_even, length_is, frame_hex}
use Rattle.frame_replies.specs.Reply.{digits, entry_digits, Reply, brief, entries, placed, sheet, leaf, header, encode}
use Rattle.frame_replies.specs.ReadBack.{entries_from, brief_of, entries_of, placed_of, sheet_of, leaf_of, accepted_of, reply_for, reply_of, EntriesFit, BriefFits, Writable, word_digits, operands, frame_line, WordsFit, WritableFrame}
use Rattle.frame_replies.specs.DigitLaws.{length_digits, length_entries, length_header}
use Rattle.frame_replies.proofs.FieldLaws.{hex_append, hex_digits, field_digits, field_behind, field_first, field_last}

-- ---- what a line begins with

-- A first byte, and two numbers of p and q digits.
unfoldable front : ℕ → ℕ → ℕ → ℕ → ℕ → List ℕ
front first p a q b = digits 2 first ++ (digits p a ++ digits q b)

module _ (first p a q b : ℕ) where
  module _ (rest : List ℕ) where
    parted : front first p a q b ++ rest ≡ digits 2 first ++ (digits p a ++ (digits q b ++ rest))
    unfolding front
    parted = simp append_assoc

    first_back : first < 2 ^ 8 → field (front first p a q b ++ rest) 0 2 ≡ first
    first_back fits = rw parted (field_first (digits p a ++ (digits q b ++ rest)) 2 first fits)

    second_back : a < 16 ^ p → field (front first p a q b ++ rest) 2 p ≡ a
    second_back fits = rw parted (field_digits (digits 2 first) (digits q b ++ rest) 2 p a (length_digits 2 first) fits)

    third_back : b < 16 ^ q → field (front first p a q b ++ rest) (2 + p) q ≡ b
    third_back fits =
        rw parted
        (field_behind (digits 2 first) (digits p a ++ (digits q b ++ rest)) 2 p q (length_digits 2 first)
        ∙ field_digits (digits p a) rest p q b (length_digits p a) fits)

  -- The line has nothing more.
  whole : front first p a q b ++ [] ≡ front first p a q b
  whole = append-nil (front first p a q b)

  first_alone : first < 2 ^ 8 → field (front first p a q b) 0 2 ≡ first
  first_alone fits = rw whole at (first_back [] fits)

  second_alone : a < 16 ^ p → field (front first p a q b) 2 p ≡ a
  second_alone fits = rw whole at (second_back [] fits)

  third_alone : b < 16 ^ q → field (front first p a q b) (2 + p) q ≡ b
  third_alone fits = rw whole at (third_back [] fits)

-- ---- the entries after them

entries_back : (list xs : List ℕ) (n : ℕ) → length xs ≡ n → EntriesFit list → entries_from (xs ++ entry_digits list) n (length list) ≡ list
unfolding entries_from entry_digits EntriesFit Every
entries_back [] xs n at fits = refl
entries_back (e ∷ list) xs n at fits =
    let next : length (xs ++ digits 16 e) ≡ n + 16 = length-append xs (digits 16 e) ∙ rw (at, length_digits 16 e) in
    ap₂ (λ (y : ℕ) (ys : List ℕ). y ∷ ys)
    (field_digits xs (entry_digits list) n 16 e at fits.0)
    (subst
    (λ (w : List ℕ). entries_from w (n + 16) (length list) ≡ list)
    (append_assoc xs (digits 16 e) (entry_digits list))
    (entries_back list (xs ++ digits 16 e) (n + 16) next fits.1))

-- As many as there are.
all_back : (list xs : List ℕ) (n : ℕ) → length xs ≡ n → EntriesFit list
    → entries_from (xs ++ entry_digits list) n ((length (xs ++ entry_digits list) - n) / 16) ≡ list
all_back list xs n at fits =
    let count : (length (xs ++ entry_digits list) - n) / 16 ≡ length list =
    rw (length-append xs (entry_digits list), length_entries list, at) (omega arith) in
    rw count (entries_back list xs n at fits)

-- ---- an answer line

module _ (first cause n : ℕ) where
  brief_form : BriefFits first cause n → (line : List ℕ) → reply_for first cause line ≡ brief_of line
  unfolding reply_for accepted_of
  brief_form w line =
      if_eq_no first 144 _ _ w.no_sheet
      ∙ if_eq_no first 145 _ _ w.no_leaf
      ∙ by_eq (λ (x : Reply). x ≡ brief_of line) cause 0 _ _
      (λ (e : cause ≡ 0).
      if_eq_no first 131 _ _ (λ h. w.refused_read h e) ∙ if_eq_no first 135 _ _ (λ h. w.refused_place h e))
      (λ _. refl)

  brief_back : BriefFits first cause n → reply_of (header 2 first cause n) ≡ brief first cause n
  unfolding reply_of brief_of header front
  brief_back w =
      let line = header 2 first cause n in
      let f : field line 0 2 ≡ first = first_alone first 2 cause 4 n w.first_fits in
      let c : field line 2 2 ≡ cause = second_alone first 2 cause 4 n w.cause_fits in
      let k : field line 4 4 ≡ n = third_alone first 2 cause 4 n w.n_fits in
      rw (f, c) (brief_form w line ∙ rw (f, c, k))

entries_line : (n : ℕ) (list : List ℕ) → n < 2 ^ 16 → EntriesFit list → reply_of (header 2 131 0 n ++ entry_digits list) ≡ entries n list
unfolding reply_of reply_for accepted_of entries_of header front if_eq
entries_line n list fits all =
    let rest = entry_digits list in
    ap₂ (λ (f c : ℕ). reply_for f c (header 2 131 0 n ++ rest)) (first_back 131 2 0 4 n rest (omega arith)) (second_back 131 2 0 4 n rest (omega arith))
    ∙ ap₂ entries (third_back 131 2 0 4 n rest fits) (all_back list (header 2 131 0 n) 8 (length_header 2 131 0 n) all)

placed_line : (n place sum boats : ℕ) → n < 2 ^ 16 → place < 2 ^ 16 → sum < 2 ^ 32 → boats < 2 ^ 16
    → reply_of (header 2 135 0 n ++ (digits 4 place ++ (digits 8 sum ++ digits 4 boats))) ≡ placed n place sum boats
unfolding reply_of reply_for accepted_of placed_of header front if_eq
placed_line n place sum boats fits place_fits sum_fits boats-fits =
    let last = digits 8 sum ++ digits 4 boats in
    let rest = digits 4 place ++ last in
    let line = header 2 135 0 n ++ rest in
    let behind : (i c : ℕ) → field line (8 + i) c ≡ field rest i c =
    λ i c. field_behind (header 2 135 0 n) rest 8 i c (length_header 2 135 0 n) in
    let n-back : field line 4 4 ≡ n = third_back 135 2 0 4 n rest fits in
    let place_back : field line 8 4 ≡ place = behind 0 4 ∙ field_first last 4 place place_fits in
    let sum_back : field line 12 8 ≡ sum = behind 4 8 ∙ field_digits (digits 4 place) (digits 4 boats) 4 8 sum (length_digits 4 place) sum_fits in
    let boats-back : field line 20 4 ≡ boats =
    behind 12 4
    ∙ field_behind (digits 4 place) last 4 8 4 (length_digits 4 place)
    ∙ field_last (digits 8 sum) 8 4 boats (length_digits 8 sum) boats-fits in
    ap₂ (λ (f c : ℕ). reply_for f c line) (first_back 135 2 0 4 n rest (omega arith)) (second_back 135 2 0 4 n rest (omega arith))
    ∙ rw (n-back, place_back, sum_back, boats-back)

sheet_line : (m n : ℕ) → m < 2 ^ 16 → n < 2 ^ 16 → reply_of (header 4 144 m n) ≡ sheet m n
unfolding reply_of reply_for sheet_of header front if_eq
sheet_line m n m-fits n_fits =
    let line = header 4 144 m n in
    ap (λ (f : ℕ). reply_for f (field line 2 2) line) (first_alone 144 4 m 4 n (omega arith))
    ∙ ap₂ sheet (second_alone 144 4 m 4 n m-fits) (third_alone 144 4 m 4 n n_fits)

leaf_line : (number count : ℕ) (slots : List ℕ) → number < 2 ^ 16 → count < 2 ^ 16 → EntriesFit slots
    → reply_of (header 4 145 number count ++ entry_digits slots) ≡ leaf number count slots
unfolding reply_of reply_for leaf_of header front if_eq
leaf_line number count slots number_fits count_fits all =
    let rest = entry_digits slots in
    let line = header 4 145 number count ++ rest in
    let number-back : field line 2 4 ≡ number = second_back 145 4 number 4 count rest number_fits in
    let count-back : field line 6 4 ≡ count = third_back 145 4 number 4 count rest count_fits in
    ap (λ (f : ℕ). reply_for f (field line 2 2) line) (first_back 145 4 number 4 count rest (omega arith))
    ∙ rw (number-back, count-back, all_back slots (header 4 145 number count) 10 (length_header 4 145 number count) all)

-- Reading an answer line gives the answer that was written.
pub reply_back : (reply : Reply) → Writable reply → reply_of (encode reply) ≡ reply
unfolding encode Writable
reply_back (brief first cause n) w = brief_back first cause n w
reply_back (entries n list) w = entries_line n list w.0 w.1
reply_back (placed n place sum boats) w = placed_line n place sum boats w.0 w.1 w.2 w.3
reply_back (sheet m n) w = sheet_line m n w.0 w.1
reply_back (leaf number count slots) w = leaf_line number count slots w.0 w.1 w.2

-- ---- a frame

-- A line of a first byte and hexadecimal pairs is read by that byte.
module _ (first : ℕ) (rest : List ℕ) (fits : first < 2 ^ 8) (pairs : length rest % 2 ≡ 0) (hex : all_hex rest ≡ true) where
  form_back : frame_of (digits 2 first ++ rest) ≡ form_of first (digits 2 first ++ rest)
  form_back =
      let line = digits 2 first ++ rest in
      let long : length line ≡ 2 + length rest = length-append (digits 2 first) rest ∙ rw (length_digits 2 first) in
      frame_hex line (omega (arith, long))
      (line_even line (omega (arith, long, pairs)) ∙ hex_append (digits 2 first) rest (hex_digits 2 first) hex)
      ∙ ap (λ (f : ℕ). form_of f line) (field_first rest 2 first fits)

-- A frame of two numbers.
module _ (first p a q b : ℕ) where
  length_rest : length (digits p a ++ digits q b) ≡ p + q
  length_rest = rw (length-append (digits p a) (digits q b), length_digits p a, length_digits q b)

  length_two : length (front first p a q b) ≡ 2 + (p + q)
  unfolding front
  length_two = length-append (digits 2 first) (digits p a ++ digits q b) ∙ rw (length_digits 2 first, length_rest)

  two_form : first < 2 ^ 8 → (p + q) % 2 ≡ 0 → frame_of (front first p a q b) ≡ form_of first (front first p a q b)
  unfolding front
  two_form fits even =
      form_back first (digits p a ++ digits q b) fits (rw length_rest even)
      (hex_append (digits p a) (digits q b) (hex_digits p a) (hex_digits q b))

insert_back : (rank entry : ℕ) → rank < 2 ^ 16 → entry < 2 ^ 64 → frame_of (front 1 4 rank 16 entry) ≡ Some (Insert rank entry)
unfolding form_of insert_of if_eq
insert_back rank entry rank-fits entry-fits =
    let line = front 1 4 rank 16 entry in
    two_form 1 4 rank 16 entry (omega arith) refl
    ∙ length_is line 22 (Insert (field line 2 4) (field line 6 16)) (length_two 1 4 rank 16 entry)
    ∙ ap₂ (λ (r e : ℕ). Some (Insert r e)) (second_alone 1 4 rank 16 entry rank-fits) (third_alone 1 4 rank 16 entry entry-fits)

read_back : (first last : ℕ) → first < 2 ^ 16 → last < 2 ^ 16 → frame_of (front 3 4 first 4 last) ≡ Some (Read first last)
unfolding form_of read_of if_eq
read_back first last first_fits last_Fits =
    let line = front 3 4 first 4 last in
    two_form 3 4 first 4 last (omega arith) refl
    ∙ length_is line 10 (Read (field line 2 4) (field line 6 4)) (length_two 3 4 first 4 last)
    ∙ ap₂ (λ (f l : ℕ). Some (Read f l)) (second_alone 3 4 first 4 last first_fits) (third_alone 3 4 first 4 last last_Fits)

-- One rank, as a delete and a place have it.
module _ (first rank : ℕ) (fits : first < 2 ^ 8) where
  one_form : frame_of (digits 2 first ++ digits 4 rank) ≡ form_of first (digits 2 first ++ digits 4 rank)
  one_form = form_back first (digits 4 rank) fits (rw (length_digits 4 rank)) (hex_digits 4 rank)

  rank_back : rank < 2 ^ 16 → (frame : ℕ → Frame)
      → of_length (digits 2 first ++ digits 4 rank) 6 (frame (field (digits 2 first ++ digits 4 rank) 2 4)) ≡ Some (frame rank)
  rank_back rank-fits frame =
      let line = digits 2 first ++ digits 4 rank in
      let long : length line ≡ 6 = length-append (digits 2 first) (digits 4 rank) ∙ rw (length_digits 2 first, length_digits 4 rank) in
      length_is line 6 (frame (field line 2 4)) long ∙ ap (λ (r : ℕ). Some (frame r)) (field_last (digits 2 first) 2 4 rank (length_digits 2 first) rank-fits)

delete_back : (rank : ℕ) → rank < 2 ^ 16 → frame_of (digits 2 2 ++ digits 4 rank) ≡ Some (Delete rank)
unfolding form_of delete_of if_eq
delete_back rank fits = one_form 2 rank (omega arith) ∙ rank_back 2 rank (omega arith) fits Delete

place_back : (rank : ℕ) → rank < 2 ^ 16 → frame_of (digits 2 7 ++ digits 4 rank) ≡ Some (Place rank)
unfolding form_of place_of if_eq
place_back rank fits = one_form 7 rank (omega arith) ∙ rank_back 7 rank (omega arith) fits Place

-- A first byte alone.
print_back : frame_of (digits 2 5 ++ []) ≡ Some Print
unfolding form_of if_eq all_hex digits
print_back = form_back 5 [] (omega arith) refl refl ∙ length_is (digits 2 5 ++ []) 2 Print refl

clear_back : frame_of (digits 2 6 ++ []) ≡ Some Clear
unfolding form_of if_eq all_hex digits
clear_back = form_back 6 [] (omega arith) refl refl ∙ length_is (digits 2 6 ++ []) 2 Clear refl

none_back : frame_of (digits 2 255 ++ []) ≡ None
unfolding form_of if_eq all_hex
none_back = form_back 255 [] (omega arith) refl refl

-- ---- the words of a tape

length_words : (words : List ℕ) → length (word_digits words) ≡ 8 * length words
unfolding word_digits
length_words [] = refl
length_words (w ∷ words) = length-append (digits 8 w) (word_digits words) ∙ omega (arith, length_digits 8 w, length_words words)

hex_words : (words : List ℕ) → all_hex (word_digits words) ≡ true
unfolding word_digits all_hex
hex_words [] = refl
hex_words (w ∷ words) = hex_append (digits 8 w) (word_digits words) (hex_digits 8 w) (hex_words words)

word_behind : (words xs : List ℕ) (n k : ℕ) → length xs ≡ n → WordsFit words → k < length words
    → field (xs ++ word_digits words) (n + 8 * k) 8 ≡ get_or words k 0
unfolding word_digits WordsFit Every
word_behind [] xs n k at fits l = absurd (omega arith)
word_behind (w ∷ words) xs n zero at fits l = field_digits xs (word_digits words) (n + 8 * 0) 8 w (omega (arith, at)) fits.0
word_behind (w ∷ words) xs n (suc k) at fits l =
    let next : length (xs ++ digits 8 w) ≡ n + 8 = length-append xs (digits 8 w) ∙ rw (at, length_digits 8 w) in
    let place : n + 8 * suc k ≡ n + 8 + 8 * k = omega arith in
    rw (← append_assoc xs (digits 8 w) (word_digits words), place) (word_behind words (xs ++ digits 8 w) (n + 8) k next fits.1 (omega arith))

tape_back : (count : ℕ) (words : List ℕ) → count ≡ length words → 1 ≤ count → count ≤ 16 → frame_of (digits 2 4 ++ word_digits words) ≡ Some (Tape count)
unfolding form_of tape_of if_eq
tape_back count words e some most =
    let line = digits 2 4 ++ word_digits words in
    let long : length line ≡ 2 + 8 * count =
    length-append (digits 2 4) (word_digits words) ∙ rw (length_digits 2 4, length_words words, e) in
    form_back 4 (word_digits words) (omega arith) (omega (arith, length_words words)) (hex_words words)
    ∙ if_eq_yes (length line % 8) 2 _ _ (omega (arith, long))
    ∙ if_lt_no (length line / 8) 1 _ _ (omega (arith, long, some))
    ∙ if_lt_no 16 (length line / 8) _ _ (omega (arith, long, most))
    ∙ ap (λ (w : ℕ). Some (Tape w)) (omega (arith, long))

-- ---- every frame

-- Reading the line of a frame gives the frame that was written.
pub frame_back : (frame : Option Frame) (words : List ℕ) → WritableFrame frame words → frame_of (frame_line frame words) ≡ frame
unfolding frame_line operands WritableFrame front
frame_back (Some (Insert rank entry)) words w = insert_back rank entry w.0 w.1
frame_back (Some (Delete rank)) words w = delete_back rank w
frame_back (Some (Read first last)) words w = read_back first last w.0 w.1
frame_back (Some (Tape count)) words w = tape_back count words w.0 w.1 w.2
frame_back (Some Print) words w = print_back
frame_back (Some Clear) words w = clear_back
frame_back (Some (Place rank)) words w = place_back rank w
frame_back None words w = none_back

-- Each word of a tape is read as the word that was written.
pub word_back : (count : ℕ) (words : List ℕ) → WritableFrame (Some (Tape count)) words → (k : ℕ) → k < count
    → word_at (frame_line (Some (Tape count)) words) k ≡ get_or words k 0
unfolding frame_line operands WritableFrame word_at
word_back count words w k l = word_behind words (digits 2 4) 2 k (length_digits 2 4) w.3 (omega (arith, w.0))
