-- Laws of frames: that c digits write a number below 16 ^ c, which test decides a frame, a proof by
-- the cases of a frame, and that the words of a tape lie within its line.
use Rattle.std.specs.Prelude.{◌≡◌, refl, Option, Some, None, Bool, ◌≢◌, List, ℕ, zero, suc, ◌+◌, ◌*◌, ◌/◌, ◌%◌, ◌<◌, ◌≤◌, ◌^◌, length, get_or}
use Rattle.std.proofs.Common.{ap, sym, ◌∙◌, arith, pow-suc, eq-eqb}
use Rattle.std.proofs.Math.Bool.{true, false}
use Rattle.std.proofs.Math.Numerals.{add-one}
use Rattle.std.proofs.Math.Nat.{pow-zero, pow-le-pow_right}
use Rattle.base.specs.CaseLaws.{if_eq_yes, if_eq_no, if_lt_yes, if_lt_no, by_eq, by_lt}
use Rattle.frame_lines.specs.Frame.{hex_value, all_hex, is_hex_line, field, of_length, insert_of, delete_of, read_of, tape_of, place_of, form_of, frame_of, words_of}
use Rattle.frame_lines.specs.declared.Frame.{Frame}

-- ---- digits

pub hex_value_lt : (b : ℕ) → hex_value b < 16
unfolding hex_value
hex_value_lt b =
    by_lt (λ v. v < 16) b 48 _ _ (λ _. omega arith)
    (λ _. by_lt (λ v. v < 16) b 58 _ _ (λ (h : b < 58). omega arith)
    (λ _. by_lt (λ v. v < 16) b 65 _ _ (λ _. omega arith)
    (λ _. by_lt (λ v. v < 16) b 71 _ _ (λ (h : b < 71). omega arith) (λ _. omega arith))))

pub field_lt : (line : List ℕ) (i c : ℕ) → field line i c < 16 ^ c
unfolding field
field_lt line i zero = rw (pow-zero 16) (omega arith)
field_lt line i (suc c) =
    rw (pow-suc 16 c) (omega (arith, field_lt line i c, hex_value_lt (get_or line (i + c) 0)))

pub field_zero : (line : List ℕ) (i : ℕ) → field line i 0 ≡ 0
unfolding field
field_zero line i = refl

pub field_suc : (line : List ℕ) (i c : ℕ) → field line i (c + 1) ≡ field line i c * 16 + hex_value (get_or line (i + c) 0)
unfolding field
field_suc line i c = rw (add-one c)

-- c < 16 digits and one more fit 64 bits
pub field_next : (line : List ℕ) (i c v : ℕ) → c < 16 → v < 16 → field line i c * 16 + v < 2 ^ 64
field_next line i c v l h =
    let b : 0 < 16 = omega arith in
    let m : c ≤ 15 = omega arith in
    let p : 16 ^ c ≤ 16 ^ 15 = pow-le-pow_right b m in
    omega (arith, field_lt line i c, p)

-- ---- hexadecimal pairs

pub line_even : (line : List ℕ) → length line % 2 ≡ 0 → is_hex_line line ≡ all_hex line
unfolding is_hex_line
line_even line e = rw (eq-eqb (length line % 2) 0 e)

-- ---- lengths

module _ (line : List ℕ) (n : ℕ) (x : Frame) where
  pub length_is : length line ≡ n → of_length line n x ≡ Some x
  unfolding of_length
  length_is e = if_eq_yes (length line) n (Some x) None e

  pub length_other : length line ≢ n → of_length line n x ≡ None
  unfolding of_length
  length_other ne = if_eq_no (length line) n (Some x) None ne

-- ---- the first byte

pub at_first : (line : List ℕ) (first k : ℕ) → first ≡ k → form_of k line ≡ form_of first line
at_first line first k e = ap (λ (n : ℕ). form_of n line) (sym e)

pub first_other : (line : List ℕ) (k : ℕ) → k ≢ 1 → k ≢ 2 → k ≢ 3 → k ≢ 4 → k ≢ 5 → k ≢ 6 → k ≢ 7 → form_of k line ≡ None
unfolding form_of
first_other line k n1 n2 n3 n4 n5 n6 n7 =
    if_eq_no k 1 _ _ n1
    ∙ if_eq_no k 2 _ _ n2
    ∙ if_eq_no k 3 _ _ n3
    ∙ if_eq_no k 4 _ _ n4
    ∙ if_eq_no k 5 _ _ n5
    ∙ if_eq_no k 6 _ _ n6
    ∙ if_eq_no k 7 _ _ n7

-- ---- the frame

pub frame_short : (line : List ℕ) → length line < 2 → frame_of line ≡ None
unfolding frame_of
frame_short line l = if_lt_yes (length line) 2 _ _ l

pub frame_other : (line : List ℕ) → 2 ≤ length line → is_hex_line line ≡ false → frame_of line ≡ None
unfolding frame_of
frame_other line l h = if_lt_no (length line) 2 _ _ l ∙ rw h

pub frame_hex : (line : List ℕ) → 2 ≤ length line → is_hex_line line ≡ true → frame_of line ≡ form_of (field line 0 2) line
unfolding frame_of
frame_hex line l h = if_lt_no (length line) 2 _ _ l ∙ rw h

-- What holds of a line's frame, whatever its first byte: it holds of each form that has a length of its own and no words, of a tape, and
-- of no frame.
module _ (P : Option Frame → Type 0) (line : List ℕ) (sized : (n : ℕ) (x : Frame) → n ≤ 22 → words_of (Some x) ≡ 0 → P (of_length line n x))
    (tape : P (tape_of line)) (none : P None) where
  by_form : (first : ℕ) → P (form_of first line)
  unfolding form_of insert_of delete_of read_of place_of words_of
  by_form first =
      by_eq P first 1 _ _ (λ _. sized 22 _ (omega arith) refl)
      (λ _. by_eq P first 2 _ _ (λ _. sized 6 _ (omega arith) refl)
      (λ _. by_eq P first 3 _ _ (λ _. sized 10 _ (omega arith) refl)
      (λ _. by_eq P first 4 _ _ (λ _. tape)
      (λ _. by_eq P first 5 _ _ (λ _. sized 2 _ (omega arith) refl)
      (λ _. by_eq P first 6 _ _ (λ _. sized 2 _ (omega arith) refl)
      (λ _. by_eq P first 7 _ _ (λ _. sized 6 _ (omega arith) refl) (λ _. none)))))))

  pub by_frame : P (frame_of line)
  unfolding frame_of
  by_frame = by_lt P (length line) 2 _ _ (λ _. none) (λ _. hex (is_hex_line line))
    where
      hex : (h : Bool) → P (elim h [ true ↦ form_of (field line 0 2) line | false ↦ None ])
      hex true = by_form (field line 0 2)
      hex false = none

-- ---- the words of a tape line

-- A tape of w words has 2 + 8 w digits; no other frame has words.
WordsWithin : List ℕ → Option Frame → Type 0
WordsWithin line x = (k : ℕ) → k < words_of x → 10 + 8 * k ≤ length line

within_none : (line : List ℕ) (x : Option Frame) → words_of x ≡ 0 → WordsWithin line x
unfolding WordsWithin
within_none line x e k l = omega arith

within_length : (line : List ℕ) (n : ℕ) (x : Frame) → words_of (Some x) ≡ 0 → WordsWithin line (of_length line n x)
unfolding of_length words_of
within_length line n x e = by_eq (WordsWithin line) (length line) n (Some x) None (λ _. within_none line (Some x) e) (λ _. within_none line None refl)

within_tape : (line : List ℕ) → WordsWithin line (tape_of line)
unfolding tape_of words_of WordsWithin
within_tape line =
    by_eq (WordsWithin line) (length line % 8) 2 _ _
    (λ (e : length line % 8 ≡ 2).
    by_lt (WordsWithin line) (length line / 8) 1 _ _ (λ _. within_none line None refl)
    (λ _. by_lt (WordsWithin line) 16 (length line / 8) _ _ (λ _. within_none line None refl)
    (λ _ k (l : k < length line / 8). omega (arith, e, l))))
    (λ _. within_none line None refl)

pub word_inside : (line : List ℕ) (k : ℕ) → k < words_of (frame_of line) → 10 + 8 * k ≤ length line
unfolding WordsWithin words_of
word_inside line =
    by_frame (WordsWithin line) line (λ n x _ e. within_length line n x e) (within_tape line) (within_none line None refl)

pub word_lt : (line : List ℕ) (i : ℕ) → field line i 8 < 2 ^ 32
word_lt line i = field_lt line i 8
