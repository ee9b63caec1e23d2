-- The digits of a number are upper-case hexadecimal, and reading them gives the number back.
use Rattle.std.specs.Prelude.{◌≡◌, refl, true, List, [], ◌∷◌, ◌++◌, ℕ, zero, suc, ◌+◌, ◌/◌, ◌%◌, ◌≤◌, ◌<◌, ◌^◌, length, get_or}
use Rattle.std.proofs.Common.{subst, sym, ◌∙◌, append_assoc, append-nil, arith, pow-suc, add_assoc, get_or-append-add}
use Rattle.std.proofs.lemmas.List.{get_or_at}
use borrow.Author.Tests.{lt-ltb}
use Rattle.base.specs.BoolLaws.{and_both}
use Rattle.base.specs.CaseLaws.{if_lt_yes, if_lt_no, by_lt}
use Rattle.frame_lines.specs.Frame.{is_hex_digit, hex_value, all_hex, field}
use Rattle.frame_replies.specs.Reply.{hex_digit, digits}
use Rattle.frame_replies.specs.DigitLaws.{length_digits}

-- ---- one digit

module _ (d : ℕ) (l : d < 16) where
  value_digit : hex_value (hex_digit d) ≡ d
  unfolding hex_value hex_digit
  value_digit =
      by_lt (λ (b : ℕ). hex_value b ≡ d) d 10 _ _
      (λ (h : d < 10). if_lt_no (48 + d) 48 _ _ (omega arith) ∙ if_lt_yes (48 + d) 58 _ _ (omega arith) ∙ omega arith)
      (λ (h : 10 ≤ d).
      if_lt_no (55 + d) 48 _ _ (omega arith)
      ∙ if_lt_no (55 + d) 58 _ _ (omega arith)
      ∙ if_lt_no (55 + d) 65 _ _ (omega arith)
      ∙ if_lt_yes (55 + d) 71 _ _ (omega arith)
      ∙ omega arith)

  hex_digit_lem : is_hex_digit (hex_digit d) ≡ true
  unfolding is_hex_digit hex_digit
  hex_digit_lem =
      by_lt (λ (b : ℕ). is_hex_digit b ≡ true) d 10 _ _
      (λ (h : d < 10). if_lt_no (48 + d) 48 _ _ (omega arith) ∙ if_lt_yes (48 + d) 58 _ _ (omega arith))
      (λ (h : 10 ≤ d).
      if_lt_no (55 + d) 48 _ _ (omega arith)
      ∙ if_lt_no (55 + d) 58 _ _ (omega arith)
      ∙ if_lt_no (55 + d) 65 _ _ (omega arith)
      ∙ lt-ltb (55 + d) 71 (omega arith))

-- ---- upper-case hexadecimal

pub hex_append : (xs ys : List ℕ) → all_hex xs ≡ true → all_hex ys ≡ true → all_hex (xs ++ ys) ≡ true
unfolding all_hex
hex_append [] ys h k = k
hex_append (x ∷ xs) ys h k =
    let b = and_both (is_hex_digit x) (all_hex xs) h in
    rw (b.0, hex_append xs ys b.1 k)

pub hex_digits : (c v : ℕ) → all_hex (digits c v) ≡ true
unfolding all_hex digits
hex_digits zero v = refl
hex_digits (suc c) v =
    hex_append (digits c (v / 16)) (hex_digit (v % 16) ∷ []) (hex_digits c (v / 16)) (rw (hex_digit_lem (v % 16) (omega arith)))

-- ---- a field

-- The digits of a number, wherever they stand in a line, are read as the number.
pub field_digits : (xs ys : List ℕ) (n c v : ℕ) → length xs ≡ n → v < 16 ^ c → field (xs ++ (digits c v ++ ys)) n c ≡ v
unfolding field digits
field_digits xs ys n zero v at fits = omega arith
field_digits xs ys n (suc c) v at fits =
    let rest = (hex_digit (v % 16) ∷ []) ++ ys in
    let high : v / 16 < 16 ^ c = omega (arith, rw (pow-suc 16 c) at fits) in
    let low : get_or (xs ++ (digits c (v / 16) ++ rest)) (n + c) 0 ≡ hex_digit (v % 16) =
    rw (← at)
    (get_or-append-add xs (digits c (v / 16) ++ rest) c 0
    ∙ get_or_at (digits c (v / 16)) (hex_digit (v % 16)) ys 0 c (length_digits c (v / 16))) in
    subst
    (λ (w : List ℕ). field (xs ++ w) n (suc c) ≡ v)
    (sym (append_assoc (digits c (v / 16)) (hex_digit (v % 16) ∷ []) ys))
    (rw (field_digits xs rest n c (v / 16) at high, low, value_digit (v % 16) (omega arith)) (omega arith))

-- A field that stands behind some bytes.
pub field_behind : (xs ys : List ℕ) (n i c : ℕ) → length xs ≡ n → field (xs ++ ys) (n + i) c ≡ field ys i c
unfolding field
field_behind xs ys n i zero at = refl
field_behind xs ys n i (suc c) at =
    rw (field_behind xs ys n i c at, add_assoc n i c, ← at, get_or-append-add xs ys (i + c) 0)

-- The first field, and the last.
pub field_first : (ys : List ℕ) (c v : ℕ) → v < 16 ^ c → field (digits c v ++ ys) 0 c ≡ v
field_first ys c v = field_digits [] ys 0 c v refl

pub field_last : (xs : List ℕ) (n c v : ℕ) → length xs ≡ n → v < 16 ^ c → field (xs ++ digits c v) n c ≡ v
field_last xs n c v at fits = rw (append-nil (digits c v)) at (field_digits xs [] n c v at fits)
