-- How long the digits of a line are, and a number's digits written from the right.
use Rattle.std.specs.Prelude.{◌≡◌, refl, List, [], ◌∷◌, ◌++◌, ℕ, zero, suc, ◌+◌, ◌-◌, ◌*◌, ◌/◌, ◌%◌, ◌≤◌, ◌<◌, length, get_or, set, take, drop}
use Rattle.std.proofs.Common.{sym, ◌∙◌, append_assoc, append-nil, arith, add-one, length-append, length-drop, length-set, take-append-drop, drop_of_length-le, length-take-le, take-suc, drop-cons}
use Rattle.std.proofs.Math.Nat.{add-zero}
use Rattle.std.proofs.lemmas.List.{set_at}
use Rattle.frame_replies.specs.Reply.{hex_digit, digits, entry_digits, header, encode, line_of, brief, sheet, leaf}
use Rattle.frame_replies.specs.Wrote.{Wrote, DigitsWritten, EntriesWritten}
use Rattle.frame_replies.specs.WroteLaws.{writing_next, writing_done, writing_room}

-- ---- lengths

pub length_digits : (c v : ℕ) → length (digits c v) ≡ c
unfolding digits
length_digits zero v = refl
length_digits (suc c) v = length-append (digits c (v / 16)) (hex_digit (v % 16) ∷ []) ∙ omega (arith, length_digits c (v / 16))

pub length_entries : (list : List ℕ) → length (entry_digits list) ≡ 16 * length list
unfolding entry_digits
length_entries [] = refl
length_entries (e ∷ list) =
    length-append (digits 16 e) (entry_digits list) ∙ omega (arith, length_digits 16 e, length_entries list)

pub length_numbers : (v a w b c : ℕ) → length (digits v a ++ (digits w b ++ digits 4 c)) ≡ v + (w + 4)
length_numbers v a w b c =
    rw (length-append (digits v a) (digits w b ++ digits 4 c), length-append (digits w b) (digits 4 c), length_digits v a, length_digits w b, length_digits 4 c)

pub length_header : (w kind a b : ℕ) → length (header w kind a b) ≡ 6 + w
unfolding header
length_header w kind a b = length_numbers 2 kind w a b ∙ omega arith

-- The lines whose length is known beforehand.
pub length_brief : (kind number n : ℕ) → length (line_of (brief kind number n)) ≡ 9
unfolding line_of encode
length_brief kind number n = length-append (header 2 kind number n) (10 ∷ []) ∙ rw (length_header 2 kind number n)

pub length_sheet : (m n : ℕ) → length (line_of (sheet m n)) ≡ 11
unfolding line_of encode
length_sheet m n = length-append (header 4 144 m n) (10 ∷ []) ∙ rw (length_header 4 144 m n)

pub length_leaf : (number count : ℕ) (slots : List ℕ) → length (line_of (leaf number count slots)) ≡ 11 + 16 * length slots
unfolding line_of encode
length_leaf number count slots =
    rw (length-append (header 4 145 number count ++ entry_digits slots) (10 ∷ []), length-append (header 4 145 number count) (entry_digits slots), length_header 4 145 number count, length_entries slots)
    (omega arith)

-- ---- a number's digits, written from the right

digits_last : (c v : ℕ) → 0 < c → digits c v ≡ digits (c - 1) (v / 16) ++ (hex_digit (v % 16) ∷ [])
unfolding digits
digits_last zero v pos = absurd (omega arith)
digits_last (suc c) v pos = let e : suc c - 1 ≡ c = omega arith in rw e

module _ (old : List ℕ) (at c v : ℕ) where
  pub digits_start : at + c ≤ length old → DigitsWritten old at c v c v old
  digits_start l = record {
    done = [];
    all = sym (append-nil (digits c v));
    is = sym (take-append-drop (at + c) old);
    most = omega arith;
    kept = refl;
  }

  pub digits_next : {left rest : ℕ} {new : List ℕ} → DigitsWritten old at c v left rest new → at + c ≤ length old → 0 < left
      → DigitsWritten old at c v (left - 1) (rest / 16) (set new (at + (left - 1)) (hex_digit (rest % 16)))
  digits_next {left} {rest} {new} w l pos =
      let next : suc (at + (left - 1)) ≡ at + left = omega arith in
      let d = hex_digit (rest % 16) in
      record {
        done = d ∷ w.done;
        all = w.all ∙ rw (digits_last left rest pos) (append_assoc (digits (left - 1) (rest / 16)) (d ∷ []) w.done);
        is = rw (w.is, ← next, take-suc old (at + (left - 1)) 0 (omega (arith, w.most)))
            (simp append_assoc
            (set_at (take (at + (left - 1)) old) (get_or old (at + (left - 1)) 0) (w.done ++ drop (at + c) old) d (at + (left - 1))
            (length-take-le (at + (left - 1)) old (omega (arith, w.most)))));
        most = omega (arith, w.most);
        kept = length-set new (at + (left - 1)) d ∙ w.kept;
      }

  pub digits_done : {left rest : ℕ} {new : List ℕ} → DigitsWritten old at c v left rest new → at + c ≤ length old → left ≡ 0
      → Wrote old at (digits c v) new (at + c)
  unfolding digits
  digits_done {left} {rest} {new} w l none =
      let all : digits c v ≡ w.done = rw none at w.all in
      record {
        is = rw (none, add-zero at, ← all) at w.is;
        end = omega (arith, length_digits c v);
        room = l;
      }

-- ---- entries, one after the other

module _ {old list new : List ℕ} {at i next : ℕ} (w : EntriesWritten old at list i new next) where
  pub entries_room : i < length list → at + 16 * length list ≤ length old → next + 16 ≤ length new
  entries_room l room =
      let all : at + length (entry_digits list) ≤ length old = rw (length_entries list) room in
      omega (arith, writing_room w.writing all, length_entries (drop i list), length-drop i list)

  pub entries_next : i < length list → {new' : List ℕ} {next' : ℕ} → Wrote new next (digits 16 (get_or list i 0)) new' next'
      → EntriesWritten old at list (i + 1) new' next'
  unfolding entry_digits
  entries_next l more = record { writing = rw (add-one i) (writing_next (rw (drop-cons list i 0 l) at w.writing) more) }

  pub entries_done : length list ≤ i → Wrote old at (entry_digits list) new next
  unfolding entry_digits
  entries_done l = writing_done (rw (drop_of_length-le list l) at w.writing)
