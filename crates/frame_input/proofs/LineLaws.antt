-- However an input is divided into chunks, collecting line after line gives the lines of the whole input, each cut to the length of the
-- line buffer.
use Rattle.std.specs.Prelude.{◌≡◌, Bool, true, false, ◌≢◌, ℕ, zero, suc, ◌+◌, ◌-◌, ◌≤◌, ◌<◌, drop}
use Rattle.std.proofs.Math.Path.{refl, sym}
use Rattle.std.proofs.Common.{ap, ◌∙◌, ⊎_elim, arith, length-take, drop_of_length-le, drop-drop}
use mathlib.Core.List.{List, [], ◌∷◌, ◌++◌, map, append-nil, append_assoc}
use Rattle.std.proofs.Math.Nat.{add-zero, min-le_left, min-le_right, sub-zero, suc-sub-suc}
use Rattle.std.proofs.Math.ListN.{length, take, length-append, length-drop}
use Rattle.std.proofs.Math.Seq.{take_at, drop-length, take-nil}
use Rattle.base.specs.CaseLaws.{if_eq_yes, if_eq_no, eq_or_ne, by_lt}
use Rattle.frame_input.specs.Lines.{Outcome, in_front, lines_of, up_to_lf, has_lf, length_with_lf, left, behind, collecting_of, collecting}
use Rattle.frame_input.proofs.CollectLaws.{up_to_lf_lem, up_to_other, has_lf_lem, has_other, length_lf, length_other, next_further}
use Rattle.frame_input.specs.Chunks.{joined, Gone, with, through, gone_from, lines_over}

-- ---- lines

-- bytes without an LF: the first of them, and the others
plain_first : (b : ℕ) (bytes : List ℕ) → has_lf (b ∷ bytes) ≡ false → b ≢ 10
plain_first b bytes h e =
    let clash : true ≡ false = sym (has_lf_lem b bytes e) ∙ h in
    let z : ◌≡◌ {A = ℕ} 0 1 = cc in
    omega arith

plain_rest : (b : ℕ) (bytes : List ℕ) → has_lf (b ∷ bytes) ≡ false → has_lf bytes ≡ false
plain_rest b bytes h = sym (has_other b bytes (plain_first b bytes h)) ∙ h

-- a line that an LF ends
pub lines_ended : (line more : List ℕ) → has_lf line ≡ false → lines_of (line ++ 10 ∷ more) ≡ line ∷ lines_of more
unfolding lines_of in_front
lines_ended [] more h = if_eq_yes 10 10 _ _ refl
lines_ended (b ∷ line) more h = if_eq_no b 10 _ _ (plain_first b line h) ∙ rw (lines_ended line more (plain_rest b line h))

-- a last line without LF
pub lines_last : (b : ℕ) (line : List ℕ) → has_lf (b ∷ line) ≡ false → lines_of (b ∷ line) ≡ (b ∷ line) ∷ []
unfolding lines_of in_front
lines_last b [] h = if_eq_no b 10 _ _ (plain_first b [] h)
lines_last b (c ∷ line) h = if_eq_no b 10 _ _ (plain_first b (c ∷ line) h) ∙ rw (lines_last c line (plain_rest b (c ∷ line) h))

pub plain_append : (p q : List ℕ) → has_lf p ≡ false → has_lf q ≡ false → has_lf (p ++ q) ≡ false
plain_append [] q h k = k
plain_append (b ∷ p) q h k = has_other b (p ++ q) (plain_first b p h) ∙ plain_append p q (plain_rest b p h) k

-- ---- the bytes in front of the first LF

pub up_to_plain : (bytes : List ℕ) → has_lf (up_to_lf bytes) ≡ false
unfolding up_to_lf has_lf
up_to_plain [] = refl
up_to_plain (b ∷ bytes) =
    ⊎_elim
    (λ e. rw (up_to_lf_lem b bytes e))
    (λ ne. rw (up_to_other b bytes ne) (has_other b (up_to_lf bytes) ne ∙ up_to_plain bytes))
    (eq_or_ne b 10)

pub up_to_all : (bytes : List ℕ) → has_lf bytes ≡ false → up_to_lf bytes ≡ bytes
unfolding up_to_lf
up_to_all [] h = refl
up_to_all (b ∷ bytes) h = up_to_other b bytes (plain_first b bytes h) ∙ ap (λ (r : List ℕ). b ∷ r) (up_to_all bytes (plain_rest b bytes h))

pub up_to_split : (bytes : List ℕ) → has_lf bytes ≡ true → bytes ≡ up_to_lf bytes ++ 10 ∷ drop (length_with_lf bytes) bytes
unfolding has_lf
up_to_split [] h = let z : ◌≡◌ {A = ℕ} 0 1 = cc in absurd (omega arith)
up_to_split (b ∷ bytes) h =
    ⊎_elim
    (λ e. rw (up_to_lf_lem b bytes e, length_lf b bytes e, e))
    (λ ne. rw (up_to_other b bytes ne, length_other b bytes ne) (ap (λ (r : List ℕ). b ∷ r) (up_to_split bytes (sym (has_other b bytes ne) ∙ h))))
    (eq_or_ne b 10)

-- ---- the line buffer

pub take_append : (w : ℕ) (p q : List ℕ) → take w (p ++ q) ≡ take w p ++ take (w - length (take w p)) q
take_append zero p q = refl
take_append (suc w) [] q = rw (sub-zero (suc w))
take_append (suc w) (b ∷ p) q = rw (suc-sub-suc w (length (take w p))) (ap (λ (r : List ℕ). b ∷ r) (take_append w p q))

-- The line buffer of w bytes holds what it has room for of the bytes p of a line that is still open.
pub record Holds (w : ℕ) (p line : List ℕ) (have : ℕ) : Type 0 where
  pub width : length line ≡ w
  pub front : take have line ≡ take w p
  pub number : have ≡ length (take w p)
  pub plain : has_lf p ≡ false

pub holds_none : (line : List ℕ) (w : ℕ) → length line ≡ w → Holds w [] line 0
unfolding has_lf
holds_none line w e = record { width = e; front = sym (take-nil w); number = rw (take-nil {A = ℕ} w); plain = refl }

module _ {w : ℕ} {p line : List ℕ} {have : ℕ} (s : Holds w p line have) (q : List ℕ) (h : has_lf q ≡ false) where
  abbrev kept : List ℕ
  kept = take (length line - have) q

  kept_length : length kept ≤ length line - have
  kept_length = rw (length-take (length line - have) q) (min-le_left (length line - have) (length q))

  front_length : length (take have line) ≡ have
  front_length = rw s.front (sym s.number)

  both_length : length (take have line ++ kept) ≡ have + length kept
  both_length = length-append (take have line) kept ∙ rw front_length

  within : have ≤ length line
  within = omega (arith, front_length, length-take have line, min-le_right have (length line))

  all : take w (p ++ q) ≡ take have line ++ kept
  all = take_append w p q ∙ rw (s.front, s.width, s.number)

  pub holds_more : Holds w (p ++ q) (behind line have kept) (have + length kept)
  unfolding behind
  holds_more = record {
    width =
        length-append (take have line ++ kept) (drop (have + length kept) line)
        ∙ omega (arith, both_length, length-drop (have + length kept) line, kept_length, within, s.width);
    front = take_at (take have line ++ kept) (drop (have + length kept) line) (have + length kept) both_length ∙ sym all;
    number = rw all (sym both_length);
    plain = plain_append p q s.plain h;
  }

-- ---- one chunk

-- A chunk, from the place `from` on, gives out the first of the lines that are left, and the rest of the input the others.
pub record Rest (w : ℕ) (p bytes rest : List ℕ) (gone : Gone) : Type 0 where
  pub open_part : List ℕ
  pub holds : Holds w open_part gone.line gone.have
  pub lines : map (take w) (lines_of (p ++ bytes ++ rest)) ≡ gone.lines ++ map (take w) (lines_of (open_part ++ rest))

module _ {w : ℕ} {p line : List ℕ} {have : ℕ} (chunk rest : List ℕ) (from : ℕ) (s : Holds w p line have) where
  abbrev bytes : List ℕ
  bytes = drop from chunk

  abbrev after : Outcome
  after = collecting chunk from line have

  -- the bytes that `collect` leaves
  left_bytes : drop after.answer.next chunk ≡ drop (length_with_lf bytes) bytes
  unfolding collecting collecting_of left
  left_bytes = sym (drop-drop (length_with_lf bytes) from chunk)

  ended_is : after.answer.ended ≡ has_lf bytes
  unfolding collecting collecting_of left
  ended_is = refl

  -- what the line buffer holds after `collect`
  collected_holds : Holds w (p ++ up_to_lf bytes) after.line after.answer.have
  unfolding collecting collecting_of left
  collected_holds = holds_more s (up_to_lf bytes) (up_to_plain bytes)

  -- the chunk is at its end
  gone_end : length chunk ≤ from → Rest w p bytes rest (record { lines = []; line = line; have = have })
  gone_end l = record { open_part = p; holds = s; lines = rw (drop_of_length-le chunk l, append-nil p) }

  -- the line ends
  split_bytes : has_lf bytes ≡ true → p ++ bytes ++ rest ≡ p ++ up_to_lf bytes ++ 10 ∷ (drop after.answer.next chunk ++ rest)
  split_bytes h =
      let others : List ℕ = 10 ∷ drop (length_with_lf bytes) bytes in
      ap (λ (r : List ℕ). p ++ r ++ rest) (up_to_split bytes h)
      ∙ rw (left_bytes, ← append_assoc p (up_to_lf bytes) others) (append_assoc (p ++ up_to_lf bytes) others rest)

  gone_ended : has_lf bytes ≡ true → (gone : Gone) → Rest w [] (drop after.answer.next chunk) rest gone
      → Rest w p bytes rest (with (take after.answer.have after.line) gone)
  unfolding with
  gone_ended h gone r = record {
    open_part = r.open_part;
    holds = r.holds;
    lines = rw (
      split_bytes h,
      lines_ended (p ++ up_to_lf bytes) (drop after.answer.next chunk ++ rest) collected_holds.plain,
      collected_holds.front,
    ) (ap (λ (lines : List (List ℕ)). take w (p ++ up_to_lf bytes) ∷ lines) r.lines);
  }

  -- the line goes on behind the chunk
  no_bytes : has_lf bytes ≡ false → drop after.answer.next chunk ≡ []
  unfolding length_with_lf
  no_bytes h = left_bytes ∙ rw (h, up_to_all bytes h, add-zero (length bytes)) (drop-length bytes)

  gone_open : has_lf bytes ≡ false → (gone : Gone) → Rest w (p ++ up_to_lf bytes) (drop after.answer.next chunk) rest gone → Rest w p bytes rest gone
  gone_open h gone r = record {
    open_part = r.open_part;
    holds = r.holds;
    lines = rw (up_to_all bytes h, no_bytes h, append-nil (p ++ bytes)) at r.lines;
  }

by_ended : (P : Gone → Type 0) (ended : Bool) (x y : Gone) → (ended ≡ true → P x) → (ended ≡ false → P y) → P (elim ended [ true ↦ x | false ↦ y ])
by_ended P true x y f g = f refl
by_ended P false x y f g = g refl

pub gone_through : (turns : ℕ) {w : ℕ} {p line : List ℕ} {have : ℕ} (chunk rest : List ℕ) (from : ℕ) → Holds w p line have
    → length chunk ≤ from + turns → Rest w p (drop from chunk) rest (through turns chunk from line have)
unfolding through
gone_through zero chunk rest from s l = gone_end chunk rest from s (omega arith)
gone_through (suc turns) {w} {p} {line} {have} chunk rest from s l =
    by_lt (Rest w p (drop from chunk) rest) from (length chunk) _ _
    (λ more.
    by_ended (Rest w p (drop from chunk) rest) (collecting chunk from line have).answer.ended _ _
    (λ h. gone_ended chunk rest from s (sym (ended_is chunk rest from s) ∙ h) _
    (gone_through turns chunk rest _ (holds_none _ w (collected_holds chunk rest from s).width) (omega (arith, next_further chunk from line have more))))
    (λ h. gone_open chunk rest from s (sym (ended_is chunk rest from s) ∙ h) _
    (gone_through turns chunk rest _ (collected_holds chunk rest from s) (omega (arith, next_further chunk from line have more)))))
    (λ past. gone_end chunk rest from s past)

-- ---- the whole input

-- a buffer with room holds a byte of a line that has one
holds_some : (w b : ℕ) (p : List ℕ) → 0 < w → length (take w (b ∷ p)) ≢ 0
holds_some zero b p room e = omega arith
holds_some (suc w) b p room e = omega (arith, e)

-- The lines over chunks, where the line buffer holds the bytes p of an open line: those of p with the chunks behind it.
over_open : (chunks : List (List ℕ)) {w : ℕ} (p line : List ℕ) (have : ℕ) → 0 < w → Holds w p line have
    → lines_over chunks line have ≡ map (take w) (lines_of (p ++ joined chunks))
unfolding lines_over joined lines_of gone_from
over_open [] {w} [] line have room s = if_eq_yes have 0 _ _ (s.number ∙ rw (take-nil {A = ℕ} w))
over_open [] {w} (b ∷ p) line have room s =
    if_eq_no have 0 _ _ (λ e. holds_some w b p room (sym s.number ∙ e))
    ∙ rw (append-nil p, s.front)
    (sym (ap (map (take w)) (lines_last b p s.plain)))
over_open (chunk ∷ chunks) {w} p line have room s =
    let gone = gone_from chunk 0 line have in
    let r = gone_through (length chunk) chunk (joined chunks) 0 s (omega arith) in
    ap (λ (lines : List (List ℕ)). gone.lines ++ lines) (over_open chunks r.open_part gone.line gone.have room r.holds)
    ∙ sym r.lines
    ∙ rw (append_assoc p chunk (joined chunks))

-- However the input is divided into chunks, collecting line after line gives the lines of the whole input, each cut to the length of the
-- line buffer.
pub over_chunks : (chunks : List (List ℕ)) (line : List ℕ) → 0 < length line
    → lines_over chunks line 0 ≡ map (take (length line)) (lines_of (joined chunks))
over_chunks chunks line room = over_open chunks [] line 0 room (holds_none line (length line) refl)
