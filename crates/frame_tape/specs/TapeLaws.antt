-- The waiting tape: words that leave it, and the words of a line that go behind the others.
use Rattle.std.specs.Prelude.{◌≡◌, refl, List, ◌++◌, ℕ, zero, suc, ◌+◌, ◌-◌, ◌≤◌, ◌<◌, length, get_or, set, take, drop, replicate}
use Rattle.std.proofs.Common.{sym, ap, ◌∙◌, ⊎_elim, append_assoc, arith, add-zero, add_comm, length-append, length-drop, get_or-append-add, get_or-drop, take_all}
use Rattle.std.proofs.lemmas.List.{length-replicate, get_or-replicate}
use Rattle.std.proofs.Math.ListN.{get_or-append, get_or-eq_default}
use Rattle.base.specs.CaseLaws.{lt_or_ge}
use Rattle.store_slices.specs.Pasted.{Pasted}
use Rattle.store_slices.specs.PastedLaws.{pasted_next, pasted_behind, pasted_is, copied_all}
use Rattle.frame_lines.specs.Frame.{word_at}
use Rattle.frame_tape.specs.Tape.{read_off, line_words}

-- ---- words that leave the tape

pub length_read_off : (words : ℕ) (tape : List ℕ) → words ≤ length tape → length (read_off words tape) ≡ length tape
unfolding read_off
length_read_off words tape l =
    length-append (drop words tape) (replicate words 0) ∙ omega (arith, length-drop words tape, length-replicate {A = ℕ} words 0)

zero_anyway : (n i : ℕ) → ◌≡◌ {A = ℕ} (get_or (replicate n 0) i 0) 0
zero_anyway n i =
    ⊎_elim (λ (l : i < n). get_or-replicate n i 0 0 l) (λ (l : n ≤ i). get_or-eq_default (replicate n 0) 0 (omega (arith, length-replicate {A = ℕ} n 0))) (lt_or_ge i n)

get_d_read_off : (words : ℕ) (tape : List ℕ) (i : ℕ) → get_or tape (i + words) 0 ≡ get_or (read_off words tape) i 0
unfolding read_off
get_d_read_off words tape i = ⊎_elim inside past (lt_or_ge i (length (drop words tape)))
  where
    inside : i < length (drop words tape) → get_or tape (i + words) 0 ≡ get_or (drop words tape ++ replicate words 0) i 0
    inside l =
        sym
        (get_or-append (drop words tape) (replicate words 0) 0 i l ∙ get_or-drop words tape i 0 ∙ ap (λ (j : ℕ). get_or tape j 0) (add_comm words i))

    past : length (drop words tape) ≤ i → get_or tape (i + words) 0 ≡ get_or (drop words tape ++ replicate words 0) i 0
    past l =
        let d = length (drop words tape) in
        let e : d + (i - d) ≡ i = omega arith in
        let zero-here : get_or (drop words tape ++ replicate words 0) (d + (i - d)) 0 ≡ 0 =
        get_or-append-add (drop words tape) (replicate words 0) (i - d) 0 ∙ zero_anyway words (i - d) in
        get_or-eq_default tape 0 (omega (arith, length-drop words tape)) ∙ sym (rw e at zero-here)

module _ (old : List ℕ) (words : ℕ) (room : words ≤ length old) where
  pub read_off_next : (i x : ℕ) {new : List ℕ} → Pasted old 0 (read_off words old) i new → i < length old → x ≡ get_or new (i + words) 0
      → Pasted old 0 (read_off words old) (i + 1) (set new i x)
  read_off_next i x w l value =
      pasted_next w i x (omega arith) (omega (arith, w.kept)) (omega (arith, w.kept, length_read_off words old room))
      (value
      ∙ pasted_behind w (i + words) (omega arith) (omega arith) (omega (arith, w.kept, length_read_off words old room))
      ∙ get_d_read_off words old i)

  pub read_off_done : (i : ℕ) {new : List ℕ} → Pasted old 0 (read_off words old) i new → length old ≤ i → new ≡ read_off words old
  read_off_done i w l =
      copied_all w (sym (length_read_off words old room)) (omega (arith, w.kept, length_read_off words old room))

-- ---- the words of a tape line

pub length_words : (line : List ℕ) (j c : ℕ) → length (line_words line j c) ≡ c
unfolding line_words
length_words line j zero = refl
length_words line j (suc c) = ap suc (length_words line (suc j) c)

get_d_words : (line : List ℕ) (j c k : ℕ) → k < c → word_at line (j + k) ≡ get_or (line_words line j c) k 0
unfolding line_words
get_d_words line j zero k l = absurd (omega arith)
get_d_words line j (suc c) zero l = ap (word_at line) (add-zero j)
get_d_words line j (suc c) (suc k) l =
    let e : j + suc k ≡ suc j + k = omega arith in
    ap (word_at line) e ∙ get_d_words line (suc j) c k (omega arith)

module _ (old line : List ℕ) (at words : ℕ) (room : at + words ≤ length old) where
  pub add_words_next : (k x : ℕ) {new : List ℕ} → Pasted old at (line_words line 0 words) k new → k < words → x ≡ word_at line k
      → Pasted old at (line_words line 0 words) (k + 1) (set new (at + k) x)
  add_words_next k x w l value =
      let e : 0 + k ≡ k = omega arith in
      pasted_next w (at + k) x refl (omega arith) (omega (arith, length_words line 0 words))
      (value ∙ rw e at (get_d_words line 0 words k l))

  pub add_words_done : (k : ℕ) {new : List ℕ} → Pasted old at (line_words line 0 words) k new → k ≡ words
      → new ≡ take at old ++ (line_words line 0 words ++ drop (at + words) old)
  add_words_done k w e =
      pasted_is w (at + words) (rw e)
      ∙ rw (take_all k (line_words line 0 words) (omega (arith, length_words line 0 words)))
      (append_assoc (take at old) (line_words line 0 words) (drop (at + words) old))
