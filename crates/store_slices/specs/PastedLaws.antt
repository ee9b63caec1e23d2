-- Loops that write entries into a list, one after the other: the start, what one entry more leaves, and the end.
use Rattle.std.specs.Prelude.{◌≡◌, refl, List, ◌∷◌, ◌++◌, ℕ, suc, ◌+◌, ◌-◌, ◌≤◌, ◌<◌, length, get_or, take, drop, set}
use Rattle.std.proofs.Common.{◌∙◌, append_assoc, append-nil, zero-add, add-one, arith, length-set, drop_of_length-le, length-take-le, take_all, take-suc, get_or-take, get_or-drop, get_or-append-add}
use Rattle.std.proofs.lemmas.List.{set_at}
use Rattle.std.proofs.Math.ListN.{get_or-append}
use Rattle.std.proofs.Math.Seq.{paste-zero, paste-suc, length_paste_head}
use Rattle.store_slices.specs.Pasted.{Pasted}

pub pasted_none : {old source : List ℕ} {at n : ℕ} → n ≡ 0 → Pasted old at source n old
pasted_none {old} {source} {at} none = record { is = rw none (paste-zero old at source); kept = refl }

module _ {old source new : List ℕ} {at n : ℕ} where
  -- One entry more, behind those that are written: the next one of the source.
  pub pasted_next : Pasted old at source n new → (i x : ℕ) → i ≡ at + n → i < length old → n < length source → x ≡ get_or source n 0
      → Pasted old at source (n + 1) (set new i x)
  pasted_next w i x place room more value = record {
    is = rw (w.is, place, value, add-one n) (paste-suc old at source n 0 (omega arith) more);
    kept = length-set new i x ∙ w.kept;
  }

  -- One entry more, in front of them: any one.
  pub pasted_before : Pasted old (at + 1) source n new → (x : ℕ) → at < length old → Pasted old at (x ∷ source) (n + 1) (set new at x)
  pasted_before w x room =
      let one : suc at + n ≡ at + suc n = omega arith in
      record {
        is = rw (w.is, add-one at, add-one n, take-suc old at 0 room, one)
            (simp append_assoc
            (set_at (take at old) (get_or old at 0) (take n source ++ drop (at + suc n) old) x at (length-take-le at old (omega arith))));
        kept = length-set new at x ∙ w.kept;
      }

  -- The entries in front of those that are written, and behind them, are as they were.
  pub pasted_front : Pasted old at source n new → (i : ℕ) → i < at → at ≤ length old → get_or new i 0 ≡ get_or old i 0
  pasted_front w i front room =
      rw (w.is, append_assoc (take at old) (take n source) (drop (at + n) old))
      (get_or-append (take at old) (take n source ++ drop (at + n) old) 0 i (omega (arith, length-take-le at old room))
      ∙ get_or-take at old i 0 front)

  pub pasted_behind : Pasted old at source n new → (i : ℕ) → at + n ≤ i → at ≤ length old → n ≤ length source → get_or new i 0 ≡ get_or old i 0
  pasted_behind w i behind room enough =
      let written = take at old ++ take n source in
      let further : length written + (i - (at + n)) ≡ i = omega (arith, length_paste_head old at source n room enough) in
      let index : at + n + (i - (at + n)) ≡ i = omega arith in
      rw w.is
      (rw (← further)
      (get_or-append-add written (drop (at + n) old) (i - (at + n)) 0 ∙ get_or-drop (at + n) old (i - (at + n)) 0 ∙ rw (index, further)))

  pub pasted_is : Pasted old at source n new → (m : ℕ) → at + n ≡ m → new ≡ take at old ++ take n source ++ drop m old
  pasted_is w m end = w.is ∙ rw end

-- ---- a list copied over one of the same length

pub copied_next : {old source new : List ℕ} {i : ℕ} → Pasted old 0 source i new → length old ≡ length source → i < length source
    → Pasted old 0 source (i + 1) (set new i (get_or source i 0))
copied_next {source = source} {i = i} w same more = pasted_next w i (get_or source i 0) (omega arith) (omega arith) more refl

pub copied_all : {old source new : List ℕ} {i : ℕ} → Pasted old 0 source i new → length old ≡ length source → length source ≤ i → new ≡ source
copied_all {old} {source} {i = i} w same end =
    let past : length old ≤ i = omega arith in
    w.is ∙ rw (zero-add i, take_all i source end, drop_of_length-le old past) (append-nil source)

-- ---- entries moved by one place

-- The entries from i up to, not including, n stand one place further right, and e is put in before them.
pub shifted_put : {old new : List ℕ} (n i e : ℕ) → Pasted old (i + 1) (drop i old) (n - i) new → i ≤ n → n < length old
    → set new i e ≡ take i old ++ (e ∷ take (n - i) (drop i old)) ++ drop (n + 1) old
shifted_put n i e moved within room =
    let all : i + suc (n - i) ≡ n + 1 = omega arith in
    rw (add-one (n - i)) at (pasted_before moved e (omega arith)).is ∙ rw all
