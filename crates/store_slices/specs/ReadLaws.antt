-- Entries read out of slots from left to right: what one slot more leaves.
use Rattle.std.specs.Prelude.{◌≡◌, refl, List, [], ◌∷◌, ◌++◌, ℕ, ◌+◌, ◌≤◌, ◌<◌, length, get_or, take, drop, set}
use Rattle.std.proofs.Common.{sym, ◌∙◌, ap, ap₂, add-one, arith, length-drop, length-set, take-append-drop, drop-cons, take-suc, take-suc-set, drop-set-lt}
use Rattle.std.proofs.lemmas.List.{take-set-le}
use Rattle.store_layout.specs.Leaf.{nonzero}
use Rattle.store_layout.proofs.LeafLaws.{nonzero_zero, nonzero_entry, nonzero_length}
use Rattle.store_slices.specs.Reading.{EntrySlot, Reading}

-- ---- the slot i, where the entries behind the first `seen` are those of the slots from i on

-- There is such a slot. If it is empty, the same entries are those of the slots behind it; if not, it holds the entry number `seen`,
-- and the entries behind that one are those of the slots behind it.
pub record Slot (slots entries : List ℕ) (seen i : ℕ) : Type 0 where
  pub inside : i < length slots
  pub empty : get_or slots i 0 ≡ 0 → drop seen entries ≡ nonzero (drop (i + 1) slots)
  pub entry : (get_or slots i 0 ≡ 0 → ⊥) → get_or slots i 0 ≡ get_or entries seen 0
  pub next : (get_or slots i 0 ≡ 0 → ⊥) → drop (seen + 1) entries ≡ nonzero (drop (i + 1) slots)

pub slot_read : (slots entries : List ℕ) (seen i : ℕ) → drop seen entries ≡ nonzero (drop i slots) → seen < length entries
    → Slot slots entries seen i
slot_read slots entries seen i rest more = record {
  inside = inside;
  empty = λ zero. rest ∙ rw slot (nonzero_zero (get_or slots i 0) (drop (i + 1) slots) zero);
  entry = λ full. cc (both full);
  next = λ full. cc (both full);
}
  where
    inside : i < length slots
    inside = omega (arith, ap length rest, length-drop seen entries, nonzero_length (drop i slots), length-drop i slots)

    slot : drop i slots ≡ get_or slots i 0 ∷ drop (i + 1) slots
    slot = rw add-one (drop-cons slots i 0 inside)

    both : (get_or slots i 0 ≡ 0 → ⊥) → get_or entries seen 0 ∷ drop (seen + 1) entries ≡ get_or slots i 0 ∷ nonzero (drop (i + 1) slots)
    both full =
        rw (add-one seen, ← drop-cons entries seen 0 more)
        (rest ∙ rw slot (nonzero_entry (get_or slots i 0) (drop (i + 1) slots) (omega arith)))

-- What stands in the slot of an entry is this entry.
pub slot_entry : {slots : List ℕ} {start number slot : ℕ} → EntrySlot slots start number slot → number < length (nonzero (drop start slots))
    → get_or slots slot 0 ≡ get_or (nonzero (drop start slots)) number 0
slot_entry {slots} {start} {number} {slot} w more =
    (slot_read slots (nonzero (drop start slots)) number slot w.rest more).entry (λ zero. omega (arith, w.entry, zero))

-- ---- the output

pub reading_none : {before wanted : List ℕ} {count n : ℕ} → n ≡ 0 → Reading before wanted count n before
reading_none none = record { copied = rw none refl; rest = refl; kept = refl }

module _ {before wanted output : List ℕ} {count n : ℕ} where
  pub reading_all : Reading before wanted count n output → n ≡ count → output ≡ take count wanted ++ drop count before
  reading_all w all =
      sym (take-append-drop count output) ∙ ap₂ (λ (xs ys : List ℕ). xs ++ ys) (rw all at w.copied) w.rest

  module _ (w : Reading before wanted count n output) (x : ℕ) (more : n < count) where
    -- What is written behind the first n is not one of them.
    pub reading_same : Reading before wanted count n (set output n x)
    reading_same = record {
      copied = take-set-le n output n x (omega arith) ∙ w.copied;
      rest = drop-set-lt count output n x more ∙ w.rest;
      kept = length-set output n x ∙ w.kept;
    }

    -- It is the next one.
    pub reading_next : count ≤ length before → n < length wanted → x ≡ get_or wanted n 0 → Reading before wanted count (n + 1) (set output n x)
    reading_next room enough value = record {
      copied =
          rw (add-one n)
          (take-suc-set output n x (omega (arith, w.kept))
          ∙ ap₂ (λ (xs ys : List ℕ). xs ++ ys) w.copied (ap (λ (y : ℕ). y ∷ []) value) ∙ sym (take-suc wanted n 0 enough));
      rest = reading_same.rest;
      kept = reading_same.kept;
    }
