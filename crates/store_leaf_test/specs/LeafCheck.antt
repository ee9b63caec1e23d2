-- The check of a leaf by the number of its entries and what stands at their places: with the right number and no place empty, no entry
-- stands anywhere else.
use Rattle.std.specs.Prelude.{◌≡◌, refl, true, false, List, [], ◌∷◌, ◌⊎◌, ℕ, suc, ◌+◌, ◌≤◌, ◌<◌, eqb, length, get_or, take, drop}
use Rattle.std.proofs.Common.{sym, ap, ap₂, ◌∙◌, inl, inr, ⊎_elim, zero-add, arith, eq-eqb, eqb-true}
use Rattle.base.specs.CaseLaws.{lt_or_ge}
use Rattle.base.specs.Lists.{Every, tabulate}
use Rattle.base.specs.BoolLaws.{and_true_left, and_true_right, not_true_false}
use Rattle.base.specs.ListLaws.{find, length_tabulate, get_d_tabulate, every_tabulate, every_get_d, length_part, part_at, equal_itself, equal_sound}
use Rattle.store_layout.specs.Leaf.{slot_of, spread, nonzero}
use Rattle.store_leaf_test.specs.Ready.{LeafTestReady}
use Rattle.store_leaf_test.specs.Check.{leaf_test}
use Rattle.store_layout.proofs.LeafLaws.{slot_of_positions, nonzero_zero, nonzero_entry, nonzero_positive, length_spread, spread_entry, spread_gap, nonzero_spread}

-- ---- the test

pub leaf_sound : (s n : ℕ) (leaf : List ℕ) → leaf_test s n leaf ≡ true
    → (length (nonzero leaf) ≡ n) × (leaf ≡ spread s (nonzero leaf))
unfolding leaf_test
leaf_sound s n leaf h = (
  eqb-true (length (nonzero leaf)) n (and_true_left (eqb (length (nonzero leaf)) n) _ h),
  equal_sound leaf (spread s (nonzero leaf)) (and_true_right (eqb (length (nonzero leaf)) n) _ h),
)

pub leaf_test_lem : (s : ℕ) (xs : List ℕ) → length xs ≤ s → Every (λ x. 0 < x) xs → leaf_test s (length xs) (spread s xs) ≡ true
unfolding leaf_test
leaf_test_lem s xs fit pos =
    rw (nonzero_spread s xs fit pos, eq-eqb (length xs) (length xs) refl, equal_itself (spread s xs))

-- ---- two lists of which one has what the other has, and maybe more

-- Where a slot of ys is not 0, xs has the same.
abbrev Covers : List ℕ → List ℕ → Type 0
Covers xs ys = (i : ℕ) → i < length xs → (get_or ys i 0 ≡ 0) ⊎ (get_or xs i 0 ≡ get_or ys i 0)

module _ (x y : ℕ) (xs ys : List ℕ) (covers : Covers (x ∷ xs) (y ∷ ys)) where
  covers_rest : Covers xs ys
  covers_rest i h = covers (suc i) (omega arith)

  -- Either the first slots are the same, or only the covering list has an entry there.
  covers_first : (x ≡ y) ⊎ ((0 < x) × (y ≡ 0))
  covers_first =
      ⊎_elim
      (λ (e : y ≡ 0). ⊎_elim (λ (h : 0 < x). inr (h, e)) (λ (h : x ≤ 0). inl (omega arith)) (lt_or_ge 0 x))
      (λ (e : x ≡ y). inl e)
      (covers 0 (omega arith))

  number_more : (0 < x) × (y ≡ 0) → (length (nonzero (x ∷ xs)) ≡ suc (length (nonzero xs))) × (length (nonzero (y ∷ ys)) ≡ length (nonzero ys))
  number_more h = (ap length (nonzero_entry x xs h.0), ap length (nonzero_zero y ys h.1))

  number_same : x ≡ y → (d : ℕ) × (length (nonzero (x ∷ xs)) ≡ d + length (nonzero xs)) × (length (nonzero (y ∷ ys)) ≡ d + length (nonzero ys))
  number_same e =
      ⊎_elim
      (λ (h : 0 < x).
      let here : length (nonzero (y ∷ ys)) ≡ suc (length (nonzero ys)) = ap length (nonzero_entry y ys (omega arith)) in
      (1, omega (arith, ap length (nonzero_entry x xs h)), omega (arith, here)))
      (λ (h : x ≤ 0).
      let here : length (nonzero (y ∷ ys)) ≡ length (nonzero ys) = ap length (nonzero_zero y ys (omega arith)) in
      (0, omega (arith, ap length (nonzero_zero x xs (omega arith))), omega (arith, here)))
      (lt_or_ge 0 x)

covers_number : (xs ys : List ℕ) → length xs ≡ length ys → Covers xs ys → length (nonzero ys) ≤ length (nonzero xs)
covers_number [] [] e covers = omega arith
covers_number [] (y ∷ ys) e covers = omega arith
covers_number (x ∷ xs) [] e covers = omega arith
covers_number (x ∷ xs) (y ∷ ys) e covers =
    let rest : length (nonzero ys) ≤ length (nonzero xs)
    = covers_number xs ys (omega arith) (covers_rest x y xs ys covers) in
    ⊎_elim
    (λ same. let d = number_same x y xs ys covers same in omega (arith, rest, d.1, d.2))
    (λ more. let d = number_more x y xs ys covers more in omega (arith, rest, d.0, d.1))
    (covers_first x y xs ys covers)

-- With no more entries, it has nothing else.
covers_same : (xs ys : List ℕ) → length xs ≡ length ys → Covers xs ys → length (nonzero xs) ≤ length (nonzero ys) → xs ≡ ys
covers_same [] [] e covers few = refl
covers_same [] (y ∷ ys) e covers few = absurd (omega (arith, e))
covers_same (x ∷ xs) [] e covers few = absurd (omega (arith, e))
covers_same (x ∷ xs) (y ∷ ys) e covers few =
    ⊎_elim
    (λ same.
    let d = number_same x y xs ys covers same in
    ap₂ (λ (z : ℕ) (zs : List ℕ). z ∷ zs) same
    (covers_same xs ys (omega arith) (covers_rest x y xs ys covers) (omega (arith, few, d.1, d.2))))
    (λ more.
    let d = number_more x y xs ys covers more in
    absurd (omega (arith, few, d.0, d.1, covers_number xs ys (omega arith) (covers_rest x y xs ys covers))))
    (covers_first x y xs ys covers)

-- ---- the places of a leaf

-- What stands at the places of the n entries of a leaf of s slots from `from` on.
abbrev held : List ℕ → ℕ → ℕ → ℕ → List ℕ
held slots from s n = tabulate (λ k. get_or slots (from + slot_of s n k) 0) 0 n

module _ {slots : List ℕ} {from s n : ℕ} (ready : LeafTestReady slots from s n) where
  abbrev leaf : List ℕ
  leaf = take s (drop from slots)

  abbrev entries : List ℕ
  entries = held slots from s n

  length_entries : length entries ≡ n
  length_entries = length_tabulate (λ k. get_or slots (from + slot_of s n k) 0) 0 n

  entry_at : (k : ℕ) → k < n → get_or entries k 0 ≡ get_or slots (from + slot_of s n k) 0
  entry_at k h = rw (zero-add k) at (get_d_tabulate (λ k. get_or slots (from + slot_of s n k) 0) 0 n k 0 h)

  leaf_at : (k : ℕ) → k < n → get_or leaf (slot_of s n k) 0 ≡ get_or slots (from + slot_of s n k) 0
  leaf_at k h = part_at slots from s (slot_of s n k) 0 ((slot_of_positions s n ready.fit).inside k h)

  leaf_covers : Covers leaf (spread s entries)
  leaf_covers i h =
      ⊎_elim
      (λ found.
      let at-k : get_or (spread s entries) (slot_of s n found.0) 0 ≡ get_or entries found.0 0
      = spread_entry s n entries length_entries ready.fit found.0 found.1 in
      inr (rw found.2 (leaf_at found.0 found.1 ∙ sym (at-k ∙ entry_at found.0 found.1))))
      (λ none. inl (spread_gap s n entries length_entries i (omega (arith, length_part slots from s ready.slots_room)) none))
      (find (slot_of s n) i n)

  -- Another number of entries.
  pub other_number : {number : ℕ} → number ≡ length (nonzero leaf) → (number ≡ n → ⊥) → leaf_test s n leaf ≡ false
  other_number e ne = not_true_false (leaf_test s n leaf) (λ h. ne (e ∙ (leaf_sound s n leaf h).0))

  -- The place of an entry is empty.
  pub place_empty : (k : ℕ) → k < n → get_or slots (from + slot_of s n k) 0 ≡ 0 → leaf_test s n leaf ≡ false
  place_empty k left z =
      not_true_false (leaf_test s n leaf) (λ h.
      let sound = leaf_sound s n leaf h in
      let here : get_or leaf (slot_of s n k) 0 ≡ get_or (nonzero leaf) k 0
      = ap (λ (l : List ℕ). get_or l (slot_of s n k) 0) sound.1 ∙ spread_entry s n (nonzero leaf) sound.0 ready.fit k left in
      omega (arith, here, leaf_at k left, every_get_d (λ x. 0 < x) (nonzero leaf) k 0 (nonzero_positive leaf) (omega (arith, sound.0))))

  -- The right number of entries, and no place is empty.
  pub places_full : {number : ℕ} → number ≡ length (nonzero leaf) → number ≡ n
      → ((k : ℕ) → k < n → 0 < get_or slots (from + slot_of s n k) 0) → leaf_test s n leaf ≡ true
  places_full e right full =
      let positive : Every (λ x. 0 < x) entries
      = every_tabulate (λ k. get_or slots (from + slot_of s n k) 0) (λ x. 0 < x) 0 n (λ j low high. full j (omega arith)) in
      let fits : length entries ≤ s = omega (arith, length_entries, ready.fit) in
      let all : leaf ≡ spread s entries
      = covers_same leaf (spread s entries) (length_part slots from s ready.slots_room ∙ sym (length_spread s entries)) leaf_covers
      (omega (arith, e, right, length_entries, ap length (nonzero_spread s entries fits positive))) in
      rw all (rw length_entries at (leaf_test_lem s entries fits positive))
