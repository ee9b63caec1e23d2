-- Laws of scoring boats: the retired bit of joined numbers, the number of scoring entries, and the test that none is retired.
use Rattle.std.specs.Prelude.{◌≡◌, refl, Bool, true, false, ◌&&◌, ◌||◌, not, ◌≢◌, ℕ, zero, suc, ◌+◌, ◌*◌, ◌/◌, ◌%◌, ◌^◌, ◌≤◌, ◌<◌, leb, length, get_or, take, drop}
use Rattle.std.proofs.Common.{sym, ap, ◌∙◌, add-one, zero-mul, arith, le-leb, length-take, take-append-drop, take-suc}
use mathlib.Core.List.{List, [], ◌∷◌, ◌++◌}
use Rattle.std.specs.List.{fold, AllWithin, HoldsAt}
use Rattle.std.specs.Simd.{first_chunks}
use Rattle.std.proofs.lemmas.List.{drop-drop}
use Rattle.std.proofs.Math.Logic.{⊎_elim}
use Rattle.std.proofs.lemmas.Bool.{lt-leb, not-true}
use Rattle.std.specs.Int.Bits.{bit_or, or_add_and}
use Rattle.std.proofs.lemmas.Nat.{and_le_l, and_le_r, or_lt, or_mod}
use Rattle.base.specs.BoolLaws.{and_assoc, and_both, and_true, true_or_false}
use Rattle.base.specs.CaseLaws.{eq_or_ne, le_or_gt}
use Rattle.store_layout.specs.Leaf.{nonzero}
use Rattle.store_layout.proofs.LeafLaws.{nonzero_append, nonzero_zero, nonzero_entry, nonzero_length}
use Rattle.store_scoring.specs.Scoring.{retired_bit, tally, none_retired}

-- ---- the bit

-- An empty slot has no bit.
pub retired_zero : retired_bit 0 ≡ false
unfolding retired_bit
retired_zero = refl

-- Two numbers joined bit by bit reach 2 ^ 62 exactly where one of them does.
or_top : (a b : ℕ) → leb (2 ^ 62) (bit_or a b) ≡ (leb (2 ^ 62) a || leb (2 ^ 62) b)
or_top a b =
    ⊎_elim (λ (h : 2 ^ 62 ≤ a). rw (le-leb (2 ^ 62) a h) (le-leb (2 ^ 62) (bit_or a b) (omega (arith, or_add_and a b, and_le_r a b))))
    (λ (h : a < 2 ^ 62).
    rw (lt-leb (2 ^ 62) a h)
    (⊎_elim (λ (k : 2 ^ 62 ≤ b). rw (le-leb (2 ^ 62) b k) (le-leb (2 ^ 62) (bit_or a b) (omega (arith, or_add_and a b, and_le_l a b))))
    (λ (k : b < 2 ^ 62). rw (lt-leb (2 ^ 62) b k) (lt-leb (2 ^ 62) (bit_or a b) (or_lt 62 a b h k)))
    (le_or_gt (2 ^ 62) b)))
    (le_or_gt (2 ^ 62) a)

pub retired_or : (a b : ℕ) → retired_bit (bit_or a b) ≡ (retired_bit a || retired_bit b)
unfolding retired_bit
retired_or a b = rw (or_mod a b 63) (or_top (a % 2 ^ 63) (b % 2 ^ 63))

not_or : (a b : Bool) → not (a || b) ≡ (not a && not b)
not_or true b = refl
not_or false b = refl

-- ---- the number of scoring entries

module _ (e : ℕ) (list : List ℕ) where
  pub tally_retired : retired_bit e ≡ true → tally (e ∷ list) ≡ tally list
  unfolding tally
  tally_retired h = rw (h, tally)

  pub tally_scoring : retired_bit e ≡ false → tally (e ∷ list) ≡ suc (tally list)
  unfolding tally
  tally_scoring h = rw (h, tally)

pub tally_append : (xs ys : List ℕ) → tally (xs ++ ys) ≡ tally xs + tally ys
unfolding tally
tally_append [] ys = omega arith
tally_append (e ∷ xs) ys =
    ⊎_elim
    (λ (h : retired_bit e ≡ true). rw (tally_retired e (xs ++ ys) h, tally_retired e xs h) (tally_append xs ys))
    (λ (h : retired_bit e ≡ false). rw (tally_scoring e (xs ++ ys) h, tally_scoring e xs h) (omega (arith, tally_append xs ys)))
    (true_or_false (retired_bit e))

pub tally_parts : (i : ℕ) (xs : List ℕ) → tally xs ≡ tally (take i xs) + tally (drop i xs)
tally_parts i xs = ap tally (sym (take-append-drop i xs)) ∙ tally_append (take i xs) (drop i xs)

pub tally_most : (xs : List ℕ) → tally xs ≤ length xs
unfolding tally
tally_most [] = omega arith
tally_most (e ∷ xs) =
    ⊎_elim
    (λ (h : retired_bit e ≡ true). omega (arith, tally_retired e xs h, tally_most xs))
    (λ (h : retired_bit e ≡ false). omega (arith, tally_scoring e xs h, tally_most xs))
    (true_or_false (retired_bit e))

pub tally_front : (i : ℕ) (xs : List ℕ) → tally (take i xs) ≤ i
tally_front i xs = omega (arith, tally_most (take i xs), length-take i xs)

-- ---- the test that none is retired

pub none_append : (xs ys : List ℕ) → none_retired (xs ++ ys) ≡ (none_retired xs && none_retired ys)
unfolding none_retired
none_append [] ys = refl
none_append (e ∷ xs) ys = rw (none_append xs ys) (sym (and_assoc (not (retired_bit e)) (none_retired xs) (none_retired ys)))

pub none_parts : (b : ℕ) (entries : List ℕ) → none_retired entries ≡ true → (none_retired (take b entries) ≡ true) × (none_retired (drop b entries) ≡ true)
none_parts b entries none =
    and_both (none_retired (take b entries)) (none_retired (drop b entries))
    (sym (none_append (take b entries) (drop b entries)) ∙ ap none_retired (take-append-drop b entries) ∙ none)

-- It holds exactly where every entry scores.
pub none_tally : (xs : List ℕ) → none_retired xs ≡ true → tally xs ≡ length xs
unfolding none_retired tally
none_tally [] h = refl
none_tally (e ∷ xs) h =
    let both = and_both (not (retired_bit e)) (none_retired xs) h in
    tally_scoring e xs (not-true (retired_bit e) both.0) ∙ ap suc (none_tally xs both.1)

pub tally_none : (xs : List ℕ) → tally xs ≡ length xs → none_retired xs ≡ true
unfolding none_retired tally
tally_none [] h = refl
tally_none (e ∷ xs) h =
    ⊎_elim
    (λ (k : retired_bit e ≡ true). absurd (omega (arith, h, tally_retired e xs k, tally_most xs)))
    (λ (k : retired_bit e ≡ false). rw (k, tally_none xs (omega (arith, h, tally_scoring e xs k))))
    (true_or_false (retired_bit e))

-- ---- entries that stand in slots

module _ (x : ℕ) where
  -- In one slot.
  pub tally_empty : x ≡ 0 → tally (nonzero (x ∷ [])) ≡ 0
  unfolding tally nonzero
  tally_empty h = rw (nonzero_zero x [] h)

  pub tally_out : retired_bit x ≡ true → tally (nonzero (x ∷ [])) ≡ 0
  unfolding tally nonzero
  tally_out h =
      ⊎_elim (λ (z : x ≡ 0). tally_empty z)
      (λ (p : x ≢ 0). rw (nonzero_entry x [] (omega arith)) (tally_retired x [] h))
      (eq_or_ne x 0)

  pub tally_in : (x ≡ 0 → ⊥) → retired_bit x ≡ false → tally (nonzero (x ∷ [])) ≡ 1
  unfolding tally nonzero
  tally_in p h = rw (nonzero_entry x [] (omega arith)) (tally_scoring x [] h)

  -- Bit 62 is the number of retired boats in it.
  pub retired_slot : x / 2 ^ 62 % 2 + tally (nonzero (x ∷ [])) ≡ length (nonzero (x ∷ []))
  unfolding nonzero tally retired_bit
  retired_slot =
      ⊎_elim (λ (z : x ≡ 0). rw (nonzero_zero x [] z, z))
      (λ (p : x ≢ 0).
      rw (nonzero_entry x [] (omega arith))
      (⊎_elim
      (λ (h : 2 ^ 62 ≤ x % 2 ^ 63). rw (tally_retired x [] (le-leb (2 ^ 62) (x % 2 ^ 63) h)) (omega arith))
      (λ (h : x % 2 ^ 63 < 2 ^ 62). rw (tally_scoring x [] (lt-leb (2 ^ 62) (x % 2 ^ 63) h)) (omega arith))
      (le_or_gt (2 ^ 62) (x % 2 ^ 63))))
      (eq_or_ne x 0)

  pub none_slot : none_retired (nonzero (x ∷ [])) ≡ not (retired_bit x)
  unfolding none_retired nonzero
  none_slot =
      ⊎_elim (λ (z : x ≡ 0). rw (nonzero_zero x [] z, z, retired_zero))
      (λ (p : x ≢ 0). rw (nonzero_entry x [] (omega arith)) (and_true (not (retired_bit x))))
      (eq_or_ne x 0)

-- In slots side by side.
pub slots_append : (xs ys : List ℕ) → tally (nonzero (xs ++ ys)) ≡ tally (nonzero xs) + tally (nonzero ys)
slots_append xs ys = rw (nonzero_append xs ys) (tally_append (nonzero xs) (nonzero ys))

module _ (slots : List ℕ) (i : ℕ) (inside : i < length slots) where
  pub tally_next : tally (nonzero (take (i + 1) slots)) ≡ tally (nonzero (take i slots)) + tally (nonzero (get_or slots i 0 ∷ []))
  tally_next = rw (add-one i, take-suc slots i 0 inside) (slots_append (take i slots) (get_or slots i 0 ∷ []))

-- The first n slots have no more than n scoring entries.
pub tally_slots : (n : ℕ) (slots : List ℕ) → tally (nonzero (take n slots)) ≤ n
tally_slots n slots = omega (arith, tally_most (nonzero (take n slots)), nonzero_length (take n slots), length-take n slots)

-- The entries before the one behind number `seen`, which is x.
pub tally_among : (entries : List ℕ) (seen x : ℕ) → seen < length entries → x ≡ get_or entries seen 0 → (x ≡ 0 → ⊥)
    → tally (take (seen + 1) entries) ≡ tally (take seen entries) + tally (nonzero (x ∷ []))
unfolding nonzero
tally_among entries seen x more is full =
    rw (add-one seen, take-suc entries seen 0 more, nonzero_entry x [] (omega arith), is) (tally_append (take seen entries) (get_or entries seen 0 ∷ []))

-- Slots joined bit by bit, from the numbers that were joined before on.
pub none_fold : (joined : ℕ) (slots : List ℕ)
    → not (retired_bit (fold bit_or joined slots)) ≡ (not (retired_bit joined) && none_retired (nonzero slots))
unfolding none_retired nonzero
none_fold joined [] = sym (and_true (not (retired_bit joined)))
none_fold joined (x ∷ slots) =
    rw (
      nonzero_append (x ∷ []) slots,
      none_append (nonzero (x ∷ [])) (nonzero slots),
      none_slot x,
      none_fold (bit_or joined x) slots,
      retired_or joined x,
      not_or (retired_bit joined) (retired_bit x),
    )
    (and_assoc (not (retired_bit joined)) (not (retired_bit x)) (none_retired (nonzero slots)))

-- The first n slots, and what is left.
none_cut : (n : ℕ) (slots : List ℕ)
    → none_retired (nonzero slots) ≡ (none_retired (nonzero (take n slots)) && none_retired (nonzero (drop n slots)))
none_cut n slots =
    ap (λ (xs : List ℕ). none_retired (nonzero xs)) (sym (take-append-drop n slots))
    ∙ rw (nonzero_append (take n slots) (drop n slots)) (none_append (nonzero (take n slots)) (nonzero (drop n slots)))

-- The first k blocks of n slots each, of which none has a retired boat, and what is left.
pub none_blocks : (n k : ℕ) (slots : List ℕ)
    → AllWithin (λ (xs : List ℕ). none_retired (nonzero xs) ≡ true) (first_chunks n k slots) 0 (length (first_chunks n k slots))
    → none_retired (nonzero slots) ≡ none_retired (nonzero (drop (k * n) slots))
none_blocks n zero slots none = rw (zero-mul n) refl
none_blocks n (suc k) slots none =
    let next : n + k * n ≡ suc k * n = omega arith in
    let first : none_retired (nonzero (take n slots)) ≡ true = none 0 [] (omega arith) (omega arith) in
    let rest = none_blocks n k (drop n slots) (λ i d low most. none (suc i) d (omega arith) (omega arith)) in
    none_cut n slots ∙ rw (first, ← next, ← drop-drop (k * n) n slots) rest

-- One of the first k blocks has a retired boat.
pub some_block : (n k : ℕ) (slots : List ℕ) (i : ℕ) → i < length (first_chunks n k slots)
    → HoldsAt (λ (xs : List ℕ). none_retired (nonzero xs) ≡ false) (first_chunks n k slots) i → none_retired (nonzero slots) ≡ false
some_block n zero slots i inside out = absurd (omega (arith, inside))
some_block n (suc k) slots zero inside out = none_cut n slots ∙ rw (out [])
some_block n (suc k) slots (suc i) inside out =
    none_cut n slots
    ∙ rw (some_block n k (drop n slots) i (omega (arith, inside)) (λ d. out d)) (false_and (none_retired (nonzero (take n slots))))
  where
    false_and : (b : Bool) → (b && false) ≡ false
    false_and true = refl
    false_and false = refl
