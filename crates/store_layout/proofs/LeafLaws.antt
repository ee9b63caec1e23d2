-- Laws of a leaf: its length, what each slot holds, and its entries read back. Only `slot_of_positions` looks at the leaf rule: the rest
-- follows from `Positions`.
use Rattle.std.specs.Prelude.{◌≡◌, length, set, take, replicate}
use Rattle.std.proofs.Math.Path.{refl, sym, ap}
use Rattle.std.proofs.Common.{◌∙◌, subst, length-append, take-suc, get_or-set_same, add-zero, add-suc, suc-add, zero-add, div-lt_iff_lt-mul, div-mul-le_self, le-div_iff_mul-le, le_of_suc-le-suc, mul-le-mul_right, not-suc-le-zero, suc-ne-zero, add-one, arith}
use mathlib.Core.List.{List, [], ◌∷◌, ◌++◌}
use Prim.Native.Nat.{ℕ, zero, suc, ◌+◌, ◌*◌, ◌/◌, ◌≤◌, ◌<◌}
use Rattle.std.proofs.Math.ListN.{get_or, length-set, length-replicate, get_or-replicate}
use Rattle.std.proofs.Math.Seq.{get_or-set_other}
use Rattle.base.specs.Lists.{Every}
use Rattle.store_layout.specs.Leaf.{slot_of, Positions, put_entries, spread, nonzero}

-- ---- the leaf rule

-- Numerators a divisor apart have quotients apart.
div_apart : (b x y : ℕ) → 0 < b → x + b ≤ y → x / b < y / b
div_apart b x y pos h = (le-div_iff_mul-le pos).1 (omega (arith, div-mul-le_self x b))

div_below : (b x y : ℕ) → 0 < b → x < y * b → x / b < y
div_below b x y pos h = (div-lt_iff_lt-mul pos).1 h

pub slot_of_positions : (s n : ℕ) → n ≤ s → Positions n s (slot_of s n)
unfolding slot_of
slot_of_positions s n h = record {
  rises = λ j k l m. div_apart _ _ _ (omega arith) (omega (arith, mul-le-mul_right s l));
  inside = λ k m. div_below _ _ _ (omega arith) (omega (arith, mul-le-mul_right s m));
}

-- ---- entries put in at positions

module _ (position : ℕ → ℕ) where
  pub length_put : (k : ℕ) (xs slots : List ℕ) → length (put_entries position k xs slots) ≡ length slots
  unfolding put_entries
  length_put k [] slots = refl
  length_put k (x ∷ xs) slots = length-set (put_entries position (suc k) xs slots) (position k) x ∙ length_put (suc k) xs slots

  -- A slot that is no entry's position keeps what it held.
  pub put_other : (k : ℕ) (xs slots : List ℕ) (i : ℕ) → ((j : ℕ) → k ≤ j → j < k + length xs → (i ≡ position j → ⊥))
      → get_or (put_entries position k xs slots) i 0 ≡ get_or slots i 0
  unfolding put_entries
  put_other k [] slots i h = refl
  put_other k (x ∷ xs) slots i h =
      get_or-set_other (put_entries position (suc k) xs slots) (position k) i x 0 (h k (omega arith) (omega arith))
      ∙ put_other (suc k) xs slots i (λ j a b. h j (omega arith) (omega arith))

  positions_next : (k s : ℕ) (x : ℕ) (xs : List ℕ) → Positions (k + length (x ∷ xs)) s position → Positions (suc k + length xs) s position
  positions_next k s x xs p =
      subst (λ (m : ℕ). Positions m s position) (add-suc k (length xs) ∙ sym (suc-add k (length xs))) p

  -- Each entry stands at its position.
  pub put_at : (k : ℕ) (xs slots : List ℕ) → Positions (k + length xs) (length slots) position → (j : ℕ) → j < length xs
      → get_or (put_entries position k xs slots) (position (k + j)) 0 ≡ get_or xs j 0
  unfolding put_entries
  put_at k [] slots p j h = absurd (not-suc-le-zero h)
  put_at k (x ∷ xs) slots p zero h =
      rw (add-zero k)
      (get_or-set_same (put_entries position (suc k) xs slots) (position k) x 0
      (rw (length_put (suc k) xs slots) (p.inside k (omega arith))))
  put_at k (x ∷ xs) slots p (suc j) h =
      get_or-set_other (put_entries position (suc k) xs slots) (position k) (position (k + suc j)) x 0
      (λ e. omega (arith, p.rises k (k + suc j) (omega arith) (omega arith)))
      ∙ ap (λ (m : ℕ). get_or (put_entries position (suc k) xs slots) (position m) 0) (add-suc k j ∙ sym (suc-add k j))
      ∙ put_at (suc k) xs slots (positions_next k (length slots) x xs p) j (le_of_suc-le-suc h)

-- ---- the entries that stand in some slots

pub nonzero_append : (xs ys : List ℕ) → nonzero (xs ++ ys) ≡ nonzero xs ++ nonzero ys
unfolding nonzero
nonzero_append [] ys = refl
nonzero_append (zero ∷ xs) ys = nonzero_append xs ys
nonzero_append (suc x ∷ xs) ys = ap {B = List ℕ} (λ zs. suc x ∷ zs) (nonzero_append xs ys)

pub nonzero_zeros : (n : ℕ) → nonzero (replicate n 0) ≡ []
unfolding nonzero
nonzero_zeros zero = refl
nonzero_zeros (suc n) = nonzero_zeros n

pub nonzero_zero : (x : ℕ) (xs : List ℕ) → x ≡ 0 → nonzero (x ∷ xs) ≡ nonzero xs
unfolding nonzero
nonzero_zero zero xs e = refl
nonzero_zero (suc x) xs e = absurd (suc-ne-zero x e)

pub nonzero_entry : (x : ℕ) (xs : List ℕ) → 0 < x → nonzero (x ∷ xs) ≡ x ∷ nonzero xs
unfolding nonzero
nonzero_entry zero xs h = absurd (not-suc-le-zero h)
nonzero_entry (suc x) xs h = refl

pub nonzero_length : (xs : List ℕ) → length (nonzero xs) ≤ length xs
unfolding nonzero
nonzero_length [] = omega arith
nonzero_length (zero ∷ xs) = omega (arith, nonzero_length xs)
nonzero_length (suc x ∷ xs) = omega (arith, nonzero_length xs)

pub nonzero_positive : (xs : List ℕ) → Every (λ x. 0 < x) (nonzero xs)
unfolding nonzero Every
nonzero_positive [] = tt
nonzero_positive (zero ∷ xs) = nonzero_positive xs
nonzero_positive (suc x ∷ xs) = (omega arith, nonzero_positive xs)

-- An entry put among zeros comes before all entries behind them.
nonzero_set : (slots : List ℕ) (i x : ℕ) → 0 < x → i < length slots → ((j : ℕ) → j ≤ i → get_or slots j 0 ≡ 0)
    → nonzero (set slots i x) ≡ x ∷ nonzero slots
nonzero_set [] i x pos h zeros = absurd (not-suc-le-zero h)
nonzero_set (y ∷ slots) zero x pos h zeros =
    nonzero_entry x slots pos ∙ ap {B = List ℕ} (λ zs. x ∷ zs) (sym (nonzero_zero y slots (zeros 0 (omega arith))))
nonzero_set (y ∷ slots) (suc i) x pos h zeros =
    nonzero_zero y (set slots i x) (zeros 0 (omega arith))
    ∙ nonzero_set slots i x pos (le_of_suc-le-suc h) (λ j l. zeros (suc j) (omega arith))
    ∙ ap {B = List ℕ} (λ zs. x ∷ zs) (sym (nonzero_zero y slots (zeros 0 (omega arith))))

module _ (position : ℕ → ℕ) where
  pub nonzero_put : (k : ℕ) (xs : List ℕ) (s : ℕ) → Positions (k + length xs) s position → Every (λ x. 0 < x) xs
      → nonzero (put_entries position k xs (replicate s 0)) ≡ xs
  unfolding put_entries Every
  nonzero_put k [] s p pos = nonzero_zeros s
  nonzero_put k (x ∷ xs) s p pos =
      nonzero_set (put_entries position (suc k) xs (replicate s 0)) (position k) x pos.0
      (rw (length_put position (suc k) xs (replicate s 0), length-replicate) (p.inside k (omega arith)))
      (λ i h. put_other position (suc k) xs (replicate s 0) i (λ j low high e. omega (arith, p.rises k j (omega arith) (omega arith)))
      ∙ get_or-replicate s i 0 0 (omega (arith, p.inside k (omega arith))))
      ∙ ap {B = List ℕ} (λ zs. x ∷ zs) (nonzero_put (suc k) xs s (positions_next position k s x xs p) pos.1)

-- ---- a leaf

module _ (s : ℕ) (xs : List ℕ) where
  pub length_spread : length (spread s xs) ≡ s
  unfolding spread
  length_spread = length_put (slot_of s (length xs)) 0 xs (replicate s 0) ∙ length-replicate s 0

  pub nonzero_spread : length xs ≤ s → Every (λ x. 0 < x) xs → nonzero (spread s xs) ≡ xs
  unfolding spread
  nonzero_spread fit pos =
      nonzero_put (slot_of s (length xs)) 0 xs s (rw (zero-add (length xs)) (slot_of_positions s (length xs) fit)) pos

module _ (s n : ℕ) (xs : List ℕ) (number : length xs ≡ n) where
  -- 0 in a slot without an entry
  pub spread_gap : (i : ℕ) → i < s → ((k : ℕ) → k < n → (i ≡ slot_of s n k → ⊥)) → get_or (spread s xs) i 0 ≡ 0
  unfolding spread
  spread_gap i h other =
      put_other (slot_of s (length xs)) 0 xs (replicate s 0) i (rw number (λ j low high. other j (omega arith)))
      ∙ get_or-replicate s i 0 0 h

  pub spread_entry : n ≤ s → (k : ℕ) → k < n → get_or (spread s xs) (slot_of s n k) 0 ≡ get_or xs k 0
  unfolding spread
  spread_entry fit k h =
      rw number
      (rw (zero-add k) at
      (put_at (slot_of s n) 0 xs (replicate s 0) (rw (zero-add (length xs), length-replicate, number) (slot_of_positions s n fit)) k
      (omega arith)))

-- The entries of the first i + 1 slots, and their number.
module _ (slots : List ℕ) (i : ℕ) (inside : i < length slots) where
  pub entries_next : nonzero (take (i + 1) slots) ≡ nonzero (take i slots) ++ nonzero (get_or slots i 0 ∷ [])
  entries_next = rw (add-one i, take-suc slots i 0 inside) (nonzero_append (take i slots) (get_or slots i 0 ∷ []))

  pub number_next : length (nonzero (take (i + 1) slots)) ≡ length (nonzero (take i slots)) + length (nonzero (get_or slots i 0 ∷ []))
  number_next = rw entries_next (length-append (nonzero (take i slots)) (nonzero (get_or slots i 0 ∷ [])))
