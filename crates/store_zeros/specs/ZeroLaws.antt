-- Laws of the test that every number of a list is 0, and of the loop that makes it.
use Rattle.std.specs.Prelude.{◌≡◌, refl, Bool, true, false, ◌&&◌, List, [], ◌∷◌, ◌++◌, ℕ, zero, suc, ◌+◌, ◌-◌, ◌*◌, ◌≤◌, ◌<◌, eqb, length, get_or, take, drop, replicate}
use Rattle.std.proofs.Common.{sym, ap, ap₂, ◌∙◌, drop_of_length-le, take-append-drop, drop-cons, drop-drop, get_or-drop, take_all, length-drop, zero-mul, arith, eq-eqb, eqb-true}
use Rattle.std.specs.Int.Bits.{bit_or, or_add_and}
use Rattle.std.specs.List.{slice_range}
use Rattle.std.specs.Simd.{first_chunks}
use Rattle.std.proofs.lemmas.Nat.{and_le_l, and_le_r}
use Rattle.std.proofs.Math.Numerals.{add-one}
use Rattle.base.specs.BoolLaws.{and_true_left, and_true_right, and_both, and_assoc, and_true, tests_agree}
use Rattle.base.specs.ListLaws.{replicate_at}
use Rattle.store_zeros.specs.AllZero.{all_zero}

pub zero_test : (n : ℕ) → all_zero (replicate n 0) ≡ true
unfolding all_zero
zero_test zero = refl
zero_test (suc n) = rw (eq-eqb 0 0 refl, zero_test n)

pub zero_sound : (xs : List ℕ) → all_zero xs ≡ true → xs ≡ replicate (length xs) 0
unfolding all_zero
zero_sound [] h = refl
zero_sound (x ∷ xs) h =
    ap₂ (λ (y : ℕ) (ys : List ℕ). y ∷ ys) (eqb-true x 0 (and_true_left (eqb x 0) (all_zero xs) h))
    (zero_sound xs (and_true_right (eqb x 0) (all_zero xs) h))

zero_all : (xs : List ℕ) → ((i : ℕ) → get_or xs i 0 ≡ 0) → all_zero xs ≡ true
unfolding all_zero
zero_all [] h = refl
zero_all (x ∷ xs) h = rw (eq-eqb x 0 (h 0), zero_all xs (λ i. h (suc i)))

-- ---- numbers joined bit by bit

-- The bits of two numbers joined are 0 exactly where both numbers are.
pub joined_zero : (a b : ℕ) → eqb (bit_or a b) 0 ≡ (eqb a 0 && eqb b 0)
joined_zero a b =
    tests_agree (eqb (bit_or a b) 0) (eqb a 0 && eqb b 0)
    (λ h.
    let none = eqb-true (bit_or a b) 0 h in
    rw (eq-eqb a 0 (omega (arith, none, or_add_and a b, and_le_r a b)), eq-eqb b 0 (omega (arith, none, or_add_and a b, and_le_l a b))))
    (λ h. let both = and_both (eqb a 0) (eqb b 0) h in rw (eqb-true a 0 both.0, eqb-true b 0 both.1))

-- ---- a part and the rest

zero_append : (xs ys : List ℕ) → all_zero (xs ++ ys) ≡ (all_zero xs && all_zero ys)
unfolding all_zero
zero_append [] ys = refl
zero_append (x ∷ xs) ys = rw (zero_append xs ys) (sym (and_assoc (eqb x 0) (all_zero xs) (all_zero ys)))

zero_part : (xs : List ℕ) (i m : ℕ) → all_zero (drop i xs) ≡ (all_zero (take m (drop i xs)) && all_zero (drop (i + m) xs))
zero_part xs i m =
    ap all_zero (sym (take-append-drop m (drop i xs))) ∙ zero_append (take m (drop i xs)) (drop m (drop i xs)) ∙ rw (drop-drop m i xs)

module _ (xs : List ℕ) (i m : ℕ) {part : Bool} (part_is : part ≡ all_zero (take m (drop i xs))) where
  pub part_zero : part ≡ true → all_zero (drop i xs) ≡ all_zero (drop (i + m) xs)
  part_zero e = zero_part xs i m ∙ rw (← part_is, e)

  pub part_not_zero : part ≡ false → all_zero (drop i xs) ≡ false
  part_not_zero e = zero_part xs i m ∙ rw (← part_is, e)

-- The blocks of n numbers: block i, and what stands behind the blocks.
pub block_at : (n k : ℕ) (xs d : List ℕ) (i : ℕ) → i < k → get_or (first_chunks n k xs) i d ≡ take n (drop (i * n) xs)
block_at n zero xs d i h = absurd (omega arith)
block_at n (suc k) xs d zero h = ap (λ (j : ℕ). take n (drop j xs)) (sym (zero-mul n))
block_at n (suc k) xs d (suc i) h =
    let e : suc i * n ≡ n + i * n = omega arith in
    block_at n k (drop n xs) d i (omega arith) ∙ rw (e) (ap (take n) (drop-drop (i * n) n xs))

-- The tail of a slice.
pub tail_is : (xs : List ℕ) (i : ℕ) → slice_range xs i (length xs) ≡ drop i xs
tail_is xs i = take_all (length xs - i) (drop i xs) (omega (arith, length-drop i xs))

-- ---- from the place i on

module _ (xs : List ℕ) (i : ℕ) where
  pub zero_behind : all_zero (drop i xs) ≡ true → (j : ℕ) → i ≤ j → get_or xs j 0 ≡ 0
  zero_behind h j l =
      let e : i + (j - i) ≡ j = omega arith in
      rw e at
      (sym (get_or-drop i xs (j - i) 0)
      ∙ ap (λ (ys : List ℕ). get_or ys (j - i) 0) (zero_sound (drop i xs) h)
      ∙ replicate_at 0 (length (drop i xs)) (j - i))

  pub zero_behind_test : ((j : ℕ) → i ≤ j → get_or xs j 0 ≡ 0) → all_zero (drop i xs) ≡ true
  zero_behind_test h = zero_all (drop i xs) (λ j. get_or-drop i xs j 0 ∙ h (i + j) (omega arith))

  pub zero_end : length xs ≤ i → all_zero (drop i xs) ≡ true
  unfolding all_zero
  zero_end h = rw (drop_of_length-le xs h)

  -- Numbers joined bit by bit, and one more.
  pub zero_joined : (joined : ℕ) → i < length xs
      → (eqb joined 0 && all_zero (drop i xs)) ≡ (eqb (bit_or joined (get_or xs i 0)) 0 && all_zero (drop (i + 1) xs))
  unfolding all_zero
  zero_joined joined h =
      rw (drop-cons xs i 0 h, joined_zero joined (get_or xs i 0), add-one i)
      (sym (and_assoc (eqb joined 0) (eqb (get_or xs i 0) 0) (all_zero (drop (suc i) xs))))

  pub zero_joined_all : (joined : ℕ) → length xs ≤ i → (eqb joined 0 && all_zero (drop i xs)) ≡ eqb joined 0
  zero_joined_all joined h = rw (zero_end h) (and_true (eqb joined 0))
