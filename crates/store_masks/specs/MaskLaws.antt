-- Laws of the taken slots as a number, and of the masks of leaves.
use Rattle.std.specs.Prelude.{◌≡◌, refl, List, [], ◌∷◌, ◌++◌, ℕ, zero, suc, ◌+◌, ◌*◌, ◌/◌, ◌%◌, ◌^◌, ◌≤◌, ◌<◌, length, get_or, replicate}
use Rattle.std.proofs.Math.Path.{sym}
use Rattle.std.proofs.Common.{ap, ◌∙◌, ⊎_elim, length-append, pow-add, add_assoc, add-mul, mul_assoc, mul-le-mul_right, zero-add, arith}
use Rattle.std.proofs.lemmas.List.{length-replicate, get_or-replicate}
use Rattle.std.proofs.Math.Pow.{high, low}
use Rattle.std.proofs.Math.Nat.{pow-succ'}
use Rattle.base.specs.Lists.{Every}
use Rattle.base.specs.CaseLaws.{lt_or_ge}
use Rattle.base.specs.ListLaws.{every_get_d, every_replicate, length_tabulate, get_d_tabulate, find}
use Rattle.store_layout.specs.Leaf.{slot_of, spread, nonzero}
use Rattle.store_layout.proofs.LeafLaws.{slot_of_positions, nonzero_zero, nonzero_entry, length_spread, spread_entry, spread_gap, nonzero_spread}
use Rattle.store_masks.specs.Mask.{is_taken, taken, mask, masks}

-- ---- one slot

digit : (x : ℕ) → is_taken x ≤ 1
unfolding is_taken
digit zero = omega arith
digit (suc x) = omega arith

pub empty_digit : (x : ℕ) → x ≡ 0 → is_taken x ≡ 0
unfolding is_taken
empty_digit x e = rw e

pub entry_digit : (x : ℕ) → 0 < x → is_taken x ≡ 1
unfolding is_taken
entry_digit zero h = absurd (omega arith)
entry_digit (suc x) h = refl

empty_taken : (x : ℕ) → is_taken x ≡ 0 → x ≡ 0
unfolding is_taken
empty_taken zero h = refl
empty_taken (suc x) h = absurd (omega arith)

taken_digit : (x : ℕ) → is_taken x ≡ 1 → 0 < x
unfolding is_taken
taken_digit zero h = absurd (omega arith)
taken_digit (suc x) h = omega arith

-- ---- slots one after the other

pub taken_bound : (xs : List ℕ) → taken xs < 2 ^ length xs
unfolding taken
taken_bound [] = omega arith
taken_bound (x ∷ xs) =
    let here : is_taken x * 2 ^ length xs ≤ 1 * 2 ^ length xs = mul-le-mul_right (2 ^ length xs) (digit x) in
    rw (pow-succ' 2 (length xs)) (omega (arith, here, taken_bound xs))

joined : (d p q a b : ℕ) → d * (p * q) + (a * q + b) ≡ (d * p + a) * q + b
joined d p q a b = rw (add-mul (d * p) a q, mul_assoc d p q, add_assoc (d * (p * q)) (a * q) b)

pub taken_append : (xs ys : List ℕ) → taken (xs ++ ys) ≡ taken xs * 2 ^ length ys + taken ys
unfolding taken
taken_append [] ys = omega arith
taken_append (x ∷ xs) ys =
    rw (length-append xs ys, pow-add 2 (length xs) (length ys), taken_append xs ys)
    (joined (is_taken x) (2 ^ length xs) (2 ^ length ys) (taken xs) (taken ys))

pub taken_one : (x : ℕ) → taken (x ∷ []) ≡ is_taken x
unfolding taken
taken_one x = omega arith

-- ---- slots of which the same are taken

-- In two lists of the same length the same slots are taken.
abbrev Alike : List ℕ → List ℕ → Type 0
Alike xs ys = (i : ℕ) → i < length xs → is_taken (get_or xs i 0) ≡ is_taken (get_or ys i 0)

alike_rest : (x y : ℕ) (xs ys : List ℕ) → Alike (x ∷ xs) (y ∷ ys) → Alike xs ys
alike_rest x y xs ys alike i h = alike (suc i) (omega arith)

alike_first : (x y : ℕ) (xs ys : List ℕ) → is_taken x ≡ is_taken y → Alike xs ys → Alike (x ∷ xs) (y ∷ ys)
alike_first x y xs ys first rest zero h = first
alike_first x y xs ys first rest (suc i) h = rest i (omega arith)

alike_taken : (xs ys : List ℕ) → length xs ≡ length ys → Alike xs ys → taken xs ≡ taken ys
unfolding taken
alike_taken [] [] e alike = refl
alike_taken [] (y ∷ ys) e alike = absurd (omega (arith, e))
alike_taken (x ∷ xs) [] e alike = absurd (omega (arith, e))
alike_taken (x ∷ xs) (y ∷ ys) e alike =
    let here : is_taken x ≡ is_taken y = alike 0 (omega arith) in
    let same : length xs ≡ length ys = omega (arith, e) in
    rw (here, same, alike_taken xs ys same (alike_rest x y xs ys alike))

taken_alike : (xs ys : List ℕ) → length xs ≡ length ys → taken xs ≡ taken ys → Alike xs ys
unfolding taken
taken_alike [] ys e t i h = absurd (omega (arith, h))
taken_alike (x ∷ xs) [] e t i h = absurd (omega (arith, e))
taken_alike (x ∷ xs) (y ∷ ys) e t i h =
    let same : length xs ≡ length ys = omega (arith, e) in
    let n = length xs in
    let t' : is_taken x * 2 ^ n + taken xs ≡ is_taken y * 2 ^ n + taken ys = t ∙ rw same in
    let bound : taken ys < 2 ^ n = rw same (taken_bound ys) in
    let first : is_taken x ≡ is_taken y
    = sym (high (is_taken x) n (taken_bound xs)) ∙ ap (λ (v : ℕ). v / 2 ^ n) t' ∙ high (is_taken y) n bound in
    let rest : taken xs ≡ taken ys
    = sym (low (is_taken x) n (taken_bound xs)) ∙ ap (λ (v : ℕ). v % 2 ^ n) t' ∙ low (is_taken y) n bound in
    alike_first x y xs ys first (taken_alike xs ys same rest) i h

alike_number : (xs ys : List ℕ) → length xs ≡ length ys → Alike xs ys → length (nonzero xs) ≡ length (nonzero ys)
alike_number [] [] e alike = refl
alike_number [] (y ∷ ys) e alike = absurd (omega (arith, e))
alike_number (x ∷ xs) [] e alike = absurd (omega (arith, e))
alike_number (x ∷ xs) (y ∷ ys) e alike =
    let here : is_taken x ≡ is_taken y = alike 0 (omega arith) in
    let rest = alike_number xs ys (omega (arith, e)) (alike_rest x y xs ys alike) in
    ⊎_elim
    (λ (h : 0 < x).
    let h' : 0 < y = taken_digit y (sym here ∙ entry_digit x h) in
    ap length (nonzero_entry x xs h) ∙ ap suc rest ∙ sym (ap length (nonzero_entry y ys h')))
    (λ (h : x ≤ 0).
    let e : x ≡ 0 = omega arith in
    let e' : y ≡ 0 = empty_taken y (sym here ∙ empty_digit x e) in
    ap length (nonzero_zero x xs e) ∙ rest ∙ sym (ap length (nonzero_zero y ys e')))
    (lt_or_ge 0 x)

-- ---- the mask of a leaf

-- Entries spread over s slots take the slots of the mask of their number.
spread_alike : (s : ℕ) (xs ys : List ℕ) → length xs ≡ length ys → length xs ≤ s → Every (λ x. 0 < x) xs → Every (λ y. 0 < y) ys
    → Alike (spread s xs) (spread s ys)
spread_alike s xs ys e fit full full' i h =
    let n = length xs in
    ⊎_elim
    (λ found.
    let k = found.0 in
    let at_x = spread_entry s n xs refl fit k found.1 in
    let at_y = spread_entry s n ys (sym e) fit k found.1 in
    rw found.2 (rw (at_x, at_y)
    (entry_digit _ (every_get_d (λ x. 0 < x) xs k 0 full found.1)
    ∙ sym (entry_digit _ (every_get_d (λ x. 0 < x) ys k 0 full' (omega (arith, e, found.1)))))))
    (λ none.
    let inside : i < s = rw (length_spread s xs) at h in
    empty_digit _ (spread_gap s n xs refl i inside none) ∙ sym (empty_digit _ (spread_gap s n ys (sym e) i inside none)))
    (find (slot_of s n) i n)

ones : (n : ℕ) → Every (λ x. 0 < x) (replicate n 1)
ones n = every_replicate (λ x. 0 < x) n 1 (omega arith)

pub mask_spread : (s : ℕ) (xs : List ℕ) → length xs ≤ s → Every (λ x. 0 < x) xs → taken (spread s xs) ≡ mask s (length xs)
unfolding mask
mask_spread s xs fit full =
    let number : length xs ≡ length {A = ℕ} (replicate (length xs) 1) = sym (length-replicate (length xs) 1) in
    alike_taken (spread s xs) (spread s (replicate (length xs) 1)) (length_spread s xs ∙ sym (length_spread s _))
    (spread_alike s xs (replicate (length xs) 1) number fit full (ones (length xs)))

-- Slots of which those of the mask are taken hold its number of entries, and none of their places is empty.
module _ (s n : ℕ) (leaf : List ℕ) (size : length leaf ≡ s) (fit : n ≤ s) (e : taken leaf ≡ mask s n) where
  number : length {A = ℕ} (replicate n 1) ≡ n
  number = length-replicate n 1

  leaf_alike : Alike leaf (spread s (replicate n 1))
  unfolding mask
  leaf_alike = taken_alike leaf (spread s (replicate n 1)) (size ∙ sym (length_spread s (replicate n 1))) e

  pub mask_number : length (nonzero leaf) ≡ n
  mask_number =
      alike_number leaf (spread s (replicate n 1)) (size ∙ sym (length_spread s (replicate n 1))) leaf_alike
      ∙ ap length (nonzero_spread s (replicate n 1) (omega (arith, number, fit)) (ones n))
      ∙ number

  pub mask_places : (k : ℕ) → k < n → 0 < get_or leaf (slot_of s n k) 0
  mask_places k left =
      let inside = (slot_of_positions s n fit).inside k left in
      let there = spread_entry s n (replicate n 1) number fit k left ∙ get_or-replicate n k 1 0 left in
      taken_digit _ (rw there at (leaf_alike (slot_of s n k) (omega (arith, inside, size))) ∙ entry_digit 1 (omega arith))

pub mask_at : (s n : ℕ) → n ≤ s → get_or (masks s) n 0 ≡ mask s n
unfolding masks
mask_at s n fit = rw (zero-add n) at (get_d_tabulate (mask s) 0 (suc s) n 0 (omega (arith, fit)))

pub length_masks : (s : ℕ) → length (masks s) ≡ s + 1
unfolding masks
length_masks s = length_tabulate (mask s) 0 (suc s) ∙ omega arith
