-- Laws of lists: their members, parts and sums, the values of a function, and the equality test.
use Rattle.std.specs.Prelude.{◌≡◌, true, ◌⊎◌, eqb, length, get_or, set, take, drop, replicate}
use Rattle.std.proofs.Math.Path.{refl, sym, ap}
use Rattle.std.proofs.Common.{◌∙◌, ap₂, inl, inr, ⊎_elim, add-suc, le_of_suc-le-suc, not-suc-le-zero, suc-add, zero-add, add-one, below_more, eq-eqb, eqb-true, length-append, length-take, length-drop, take-append-drop, take-take, get_or-take, get_or-drop, length-take-le}
use mathlib.Core.List.{List, [], ◌∷◌, ◌++◌, map}
use Prim.Native.Nat.{ℕ, zero, suc, ◌+◌, ◌-◌, ◌≤◌, ◌<◌}
use native.Mathlib.Omega.{arith}
use Rattle.std.proofs.Math.Nat.{add-zero, sub-zero, suc-sub-suc, zero-sub}
use Rattle.std.proofs.Math.Seq.{take-nil}
use Rattle.std.proofs.lemmas.List.{take-append-le, drop-append-le}
use Rattle.std.specs.Cmp.Lexicographic.{pointwise}
use Rattle.base.specs.Lists.{Every, total, tabulate, equal_lists}
use Rattle.base.specs.CaseLaws.{eq_or_ne}
use Rattle.base.specs.BoolLaws.{and_true_left, and_true_right}

-- ---- every member

module _ {A : Type 0} (P : A → Type 0) where
  pub every_append : (xs ys : List A) → Every P xs → Every P ys → Every P (xs ++ ys)
  unfolding Every
  every_append [] ys p q = q
  every_append (x ∷ xs) ys p q = (p.0, every_append xs ys p.1 q)

  pub every_take : (i : ℕ) (xs : List A) → Every P xs → Every P (take i xs)
  unfolding Every
  every_take zero xs p = tt
  every_take (suc i) [] p = tt
  every_take (suc i) (x ∷ xs) p = (p.0, every_take i xs p.1)

  pub every_drop : (i : ℕ) (xs : List A) → Every P xs → Every P (drop i xs)
  unfolding Every
  every_drop zero xs p = p
  every_drop (suc i) [] p = tt
  every_drop (suc i) (x ∷ xs) p = every_drop i xs p.1

  pub every_replicate : (n : ℕ) (x : A) → P x → Every P (replicate n x)
  unfolding Every
  every_replicate zero x h = tt
  every_replicate (suc n) x h = (h, every_replicate n x h)

  pub every_get_d : (xs : List A) (i : ℕ) (d : A) → Every P xs → i < length xs → P (get_or xs i d)
  unfolding Every
  every_get_d [] i d p h = absurd (not-suc-le-zero h)
  every_get_d (x ∷ xs) zero d p h = p.0
  every_get_d (x ∷ xs) (suc i) d p h = every_get_d xs i d p.1 (le_of_suc-le-suc h)

  pub every_from : (d : A) (xs : List A) → ((i : ℕ) → i < length xs → P (get_or xs i d)) → Every P xs
  unfolding Every
  every_from d [] h = tt
  every_from d (x ∷ xs) h = (h 0 (omega arith), every_from d xs (λ i l. h (suc i) (omega arith)))

  -- At any index, where P holds of what stands for a member past the end.
  pub every_at : (xs : List A) (i : ℕ) (d : A) → Every P xs → P d → P (get_or xs i d)
  unfolding Every
  every_at [] i d p h = h
  every_at (x ∷ xs) zero d p h = p.0
  every_at (x ∷ xs) (suc i) d p h = every_at xs i d p.1 h

  pub every_set : (xs : List A) (i : ℕ) (x : A) → Every P xs → P x → Every P (set xs i x)
  unfolding Every
  every_set [] i x p h = tt
  every_set (y ∷ ys) zero x p h = (h, p.1)
  every_set (y ∷ ys) (suc i) x p h = (p.0, every_set ys i x p.1 h)

pub every_map : {A B : Type 0} (P : A → Type 0) (Q : B → Type 0) (t : A → B) → ((x : A) → P x → Q (t x)) → (xs : List A) → Every P xs → Every Q (map t xs)
unfolding Every
every_map P Q t h [] p = tt
every_map P Q t h (x ∷ xs) p = (h x p.0, every_map P Q t h xs p.1)

-- ---- parts of a list

module _ {A : Type 0} where
  pub drop_take : (m n : ℕ) (xs : List A) → drop m (take n xs) ≡ take (n - m) (drop m xs)
  drop_take zero n xs = rw (sub-zero n)
  drop_take (suc m) zero xs = rw (zero-sub (suc m))
  drop_take (suc m) (suc n) [] = sym (take-nil (suc n - suc m))
  drop_take (suc m) (suc n) (x ∷ xs) = rw (suc-sub-suc n m) (drop_take m n xs)

  -- The part of n members from `from` on.
  module _ (xs : List A) (from n : ℕ) where
    pub length_part : from + n ≤ length xs → length (take n (drop from xs)) ≡ n
    length_part h = simp (length-take, length-drop) (omega arith)

    pub part_at : (i : ℕ) (d : A) → i < n → get_or (take n (drop from xs)) i d ≡ get_or xs (from + i) d
    part_at i d h = rw (get_or-take, get_or-drop)

  -- A list put together behind its first i members: its length, and parted before that.
  module _ (i : ℕ) (xs ys : List A) (inside : i ≤ length xs) where
    pub length_joined : length (take i xs ++ ys) ≡ i + length ys
    length_joined = length-append (take i xs) ys ∙ rw (length-take-le i xs inside)

    module _ (b : ℕ) (before : b ≤ i) where
      pub joined_take : take b (take i xs ++ ys) ≡ take b xs
      joined_take = take-append-le b (take i xs) ys (rw (length-take-le i xs inside) before) ∙ take-take b i xs before

      pub joined_drop : drop b (take i xs ++ ys) ≡ take (i - b) (drop b xs) ++ ys
      joined_drop = drop-append-le b (take i xs) ys (rw (length-take-le i xs inside) before) ∙ rw (drop_take b i xs)

  -- The parts of a list with every member replaced.
  module _ {B : Type 0} (f : A → B) where
    pub map_take : (n : ℕ) (xs : List A) → take n (map f xs) ≡ map f (take n xs)
    map_take zero xs = refl
    map_take (suc n) [] = refl
    map_take (suc n) (x ∷ xs) = ap (λ (ys : List B). f x ∷ ys) (map_take n xs)

    pub map_drop : (n : ℕ) (xs : List A) → drop n (map f xs) ≡ map f (drop n xs)
    map_drop zero xs = refl
    map_drop (suc n) [] = refl
    map_drop (suc n) (x ∷ xs) = map_drop n xs

-- ---- lists of one value

module _ {A : Type 0} (x : A) where
  pub replicate_at : (n i : ℕ) → get_or (replicate n x) i x ≡ x
  replicate_at zero i = refl
  replicate_at (suc n) zero = refl
  replicate_at (suc n) (suc i) = replicate_at n i

  pub drop_replicate : (k n : ℕ) → drop k (replicate n x) ≡ replicate (n - k) x
  drop_replicate zero n = rw (sub-zero n)
  drop_replicate (suc k) zero = rw (zero-sub (suc k))
  drop_replicate (suc k) (suc n) = rw (suc-sub-suc n k) (drop_replicate k n)

-- ---- sums

pub total_append : (ms ns : List ℕ) → total (ms ++ ns) ≡ total ms + total ns
unfolding total
total_append [] ns = omega arith
total_append (m ∷ ms) ns = omega (arith, total_append ms ns)

pub total_last : (n : ℕ) (ns : List ℕ) → total (ns ++ (n ∷ [])) ≡ total ns + n
unfolding total
total_last n ns = total_append ns (n ∷ []) ∙ omega arith

pub total_front : (i : ℕ) (ns : List ℕ) → total (take i ns) ≤ total ns
total_front i ns = omega (arith, rw (take-append-drop i ns) at (total_append (take i ns) (drop i ns)))

-- ---- the values of a function

module _ (f : ℕ → ℕ) where
  pub length_tabulate : (k n : ℕ) → length (tabulate f k n) ≡ n
  unfolding tabulate
  length_tabulate k zero = refl
  length_tabulate k (suc n) = ap suc (length_tabulate (suc k) n)

  pub get_d_tabulate : (k n i d : ℕ) → i < n → get_or (tabulate f k n) i d ≡ f (k + i)
  unfolding tabulate
  get_d_tabulate k zero i d h = absurd (not-suc-le-zero h)
  get_d_tabulate k (suc n) zero d h = rw (add-zero k)
  get_d_tabulate k (suc n) (suc i) d h = get_d_tabulate (suc k) n i d (le_of_suc-le-suc h) ∙ ap f (suc-add k i ∙ sym (add-suc k i))

  pub every_tabulate : (P : ℕ → Type 0) (k n : ℕ) → ((j : ℕ) → k ≤ j → j < k + n → P (f j)) → Every P (tabulate f k n)
  unfolding tabulate Every
  every_tabulate P k zero h = tt
  every_tabulate P k (suc n) h = (h k (omega arith) (omega arith), every_tabulate P (suc k) n (λ j a b. h j (omega arith) (omega arith)))

  pub tabulate_append : (k m n : ℕ) → tabulate f k (m + n) ≡ tabulate f k m ++ tabulate f (k + m) n
  unfolding tabulate
  tabulate_append k zero n = rw (zero-add n, add-zero k)
  tabulate_append k (suc m) n =
      let shift : suc k + m ≡ k + suc m = omega arith in
      rw (suc-add m n, ← shift, tabulate_append (suc k) m n)

-- A number is one of the first n values of f, or none of them.
pub find : (f : ℕ → ℕ) (i n : ℕ) → ((k : ℕ) × (k < n) × (i ≡ f k)) ⊎ ((k : ℕ) → k < n → (i ≡ f k → ⊥))
find f i zero = inr (λ k h. absurd (not-suc-le-zero h))
find f i (suc n) =
    ⊎_elim
    (λ e. inl (n, omega arith, e))
    (λ ne.
    ⊎_elim
    (λ found. inl (found.0, omega (arith, found.1), found.2))
    (λ none. inr (rw (← add-one n) (below_more (λ k. i ≡ f k → ⊥) n none ne)))
    (find f i n))
    (eq_or_ne i (f n))

-- ---- the equality test

pub equal_itself : (xs : List ℕ) → equal_lists xs xs ≡ true
unfolding equal_lists
equal_itself [] = refl
equal_itself (x ∷ xs) = rw (eq-eqb x x refl, equal_itself xs)

pub equal_sound : (xs ys : List ℕ) → equal_lists xs ys ≡ true → xs ≡ ys
unfolding equal_lists
equal_sound [] [] e = refl
equal_sound [] (y ∷ ys) e = let z : ◌≡◌ {A = ℕ} 0 1 = cc in absurd (omega arith)
equal_sound (x ∷ xs) [] e = let z : ◌≡◌ {A = ℕ} 0 1 = cc in absurd (omega arith)
equal_sound (x ∷ xs) (y ∷ ys) e =
    ap₂ (λ (z : ℕ) (zs : List ℕ). z ∷ zs)
    (eqb-true x y (and_true_left (eqb x y) (equal_lists xs ys) e))
    (equal_sound xs ys (and_true_right (eqb x y) (equal_lists xs ys) e))

-- The library's comparison of two slices of numbers is this one.
pub equal_pointwise : (xs ys : List ℕ) → pointwise eqb xs ys ≡ equal_lists xs ys
unfolding equal_lists
equal_pointwise [] [] = refl
equal_pointwise [] (y ∷ ys) = refl
equal_pointwise (x ∷ xs) [] = refl
equal_pointwise (x ∷ xs) (y ∷ ys) = rw (equal_pointwise xs ys)
