-- The list of the shapes of N entries is in order.
use Rattle.std.specs.Prelude.{refl}
use Rattle.std.proofs.Common.{inl, inr, ⊎_elim, arith}
use mathlib.Core.List.{List, [], ◌∷◌, ◌++◌, map}
use Prim.Native.Nat.{ℕ, zero, suc, ◌+◌, ◌-◌, ◌<◌}
use Rattle.base.specs.Lists.{Every}
use Rattle.base.specs.ListLaws.{every_append, every_map}
use Rattle.draw_shares.specs.Course.{concat_below}
use Rattle.draw_shares.specs.CourseLaws.{every_concat}
use Rattle.tree_sizes.specs.Sizes.{height, candidates, window_start}
use Rattle.tree_rules.specs.Tree.{Tree, node}
use Rattle.tree_shapes.specs.Shapes.{with_halves, trees, shapes_of_size, size_count, shapes}
use Rattle.tree_shapes.specs.Order.{ranks, ordered_by, Before, InOrder}
use Rattle.tree_shapes.specs.ShapesLaws.{every_halves}

-- ---- lists of numbers

before_behind : (zs xs ys : List ℕ) → Before xs ys → Before (zs ++ xs) (zs ++ ys)
unfolding Before
before_behind [] xs ys h = h
before_behind (z ∷ zs) xs ys h = inr (refl, before_behind zs xs ys h)

before_front : (xs ys more later : List ℕ) → Before xs ys → Before (xs ++ more) (ys ++ later)
unfolding Before
before_front [] ys more later h = absurd h
before_front (x ∷ xs) [] more later h = absurd h
before_front (x ∷ xs) (y ∷ ys) more later h = ⊎_elim (λ l. inl l) (λ e. inr (e.0, before_front xs ys more later e.1)) h

every_any : {A : Type 0} (P : A → Type 0) → ((x : A) → P x) → (xs : List A) → Every P xs
unfolding Every
every_any P h [] = tt
every_any P h (x ∷ xs) = (h x, every_any P h xs)

-- ---- lists in order

module _ {A : Type 0} (by : A → List ℕ) where
  -- Every member of the first list stands before every one of the second.
  abbrev AllBefore : List A → List A → Type 0
  AllBefore xs ys = Every (λ x. Every (λ y. Before (by x) (by y)) ys) xs

  ordered_append : (xs ys : List A) → InOrder by xs → InOrder by ys → AllBefore xs ys → InOrder by (xs ++ ys)
  unfolding InOrder Every
  ordered_append [] ys p q r = q
  ordered_append (x ∷ xs) ys p q r = (every_append (λ y. Before (by x) (by y)) xs ys p.0 r.0, ordered_append xs ys p.1 q r.1)

  ordered_concat : (m : ℕ) (h : ℕ → List A) → ((i : ℕ) → i < m → InOrder by (h i)) → ((i j : ℕ) → i < j → j < m → AllBefore (h i) (h j)) → InOrder by (concat_below m h)
  unfolding concat_below InOrder
  ordered_concat zero h p q = tt
  ordered_concat (suc m) h p q =
      ordered_append (concat_below m h) (h m) (ordered_concat m h (λ i l. p i (omega arith)) (λ i j l k. q i j l (omega arith))) (p m (omega arith))
      (every_concat (λ x. Every (λ y. Before (by x) (by y)) (h m)) m h (λ i l. q i m l (omega arith)))

ordered_map : {A B : Type 0} (by : A → List ℕ) (to : B → List ℕ) (f : A → B) → ((x y : A) → Before (by x) (by y) → Before (to (f x)) (to (f y)))
    → (xs : List A) → InOrder by xs → InOrder to (map f xs)
unfolding InOrder
ordered_map by to f h [] p = tt
ordered_map by to f h (x ∷ xs) p =
    (every_map (λ y. Before (by x) (by y)) (λ y. Before (to (f x)) (to y)) f (λ y b. h x y b) xs p.0, ordered_map by to f h xs p.1)

-- ---- trees

halves_ordered : (b : ℕ) (ls rs : List Tree) → InOrder ranks ls → InOrder ranks rs → InOrder ranks (with_halves b ls rs)
unfolding with_halves InOrder ranks Before
halves_ordered b [] rs p q = tt
halves_ordered b (l ∷ ls) rs p q =
    ordered_append ranks (map (node b l) rs) (with_halves b ls rs)
    (ordered_map ranks ranks (node b l) (λ x y h. inr (refl, before_behind (ranks l) (ranks x) (ranks y) h)) rs q)
    (halves_ordered b ls rs p.1 q)
    (every_map (λ r. Unit {0}) (λ x. Every (λ y. Before (ranks x) (ranks y)) (with_halves b ls rs)) (node b l)
    (λ r u.
    every_halves (λ x. Before (ranks l) (ranks x)) (λ y. Unit {0}) (λ t. Before (ranks (node b l r)) (ranks t)) b
    (λ x y h v. inr (refl, before_front (ranks l) (ranks x) (ranks r) (ranks y) h)) ls rs p.0 (every_any _ (λ y. tt) rs))
    rs (every_any _ (λ r. tt) rs))

-- Roots that rise.
roots_before : (b b' : ℕ) (ls rs ls' rs' : List Tree) → b < b' → AllBefore ranks (with_halves b ls rs) (with_halves b' ls' rs')
unfolding ranks Before
roots_before b b' ls rs ls' rs' l =
    every_halves (λ x. Unit {0}) (λ y. Unit {0}) (λ t. Every (λ u. Before (ranks t) (ranks u)) (with_halves b' ls' rs')) b
    (λ x y u v.
    every_halves (λ x'. Unit {0}) (λ y'. Unit {0}) (λ t. Before (ranks (node b x y)) (ranks t)) b' (λ x' y' u' v'. inl l) ls' rs'
    (every_any _ (λ z. tt) ls') (every_any _ (λ z. tt) rs')) ls rs (every_any _ (λ z. tt) ls) (every_any _ (λ z. tt) rs)

trees_ordered : (M levels d n : ℕ) → InOrder ranks (trees M levels d n)
unfolding trees InOrder Every
trees_ordered M zero d n = (tt, tt)
trees_ordered M (suc levels) d n =
    let a = window_start n (candidates M d) in
    let halves : ℕ → List Tree = λ k. trees M levels (suc d) k in
    ordered_concat ranks (candidates M d) (λ i. with_halves (a + i) (halves (a + i)) (halves (n - (a + i))))
    (λ i l. halves_ordered (a + i) (halves (a + i)) (halves (n - (a + i))) (trees_ordered M levels (suc d) (a + i)) (trees_ordered M levels (suc d) (n - (a + i))))
    (λ i j l k. roots_before (a + i) (a + j) (halves (a + i)) (halves (n - (a + i))) (halves (a + j)) (halves (n - (a + j))) (omega arith))

-- ---- shapes

size_ordered : (N M : ℕ) → InOrder ordered_by (shapes_of_size N M)
unfolding shapes_of_size ordered_by Before
size_ordered N M =
    ordered_map ranks ordered_by (λ t. record { size = M; tree = t }) (λ x y h. inr (refl, h)) (trees M (height M) 0 N) (trees_ordered M (height M) 0 N)

sizes_before : (N M M' : ℕ) → M < M' → AllBefore ordered_by (shapes_of_size N M) (shapes_of_size N M')
unfolding shapes_of_size ordered_by Before
sizes_before N M M' l =
    every_map (λ t. Unit {0}) (λ s. Every (λ s'. Before (ordered_by s) (ordered_by s')) (shapes_of_size N M')) (λ t. record { size = M; tree = t })
    (λ t u. every_map (λ t'. Unit {0}) (λ s'. Before (M ∷ ranks t) (ordered_by s')) (λ t'. record { size = M'; tree = t' }) (λ t' u'. inl l)
    (trees M' (height M') 0 N) (every_any _ (λ z. tt) (trees M' (height M') 0 N)))
    (trees M (height M) 0 N) (every_any _ (λ z. tt) (trees M (height M) 0 N))

-- Every shape of N entries stands before each later one.
pub shapes_ordered : (N : ℕ) → InOrder ordered_by (shapes N)
unfolding shapes
shapes_ordered N = ordered_concat ordered_by (size_count N) (λ i. shapes_of_size N (N + i)) (λ i l. size_ordered N (N + i)) (λ i j l k. sizes_before N (N + i) (N + j) (omega arith))
