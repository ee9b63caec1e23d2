-- How many shapes there are of each size parameter, and that this gives the whole number of each of them.
use Rattle.std.specs.Prelude.{◌≡◌, refl, ◌≢◌, List, [], ◌∷◌, map, ℕ, zero, suc, ◌+◌, ◌-◌, ◌*◌, ◌≤◌, ◌<◌, length}
use Rattle.std.proofs.Common.{◌∙◌, arith, mul-pos, mul-le-mul_right, le-mul_of_pos_right, length-append}
use Rattle.std.proofs.lemmas.List.{length-map}
use Rattle.draw_shares.specs.Course.{concat_below}
use Rattle.tree_sizes.specs.Sizes.{Allowed, Fits, height, candidates, half_candidates, ceil_div, window_start}
use Rattle.tree_sizes.proofs.SizeLaws.{candidates_half, height_small}
use Rattle.tree_sizes.proofs.Fit.{fit, fits_pos}
use Rattle.tree_rules.specs.Tree.{Tree, leaf, node, Balanced, Shape, IsShape}
use Rattle.tree_canonical.specs.Canonical.{candidates_product}
use Rattle.tree_canonical.specs.ShapeShare.{shape_product}
use Rattle.tree_shapes.specs.Shapes.{with_halves, trees, shapes_of_size, size_count, tree_count, shape_count}

-- ---- how many

pub length_halves : (b : ℕ) (ls rs : List Tree) → length (with_halves b ls rs) ≡ length ls * length rs
unfolding with_halves
length_halves b [] rs = omega arith
length_halves b (l ∷ ls) rs = length-append (map (node b l) rs) (with_halves b ls rs) ∙ rw (length-map rs (node b l), length_halves b ls rs) (omega arith)

pub length_concat : {A : Type 0} (m size : ℕ) (h : ℕ → List A) → ((i : ℕ) → length (h i) ≡ size) → length (concat_below m h) ≡ m * size
unfolding concat_below
length_concat zero size h e = omega arith
length_concat (suc m) size h e = length-append (concat_below m h) (h m) ∙ rw (length_concat m size h e, e m) (omega arith)

pub trees_count : (M levels d n : ℕ) → length (trees M levels d n) ≡ tree_count (candidates M d) levels
unfolding trees tree_count
trees_count M zero d n = refl
trees_count M (suc levels) d n =
    let c = candidates M d in
    let halves : ℕ → List Tree = λ k. trees M levels (suc d) k in
    let half = tree_count (half_candidates c) levels in
    length_concat c (half * half) (λ i. with_halves (window_start n c + i) (halves (window_start n c + i)) (halves (n - (window_start n c + i))))
    (λ i.
    length_halves (window_start n c + i) (halves (window_start n c + i)) (halves (n - (window_start n c + i)))
    ∙ rw (trees_count M levels (suc d) (window_start n c + i), trees_count M levels (suc d) (n - (window_start n c + i)), candidates_half M d))

pub shapes_count : (N M : ℕ) → length (shapes_of_size N M) ≡ shape_count M
unfolding shapes_of_size shape_count
shapes_count N M = length-map (trees M (height M) 0 N) (λ t. record { size = M; tree = t }) ∙ trees_count M (height M) 0 N

-- ---- the whole number

tree_number : (M levels d n : ℕ) (t : Tree) → Balanced M levels d n t → candidates_product M d t ≡ tree_count (candidates M d) levels
unfolding Balanced candidates_product tree_count
tree_number M zero d n leaf w = refl
tree_number M zero d n (node b l r) w = absurd w
tree_number M (suc levels) d n leaf w = absurd w
tree_number M (suc levels) d n (node b l r) w =
    rw (tree_number M levels (suc d) b l w.1, tree_number M levels (suc d) (n - b) r w.2, candidates_half M d)

-- The share of a shape is 1 over the number of size parameters times the number of shapes of its own.
pub shape_number : (N : ℕ) (s : Shape) → IsShape N s → shape_product N s ≡ size_count N * shape_count s.size
unfolding shape_product size_count shape_count tree_count
shape_number zero s w = rw (height_small s.size (omega (arith, w.allowed.most))) refl
shape_number (suc n) s w = rw (tree_number s.size (height s.size) 0 (suc n) s.tree w.balanced)

-- ---- there is one

pub half_pos : (c : ℕ) → 0 < c → 0 < half_candidates c
unfolding half_candidates ceil_div
half_pos c pos = omega arith

pub count_pos : (c levels : ℕ) → 0 < c → 0 < tree_count c levels
unfolding tree_count
count_pos c zero pos = omega arith
count_pos c (suc levels) pos =
    mul-pos pos (mul-pos (count_pos (half_candidates c) levels (half_pos c pos)) (count_pos (half_candidates c) levels (half_pos c pos)))

pub shape_count_pos : (N M : ℕ) → Allowed N M → 0 < shape_count M
unfolding shape_count tree_count
shape_count_pos N M a = go (height M) (fit N M a)
  where
    go : (h : ℕ) → Fits M h 0 N → 0 < tree_count (candidates M 0) h
    go zero f = omega arith
    go (suc h) f = count_pos (candidates M 0) (suc h) (fits_pos M h 0 N f)

-- ---- a range and its halves, as the code counts them

pub count_leaf : (c levels : ℕ) → levels ≡ 0 → tree_count c levels ≡ 1
unfolding tree_count
count_leaf c levels e = rw e refl

-- What is known of the trees of a range above the leaves: T for each half.
pub record AboveLeaves (c levels T : ℕ) : Type 0 where
  pub count_is : tree_count c levels ≡ c * (T * T)
  pub some : 0 < T
  pub half_most : T ≤ T * T
  pub both_most : T * T ≤ c * (T * T)

pub above_leaves : (c levels : ℕ) {half T : ℕ} → levels ≢ 0 → 0 < c → half ≡ half_candidates c → T ≡ tree_count half (levels - 1) → AboveLeaves c levels T
unfolding tree_count
above_leaves c zero above pos e t = absurd (above refl)
above_leaves c (suc levels) {half} {T} above pos e t =
    let is : T ≡ tree_count (half_candidates c) levels = t ∙ rw (e, lower) in
    let some : 0 < T = rw is (count_pos (half_candidates c) levels (half_pos c pos)) in
    record {
      count_is = rw is;
      some = some;
      half_most = le-mul_of_pos_right T some;
      both_most = omega (arith, mul-le-mul_right (T * T) pos);
    }
  where
    lower : suc levels - 1 ≡ levels
    lower = omega arith
