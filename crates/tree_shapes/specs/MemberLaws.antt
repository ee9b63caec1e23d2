-- Member k of the lists that the trees of a range and the shapes of a size parameter are.
use Rattle.std.specs.Prelude.{◌≡◌, refl, List, [], ◌∷◌, ◌++◌, map, ℕ, zero, suc, ◌+◌, ◌-◌, ◌*◌, ◌/◌, ◌%◌, ◌≤◌, ◌<◌, length, get_or}
use Rattle.std.proofs.Common.{ap, ◌∙◌, subst, ⊎_elim, arith, add-one, add-zero, mul-pos, mod-lt, mod-eq_of_lt, get_or-append-add}
use Rattle.std.proofs.Math.Nat.{mod-eq-sub-mod, div-eq_of_lt, div-eq-sub-div, mul-add-div_right, mul-add-mod_self_right}
use Rattle.std.proofs.lemmas.List.{length-map}
use Rattle.std.proofs.Math.ListN.{get_or-append}
use Rattle.base.specs.CaseLaws.{lt_or_ge}
use Rattle.base.specs.ListLaws.{every_get_d}
use Rattle.draw_shares.specs.Course.{concat_below}
use Rattle.tree_sizes.specs.Sizes.{Allowed, height, candidates, window_start}
use Rattle.tree_sizes.proofs.SizeLaws.{candidates_half}
use Rattle.tree_rules.specs.Tree.{Tree, leaf, node, Shape, IsShape}
use Rattle.tree_shapes.specs.Shapes.{with_halves, trees, shapes_of_size, shape_at, tree_count, shape_count}
use Rattle.tree_shapes.specs.ShapesLaws.{every_size}
use Rattle.tree_shapes.specs.CountLaws.{length_concat, length_halves, trees_count, shapes_count}

pub map_member : {A B : Type 0} (f : A → B) (xs : List A) (i : ℕ) (x : A) (y : B) → i < length xs → get_or (map f xs) i y ≡ f (get_or xs i x)
map_member f [] i x y l = absurd (omega arith)
map_member f (a ∷ xs) zero x y l = refl
map_member f (a ∷ xs) (suc i) x y l = map_member f xs i x y (omega arith)

append_member : {A : Type 0} (xs ys : List A) (i : ℕ) (x : A) → length xs ≤ i → get_or (xs ++ ys) i x ≡ get_or ys (i - length xs) x
append_member xs ys i x l =
    let e : length xs + (i - length xs) ≡ i = omega arith in
    subst (λ (j : ℕ). get_or (xs ++ ys) j x ≡ get_or ys (i - length xs) x) e (get_or-append-add xs ys (i - length xs) x)

-- Lists of one length, one after the other.
concat_member : {A : Type 0} (m size : ℕ) (h : ℕ → List A) (k : ℕ) (x : A) → 0 < size → ((i : ℕ) → length (h i) ≡ size) → k < m * size
    → get_or (concat_below m h) k x ≡ get_or (h (k / size)) (k % size) x
unfolding concat_below
concat_member zero size h k x pos e l = absurd (omega (arith, l))
concat_member (suc m) size h k x pos e l =
    let all = length_concat m size h e in
    ⊎_elim
    (λ (first : k < m * size).
    get_or-append (concat_below m h) (h m) x k (rw all first) ∙ concat_member m size h k x pos e first)
    (λ (last : m * size ≤ k).
    let j = k - m * size in
    let inside : j < size = omega (arith, l) in
    let whole : k ≡ m * size + j = omega arith in
    let block : k / size ≡ m = ap (λ (x : ℕ). x / size) whole ∙ mul-add-div_right pos m j ∙ rw (div-eq_of_lt inside) (add-zero m) in
    let place : k % size ≡ j = ap (λ (x : ℕ). x % size) whole ∙ mul-add-mod_self_right m size j ∙ mod-eq_of_lt inside in
    append_member (concat_below m h) (h m) k x (rw all last) ∙ rw (all, block, place))
    (lt_or_ge k (m * size))

halves_member : (b : ℕ) (ls rs : List Tree) (j : ℕ) → 0 < length rs → j < length ls * length rs
    → get_or (with_halves b ls rs) j leaf ≡ node b (get_or ls (j / length rs) leaf) (get_or rs (j % length rs) leaf)
unfolding with_halves
halves_member b [] rs j pos l = absurd (omega (arith, l))
halves_member b (x ∷ ls) rs j pos l =
    let all = length-map rs (node b x) in
    ⊎_elim
    (λ (first : j < length rs).
    get_or-append (map (node b x) rs) (with_halves b ls rs) leaf j (rw all first)
    ∙ map_member (node b x) rs j leaf leaf first
    ∙ rw (div-eq_of_lt first, mod-eq_of_lt first))
    (λ (later : length rs ≤ j).
    append_member (map (node b x) rs) (with_halves b ls rs) j leaf (rw all later)
    ∙ rw all (halves_member b ls rs (j - length rs) pos (omega (arith, l)) ∙ rw (div-eq-sub-div pos later, add-one, mod-eq-sub-mod later)))
    (lt_or_ge j (length rs))

-- A tree by its number: by that of its balance entry among the candidates, and by those of its halves.
pub tree_member : (M levels d n k : ℕ) → 0 < tree_count (candidates M (suc d)) levels → k < tree_count (candidates M d) (suc levels) →
    let c = candidates M d in
    let half = tree_count (candidates M (suc d)) levels in
    let b = window_start n c + k / (half * half) in
    get_or (trees M (suc levels) d n) k leaf
    ≡ node b (get_or (trees M levels (suc d) b) (k % (half * half) / half) leaf) (get_or (trees M levels (suc d) (n - b)) (k % (half * half) % half) leaf)
unfolding trees tree_count
tree_member M levels d n k pos l =
    let c = candidates M d in
    let half = tree_count (candidates M (suc d)) levels in
    let halves : ℕ → List Tree = λ m. trees M levels (suc d) m in
    let b = window_start n c + k / (half * half) in
    let j = k % (half * half) in
    let right = trees_count M levels (suc d) (n - b) in
    concat_member c (half * half) (λ i. with_halves (window_start n c + i) (halves (window_start n c + i)) (halves (n - (window_start n c + i)))) k leaf (mul-pos pos pos)
    (λ i. length_halves (window_start n c + i) (halves (window_start n c + i)) (halves (n - (window_start n c + i)))
    ∙ rw (trees_count M levels (suc d) (window_start n c + i), trees_count M levels (suc d) (n - (window_start n c + i)))) (rw (← (candidates_half M d)) at l)
    ∙ halves_member b (halves b) (halves (n - b)) j (rw right pos) (rw (trees_count M levels (suc d) b, right) (mod-lt k (mul-pos pos pos)))
    ∙ rw right

-- A shape by its number.
pub shape_member : (N M k : ℕ) → k < shape_count M → shape_at N M k ≡ record { size = M; tree = get_or (trees M (height M) 0 N) k leaf }
unfolding shape_at shapes_of_size shape_count
shape_member N M k l =
    map_member (λ t. record { size = M; tree = t }) (trees M (height M) 0 N) k leaf _ (rw (trees_count M (height M) 0 N) l)

pub shape_size : (N M k : ℕ) → k < shape_count M → (shape_at N M k).size ≡ M
shape_size N M k l = ap (λ (s : Shape). s.size) (shape_member N M k l)

pub shape_is : (N M k : ℕ) → Allowed N M → k < shape_count M → IsShape N (shape_at N M k)
unfolding shape_at
shape_is N M k a l =
    every_get_d (IsShape N) (shapes_of_size N M) k _ (every_size (IsShape N) N M (λ t w. record { allowed = a; balanced = w })) (rw (shapes_count N M) l)
