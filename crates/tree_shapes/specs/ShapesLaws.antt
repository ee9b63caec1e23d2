-- The list of the shapes of N entries has each of them exactly one time, and nothing else.
use Rattle.std.specs.Prelude.{◌≡◌, refl, ◌≢◌, Bool, true, false, ◌&&◌, cond, List, [], ◌∷◌, map, ℕ, zero, suc, ◌+◌, ◌-◌, ◌*◌, ◌<◌}
use Rattle.std.proofs.Common.{◌∙◌, arith, eq-eqb, ne_eqb}
use Rattle.base.specs.Lists.{Every}
use Rattle.base.specs.ListLaws.{every_append, every_map}
use Rattle.draw_shares.specs.CourseLaws.{every_concat}
use Rattle.tree_sizes.specs.Sizes.{Allowed, height, candidates, window_start}
use Rattle.tree_sizes.proofs.SizeLaws.{candidate_face}
use Rattle.tree_rules.specs.Tree.{Tree, leaf, node, Balanced, Shape, IsShape}
use Rattle.tree_canonical.specs.ShapeShare.{equal_trees, equal_shapes}
use Rattle.tree_shapes.specs.Shapes.{with_halves, trees, shapes_of_size, size_count, shapes}
use Rattle.tree_shapes.specs.HowMany.{how_many}
use Rattle.tree_shapes.specs.HowManyLaws.{many_append, many_never, many_concat, many_map}

-- ---- no others

pub every_halves : (P Q R : Tree → Type 0) (b : ℕ) → ((l r : Tree) → P l → Q r → R (node b l r)) → (ls rs : List Tree) → Every P ls → Every Q rs
    → Every R (with_halves b ls rs)
unfolding with_halves Every
every_halves P Q R b join [] rs h k = tt
every_halves P Q R b join (l ∷ ls) rs h k =
    every_append R (map (node b l) rs) (with_halves b ls rs) (every_map Q R (node b l) (λ r q. join l r h.0 q) rs k) (every_halves P Q R b join ls rs h.1 k)

pub trees_are : (M levels d n : ℕ) → Every (Balanced M levels d n) (trees M levels d n)
unfolding trees Every Balanced
trees_are M zero d n = (tt, tt)
trees_are M (suc levels) d n =
    let c = candidates M d in
    let halves : ℕ → List Tree = λ k. trees M levels (suc d) k in
    every_concat (Balanced M (suc levels) d n) c (λ i. with_halves (window_start n c + i) (halves (window_start n c + i)) (halves (n - (window_start n c + i))))
    (λ i l.
    let b = window_start n c + i in
    every_halves (Balanced M levels (suc d) b) (Balanced M levels (suc d) (n - b)) (Balanced M (suc levels) d n) b
    (λ x y p q. (candidate_face n c i l, p, q)) (halves b) (halves (n - b)) (trees_are M levels (suc d) b) (trees_are M levels (suc d) (n - b)))

pub size_allowed : (N i : ℕ) → i < size_count N → Allowed N (N + i)
unfolding size_count
size_allowed zero i l = record { least = omega arith; most = omega arith }
size_allowed (suc n) i l = record { least = omega arith; most = omega arith }

pub every_size : (P : Shape → Type 0) (N M : ℕ) → ((t : Tree) → Balanced M (height M) 0 N t → P (record { size = M; tree = t }))
    → Every P (shapes_of_size N M)
unfolding shapes_of_size
every_size P N M h =
    every_map (Balanced M (height M) 0 N) P (λ t. record { size = M; tree = t }) h (trees M (height M) 0 N) (trees_are M (height M) 0 N)

-- Every member is a shape of N entries.
pub shapes_are : (N : ℕ) → Every (IsShape N) (shapes N)
unfolding shapes
shapes_are N = every_concat (IsShape N) (size_count N) (λ i. shapes_of_size N (N + i)) (λ i l. every_size (IsShape N) N (N + i) (λ t w. record { allowed = size_allowed N i l; balanced = w }))

-- ---- each one time

many_halves : (b b' : ℕ) (l r : Tree) (ls rs : List Tree) → b ≡ b'
    → how_many (equal_trees (node b l r)) (with_halves b' ls rs) ≡ how_many (equal_trees l) ls * how_many (equal_trees r) rs
unfolding with_halves how_many equal_trees
many_halves b b' l r [] rs e = omega arith
many_halves b b' l r (x ∷ xs) rs e =
    many_append (equal_trees (node b l r)) (map (node b' x) rs) (with_halves b' xs rs)
    ∙ rw (many_map (equal_trees (node b l r)) (node b' x) rs, many_halves b b' l r xs rs e, eq-eqb b b' e) (one_left (equal_trees l x))
  where
    one_left : (same : Bool)
        → how_many (λ y. same && equal_trees r y) rs + how_many (equal_trees l) xs * how_many (equal_trees r) rs
        ≡ (cond same 1 0 + how_many (equal_trees l) xs) * how_many (equal_trees r) rs
    one_left true = omega arith
    one_left false = rw (many_never (λ (y : Tree). false) (λ y. refl) rs) (omega arith)

many_other : (b b' : ℕ) (l r : Tree) (ls rs : List Tree) → b ≢ b' → how_many (equal_trees (node b l r)) (with_halves b' ls rs) ≡ 0
unfolding with_halves how_many equal_trees
many_other b b' l r [] rs ne = refl
many_other b b' l r (x ∷ xs) rs ne =
    many_append (equal_trees (node b l r)) (map (node b' x) rs) (with_halves b' xs rs)
    ∙ rw (many_map (equal_trees (node b l r)) (node b' x) rs, many_other b b' l r xs rs ne, ne_eqb b b' ne, many_never (λ (y : Tree). false) (λ y. refl) rs)

tree_once : (M levels d n : ℕ) (t : Tree) → Balanced M levels d n t → how_many (equal_trees t) (trees M levels d n) ≡ 1
unfolding trees Balanced how_many equal_trees
tree_once M zero d n leaf w = refl
tree_once M zero d n (node b l r) w = absurd w
tree_once M (suc levels) d n leaf w = absurd w
tree_once M (suc levels) d n (node b l r) w =
    let c = candidates M d in
    let a = window_start n c in
    let halves : ℕ → List Tree = λ k. trees M levels (suc d) k in
    let here : a + (b - a) ≡ b = omega (arith, w.0.from) in
    many_concat (equal_trees (node b l r)) c (b - a) (λ i. with_halves (a + i) (halves (a + i)) (halves (n - (a + i)))) (omega (arith, w.0.from, w.0.below))
    (λ i k ne. many_other b (a + i) l r (halves (a + i)) (halves (n - (a + i))) (λ e. ne (omega arith)))
    ∙ rw here
    (many_halves b b l r (halves b) (halves (n - b)) refl
    ∙ rw (tree_once M levels (suc d) b l w.1, tree_once M levels (suc d) (n - b) r w.2))

size_once : (N M : ℕ) (s : Shape) → s.size ≡ M → IsShape N s → how_many (equal_shapes s) (shapes_of_size N M) ≡ 1
unfolding shapes_of_size equal_shapes
size_once N M s e w =
    many_map (equal_shapes s) (λ t. record { size = M; tree = t }) (trees M (height M) 0 N)
    ∙ rw (eq-eqb s.size M e, ← e) (tree_once s.size (height s.size) 0 N s.tree w.balanced)

size_other : (N M : ℕ) (s : Shape) → s.size ≢ M → how_many (equal_shapes s) (shapes_of_size N M) ≡ 0
unfolding shapes_of_size equal_shapes
size_other N M s ne =
    many_map (equal_shapes s) (λ t. record { size = M; tree = t }) (trees M (height M) 0 N)
    ∙ rw (ne_eqb s.size M ne) (many_never (λ (t : Tree). false) (λ t. refl) (trees M (height M) 0 N))

size_within : (N M : ℕ) → Allowed N M → M - N < size_count N
unfolding size_count
size_within zero M a = omega (arith, a.most)
size_within (suc n) M a = omega (arith, a.most)

-- Every shape of N entries is listed exactly one time.
pub shape_once : (N : ℕ) (s : Shape) → IsShape N s → how_many (equal_shapes s) (shapes N) ≡ 1
unfolding shapes
shape_once N s w =
    many_concat (equal_shapes s) (size_count N) (s.size - N) (λ i. shapes_of_size N (N + i)) (size_within N s.size w.allowed)
    (λ i k ne. size_other N (N + i) s (λ e. ne (omega arith)))
    ∙ size_once N (N + (s.size - N)) s (omega (arith, w.allowed.least)) w
