-- The share of each shape in the canonical distribution: 1 over N times the product of the numbers of candidates.
use Rattle.std.specs.Prelude.{◌≡◌, refl, Bool, true, false, ◌&&◌, ◌≢◌, ℕ, zero, suc, ◌+◌, ◌-◌, ◌*◌, ◌<◌, eqb}
use Rattle.std.proofs.Common.{sym, ◌∙◌, ap, ap₂, ⊎_elim, arith, mul-pos, eq-eqb, ne_eqb}
use Rattle.base.specs.CaseLaws.{eq_or_ne}
use Rattle.draw_shares.specs.Program.{Program, done, ◌>>=◌}
use Rattle.draw_shares.specs.Rational.{Rational, ◌⊗◌, nat, inv}
use Rattle.draw_shares.specs.RationalLaws.{ring, zero_mul, zero_add, add_zero, mul_zero, mul_assoc, inv_mul, inv_one, one_mul}
use Rattle.draw_shares.specs.Same.{sum, mean, expect}
use Rattle.draw_shares.specs.Sum.{sum_suc, sum_cong, sum_const}
use Rattle.draw_shares.specs.SameLaws.{expect_bind, expect_cong, expect_mul}
use Rattle.draw_shares.proofs.ShareLaws.{indicator}
use Rattle.tree_sizes.specs.Sizes.{height, candidates, window_start}
use Rattle.tree_sizes.proofs.SizeLaws.{height_small}
use Rattle.tree_rules.specs.Tree.{Tree, leaf, node, Balanced, Shape, IsShape}
use Rattle.tree_rules.specs.Rules.{join, rebuild, fresh}
use Rattle.tree_canonical.specs.Canonical.{canonical_size, canonical, candidates_product}

-- ---- trees and shapes can be told apart

unfoldable pub equal_trees : Tree → Tree → Bool
equal_trees leaf leaf = true
equal_trees leaf (node b l r) = false
equal_trees (node b l r) leaf = false
equal_trees (node b l r) (node b' l' r') = eqb b b' && (equal_trees l l' && equal_trees r r')

unfoldable pub equal_shapes : Shape → Shape → Bool
equal_shapes s t = eqb s.size t.size && equal_trees s.tree t.tree

indicator_and : (a b : Bool) → indicator (a && b) ≡ indicator a ⊗ indicator b
unfolding indicator
indicator_and true b = sym (one_mul (indicator b))
indicator_and false b = sym (zero_mul (indicator b))

-- ---- sums with one term

sum_single : (m j : ℕ) (h : ℕ → Rational) → j < m → ((i : ℕ) → i < m → i ≢ j → h i ≡ nat 0) → sum m h ≡ h j
sum_single zero j h l z = absurd (omega arith)
sum_single (suc m) j h l z = sum_suc m h ∙ ⊎_elim
    (λ (e : j ≡ m). rw (e, rest (λ i k. z i (omega arith) (λ d. omega arith))) (zero_add (h m)))
    (λ (d : j ≢ m). rw (sum_single m j h (omega arith) (λ i k. z i (omega arith)), z m (omega arith) (λ e. d (sym e))) (add_zero (h j)))
    (eq_or_ne j m)
  where
    rest : ((i : ℕ) → i < m → h i ≡ nat 0) → sum m h ≡ nat 0
    rest z = sum_cong m {k = λ i. nat 0} z ∙ sum_const m (nat 0) ∙ mul_zero (nat m)

-- the mean of what only the face j gives
mean_single : (m j : ℕ) (h : ℕ → Rational) → j < m → ((i : ℕ) → i < m → i ≢ j → h i ≡ nat 0) → mean m h ≡ inv m ⊗ h j
unfolding mean
mean_single m j h l z = ap (λ (u : Rational). inv m ⊗ u) (sum_single m j h l z)

-- ---- trees

join_share : (b b' : ℕ) (l r : Tree) (p q : Program Tree)
    → expect (join b' p q) (λ u. indicator (equal_trees (node b l r) u))
    ≡ indicator (eqb b b') ⊗ (expect p (λ u. indicator (equal_trees l u)) ⊗ expect q (λ u. indicator (equal_trees r u)))
unfolding join expect equal_trees
join_share b b' l r p q =
    let B = indicator (eqb b b') in
    let Q = expect q (λ u. indicator (equal_trees r u)) in
    expect_bind p (λ x. q >>= λ y. done (node b' x y)) (λ u. indicator (equal_trees (node b l r) u))
    ∙ expect_cong p (λ x.
    expect_bind q (λ y. done (node b' x y)) (λ u. indicator (equal_trees (node b l r) u))
    ∙ expect_cong q (λ y.
    indicator_and (eqb b b') (equal_trees l x && equal_trees r y)
    ∙ ap (λ (u : Rational). B ⊗ u) (indicator_and (equal_trees l x) (equal_trees r y))
    ∙ sym (mul_assoc B (indicator (equal_trees l x)) (indicator (equal_trees r y))))
    ∙ expect_mul q (B ⊗ indicator (equal_trees l x)) (λ y. indicator (equal_trees r y))
    ∙ swap B (indicator (equal_trees l x)) Q)
    ∙ expect_mul p (B ⊗ Q) (λ x. indicator (equal_trees l x))
    ∙ swap' B (expect p (λ u. indicator (equal_trees l u))) Q
  where
    swap : (x y z : Rational) → x ⊗ y ⊗ z ≡ x ⊗ z ⊗ y
    swap x y z = simp ring

    swap' : (x y z : Rational) → x ⊗ z ⊗ y ≡ x ⊗ (y ⊗ z)
    swap' x y z = simp ring

indicator_no : (b b' : ℕ) (x : Rational) → b ≢ b' → indicator (eqb b b') ⊗ x ≡ nat 0
unfolding indicator
indicator_no b b' x d = rw (ne_eqb b b' d) (zero_mul x)

indicator_yes : (b b' : ℕ) (x : Rational) → b ≡ b' → indicator (eqb b b') ⊗ x ≡ x
unfolding indicator
indicator_yes b b' x e = rw (eq-eqb b b' e) (one_mul x)

rebuild_share : (M levels d n : ℕ) (t : Tree) → Balanced M levels d n t
    → expect (rebuild M levels d n) (λ u. indicator (equal_trees t u)) ≡ inv (candidates_product M d t)
unfolding rebuild Balanced candidates_product expect equal_trees indicator
rebuild_share M zero d n leaf w = sym inv_one
rebuild_share M zero d n (node b l r) w = absurd w
rebuild_share M (suc levels) d n leaf w = absurd w
rebuild_share M (suc levels) d n (node b l r) w =
    let c = candidates M d in
    let a = window_start n c in
    let here : a + (b - a) ≡ b = omega (arith, w.0.from) in
    let half : ℕ → Program Tree = λ k. rebuild M levels (suc d) k in
    let share : ℕ → Rational = λ f. expect (join (a + f) (half (a + f)) (half (n - (a + f)))) (λ u. indicator (equal_trees (node b l r) u)) in
    let L = candidates_product M (suc d) l in
    let R = candidates_product M (suc d) r in
    let both : share (b - a) ≡ inv L ⊗ inv R
    = join_share b (a + (b - a)) l r (half (a + (b - a))) (half (n - (a + (b - a))))
    ∙ indicator_yes b (a + (b - a)) _ (sym here)
    ∙ rw here
    (ap₂ (λ (u v : Rational). u ⊗ v) (rebuild_share M levels (suc d) b l w.1) (rebuild_share M levels (suc d) (n - b) r w.2)) in
    mean_single c (b - a) share (omega (arith, w.0.from, w.0.below))
    (λ i k ne.
    join_share b (a + i) l r (half (a + i)) (half (n - (a + i))) ∙ indicator_no b (a + i) _ (λ e. ne (omega arith)))
    ∙ rw (both, inv_mul c (L * R), inv_mul L R)

-- ---- shapes

fresh_share : (M N : ℕ) (s : Shape)
    → expect (fresh M N) (λ u. indicator (equal_shapes s u))
    ≡ indicator (eqb s.size M) ⊗ expect (rebuild M (height M) 0 N) (λ u. indicator (equal_trees s.tree u))
unfolding fresh expect equal_shapes
fresh_share M N s =
    expect_bind (rebuild M (height M) 0 N) (λ t. done (record { size = M; tree = t })) (λ u. indicator (equal_shapes s u))
    ∙ expect_cong (rebuild M (height M) 0 N) (λ t. indicator_and (eqb s.size M) (equal_trees s.tree t))
    ∙ expect_mul (rebuild M (height M) 0 N) (indicator (eqb s.size M)) (λ t. indicator (equal_trees s.tree t))

-- 1 for no entries; otherwise N times the product.
unfoldable pub shape_product : ℕ → Shape → ℕ
shape_product zero s = 1
shape_product (suc n) s = suc n * candidates_product s.size 0 s.tree

-- what a size M gives
abbrev at_size : ℕ → Shape → ℕ → Rational
at_size N s M = indicator (eqb s.size M) ⊗ expect (rebuild M (height M) 0 N) (λ u. indicator (equal_trees s.tree u))

at_itself : (N M : ℕ) (s : Shape) → s.size ≡ M → Balanced s.size (height s.size) 0 N s.tree
    → at_size N s M ≡ inv (candidates_product s.size 0 s.tree)
at_itself N M s e w = indicator_yes s.size M _ e ∙ rw (← e) (rebuild_share s.size (height s.size) 0 N s.tree w)

leaf_product : (M d n : ℕ) (t : Tree) → Balanced M 0 d n t → candidates_product M d t ≡ 1
unfolding Balanced candidates_product
leaf_product M d n leaf w = refl
leaf_product M d n (node b l r) w = absurd w

size_share : (N : ℕ) (s : Shape) → IsShape N s → expect (canonical_size N) (at_size N s) ≡ inv (shape_product N s)
unfolding canonical_size expect shape_product
size_share zero s w =
    let small : s.size ≡ 0 = omega (arith, w.allowed.most) in
    at_itself 0 0 s small w.balanced
    ∙ ap inv (leaf_product s.size 0 0 s.tree (rw (height_small s.size (omega arith)) at w.balanced))
size_share (suc n) s w =
    mean_single (suc n) (s.size - suc n) (λ f. at_size (suc n) s (suc n + f)) (omega (arith, w.allowed.least, w.allowed.most))
    (λ i k ne. indicator_no s.size (suc n + i) _ (λ e. ne (omega arith)))
    ∙ rw (at_itself (suc n) (suc n + (s.size - suc n)) s (omega (arith, w.allowed.least)) w.balanced, inv_mul (suc n) (candidates_product s.size 0 s.tree))

-- A shape of N entries has the share 1 / N times 1 / c for each range above the leaves.
pub canonical_share : (N : ℕ) (s : Shape) → IsShape N s → expect (canonical N) (λ u. indicator (equal_shapes s u)) ≡ inv (shape_product N s)
unfolding canonical
canonical_share N s w =
    expect_bind (canonical_size N) (λ M. fresh M N) (λ u. indicator (equal_shapes s u))
    ∙ expect_cong (canonical_size N) (λ M. fresh_share M N s)
    ∙ size_share N s w

-- ---- the product is not 0

product_pos : (M levels d n : ℕ) (t : Tree) → Balanced M levels d n t → 0 < candidates_product M d t
unfolding Balanced candidates_product
product_pos M zero d n leaf w = omega arith
product_pos M zero d n (node b l r) w = absurd w
product_pos M (suc levels) d n leaf w = absurd w
product_pos M (suc levels) d n (node b l r) w =
    mul-pos (omega (arith, w.0.from, w.0.below)) (mul-pos (product_pos M levels (suc d) b l w.1) (product_pos M levels (suc d) (n - b) r w.2))

pub shape_product_pos : (N : ℕ) (s : Shape) → IsShape N s → 0 < shape_product N s
unfolding shape_product
shape_product_pos zero s w = omega arith
shape_product_pos (suc n) s w = mul-pos (omega arith) (product_pos s.size (height s.size) 0 (suc n) s.tree w.balanced)
