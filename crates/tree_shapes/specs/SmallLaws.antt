-- For up to 42 entries the whole numbers of the shapes fit 2 bytes: no size parameter has more than 12 shapes.
use Rattle.std.specs.Prelude.{◌≡◌, refl, Bool, true, ◌&&◌, List, [], ◌∷◌, ℕ, zero, suc, ◌^◌, ◌≤◌, ◌<◌, leb}
use Rattle.std.proofs.Common.{⊎_elim, arith, mul-le-mul, leb-true}
use Rattle.base.specs.Cases as cases
use Rattle.base.specs.CaseLaws.{eq_or_ne}
use Rattle.base.specs.BoolLaws.{and_true_left, and_true_right}
use Rattle.base.specs.Lists.{Every}
use Rattle.tree_sizes.specs.Sizes as sizes
use Rattle.tree_rules.specs.Tree.{Shape, IsShape}
use Rattle.tree_canonical.specs.ShapeShare.{shape_product}
use Rattle.tree_shapes.specs.Shapes.{shapes, size_count, tree_count, shape_count}
use Rattle.tree_shapes.specs.ShapesLaws.{shapes_are}
use Rattle.tree_shapes.specs.CountLaws.{shape_number}

-- f is at most `most` at every number below k: a test that is computed.
unfoldable pub most_below : (ℕ → ℕ) → ℕ → ℕ → Bool
most_below f most zero = true
most_below f most (suc k) = leb (f k) most && most_below f most k

pub most_below_lem : (f : ℕ → ℕ) (most k : ℕ) → most_below f most k ≡ true → (i : ℕ) → i < k → f i ≤ most
unfolding most_below
most_below_lem f most zero e i l = absurd (omega arith)
most_below_lem f most (suc k) e i l =
    ⊎_elim
    (λ (same : i ≡ k). rw same (leb-true (f k) most (and_true_left (leb (f k) most) _ e)))
    (λ other. most_below_lem f most k (and_true_right (leb (f k) most) _ e) i (omega arith))
    (eq_or_ne i k)

counts_computed : most_below shape_count 12 84 ≡ true
unfolding most_below shape_count tree_count cases.if_le sizes.height sizes.doublings sizes.digits sizes.candidates sizes.half_candidates sizes.ceil_div
counts_computed = refl

-- No size parameter of up to 42 entries has more than 12 shapes.
pub counts_few : (M : ℕ) → M ≤ 83 → shape_count M ≤ 12
counts_few M l = most_below_lem shape_count 12 84 counts_computed M (omega arith)

sizes_few : (N : ℕ) → N ≤ 42 → size_count N ≤ 42
unfolding size_count
sizes_few zero l = omega arith
sizes_few (suc n) l = l

pub number_small : (N : ℕ) (s : Shape) → N ≤ 42 → IsShape N s → shape_product N s < 2 ^ 16
number_small N s l w =
    rw (shape_number N s w)
    (omega (arith, mul-le-mul {n₁ = size_count N} {m₁ = shape_count s.size} {n₂ = 42} {m₂ = 12} (sizes_few N l) (counts_few s.size (omega (arith, w.allowed.most)))))

every_weaken : {A : Type 0} (P Q : A → Type 0) → ((x : A) → P x → Q x) → (xs : List A) → Every P xs → Every Q xs
unfolding Every
every_weaken P Q f [] h = tt
every_weaken P Q f (x ∷ xs) h = (f x h.0, every_weaken P Q f xs h.1)

-- Whole numbers fit 2 bytes for N ≤ 42.
pub numbers_small : (N : ℕ) → N ≤ 42 → Every (λ s. shape_product N s < 2 ^ 16) (shapes N)
numbers_small N l = every_weaken (IsShape N) _ (λ s w. number_small N s l w) (shapes N) (shapes_are N)
