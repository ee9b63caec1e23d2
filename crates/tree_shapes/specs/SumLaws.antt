-- The shares of all shapes of N entries sum to 1.
use Rattle.std.specs.Prelude.{◌≡◌, refl, length}
use Rattle.std.proofs.Math.Path.{sym}
use Rattle.std.proofs.Common.{◌∙◌, arith}
use mathlib.Core.List.{List, [], ◌∷◌, ◌++◌, map}
use Prim.Native.Nat.{ℕ, zero, suc, ◌+◌, ◌*◌, ◌<◌}
use Rattle.base.specs.Lists.{Every}
use Rattle.draw_shares.specs.Fraction.{◌≐◌, whole, unit}
use Rattle.draw_shares.specs.Rational.{Rational, ⟦◌⟧, ◌⊕◌, ◌⊗◌, nat, inv, plus_⊕, crosswise}
use Rattle.draw_shares.specs.RationalLaws.{ring, zero_add, zero_mul, add_assoc, nat_suc, inv_mul, nat_inv, mul_one, mul_left_comm}
use Rattle.draw_shares.specs.Same.{sum}
use Rattle.draw_shares.specs.Sum.{sum_zero, sum_suc, sum_cong, sum_const}
use Rattle.draw_shares.specs.Course.{concat_below}
use Rattle.tree_canonical.specs.ShapeShare.{shape_product}
use Rattle.tree_shapes.specs.Shapes.{shapes_of_size, size_count, shapes, shape_count, sum_of_units}
use Rattle.tree_shapes.specs.ShapesLaws.{size_allowed, every_size}
use Rattle.tree_shapes.specs.CountLaws.{shapes_count, shape_number, shape_count_pos}

-- The sum as a rational number.
abbrev units : List ℕ → Rational
units ns = ⟦ sum_of_units ns ⟧

units_none : units [] ≡ nat 0
unfolding sum_of_units nat
units_none = refl

units_more : (n : ℕ) (ns : List ℕ) → units (n ∷ ns) ≡ inv n ⊕ units ns
unfolding sum_of_units inv
units_more n ns = plus_⊕ (unit n) (sum_of_units ns)

module _ {A : Type 0} (f : A → ℕ) where
  units_append : (xs ys : List A) → units (map f (xs ++ ys)) ≡ units (map f xs) ⊕ units (map f ys)
  units_append [] ys = sym (rw units_none (zero_add (units (map f ys))))
  units_append (x ∷ xs) ys =
      units_more (f x) (map f (xs ++ ys)) ∙ rw (units_append xs ys, units_more (f x) (map f xs)) (sym (add_assoc _ _ _))

  units_concat : (m : ℕ) (h : ℕ → List A) → units (map f (concat_below m h)) ≡ sum m (λ i. units (map f (h i)))
  unfolding concat_below
  units_concat zero h = units_none ∙ sym (sum_zero (λ i. units (map f (h i))))
  units_concat (suc m) h =
      units_append (concat_below m h) (h m) ∙ rw (units_concat m h) (sym (sum_suc m (λ i. units (map f (h i)))))

  -- equal numbers
  units_same : (P : A → Type 0) (w : ℕ) → ((x : A) → P x → f x ≡ w) → (xs : List A) → Every P xs → units (map f xs) ≡ nat (length xs) ⊗ inv w
  unfolding Every
  units_same P w e [] h = units_none ∙ sym (zero_mul (inv w))
  units_same P w e (x ∷ xs) h =
      units_more (f x) (map f xs) ∙ rw (e x h.0, units_same P w e xs h.1, nat_suc (length xs)) (simp ring)

-- The shapes of one size parameter have together the share 1 over the number of size parameters.
size_sum : (N i : ℕ) → i < size_count N → units (map (shape_product N) (shapes_of_size N (N + i))) ≡ inv (size_count N)
size_sum N i l =
    let M = N + i in
    let k = shape_count M in
    let S = size_count N in
    let a = size_allowed N i l in
    units_same (shape_product N) (λ s. shape_product N s ≡ S * k) (S * k) (λ s e. e) (shapes_of_size N M)
    (every_size (λ s. shape_product N s ≡ S * k) N M (λ t w. shape_number N (record { size = M; tree = t }) (record { allowed = a; balanced = w })))
    ∙ rw (shapes_count N M, inv_mul S k, mul_left_comm (nat k) (inv S) (inv k), nat_inv k (shape_count_pos N M a)) (mul_one (inv S))

-- The shares of all shapes of N entries sum to 1.
pub shares_sum : (N : ℕ) → sum_of_units (map (shape_product N) (shapes N)) ≐ whole 1
unfolding shapes nat size_count
shares_sum N =
    crosswise (sum_of_units (map (shape_product N) (shapes N))) (whole 1)
    (units_concat (shape_product N) (size_count N) (λ i. shapes_of_size N (N + i))
    ∙ sum_cong (size_count N) (size_sum N)
    ∙ sum_const (size_count N) (inv (size_count N))
    ∙ nat_inv (size_count N) (some_size N))
  where
    some_size : (N : ℕ) → 0 < size_count N
    some_size zero = omega arith
    some_size (suc n) = omega arith
