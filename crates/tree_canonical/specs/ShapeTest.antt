-- The tests of trees and shapes are tests of equality.
use Rattle.std.specs.Prelude.{◌≡◌, refl, true, ℕ, eqb}
use Rattle.std.proofs.Common.{ap₂, arith, eq-eqb, eqb-true}
use Rattle.base.specs.BoolLaws.{and_true_left, and_true_right}
use Rattle.draw_shares.specs.Apart.{EqualityTest}
use Rattle.tree_rules.specs.Tree.{Tree, leaf, node, Shape}
use Rattle.tree_canonical.specs.ShapeShare.{equal_trees, equal_shapes}

tree_itself : (t : Tree) → equal_trees t t ≡ true
unfolding equal_trees
tree_itself leaf = refl
tree_itself (node b l r) = rw (eq-eqb b b refl, tree_itself l, tree_itself r)

tree_sound : (t u : Tree) → equal_trees t u ≡ true → t ≡ u
unfolding equal_trees
tree_sound leaf leaf e = refl
tree_sound leaf (node b l r) e = let z : ◌≡◌ {A = ℕ} 0 1 = cc in absurd (omega arith)
tree_sound (node b l r) leaf e = let z : ◌≡◌ {A = ℕ} 0 1 = cc in absurd (omega arith)
tree_sound (node b l r) (node b' l' r') e =
    let halves = and_true_right (eqb b b') _ e in
    let p : b ≡ b' = eqb-true b b' (and_true_left (eqb b b') _ e) in
    let q : l ≡ l' = tree_sound l l' (and_true_left (equal_trees l l') _ halves) in
    let s : r ≡ r' = tree_sound r r' (and_true_right (equal_trees l l') _ halves) in
    λ i. node (p i) (q i) (s i)

pub shapes_test : EqualityTest equal_shapes
unfolding equal_shapes
shapes_test = record {
  itself = λ s. rw (eq-eqb s.size s.size refl, tree_itself s.tree);
  sound = λ s t e.
      ap₂ {C = Shape} (λ (M : ℕ) (u : Tree). record { size = M; tree = u })
      (eqb-true s.size t.size (and_true_left (eqb s.size t.size) _ e))
      (tree_sound s.tree t.tree (and_true_right (eqb s.size t.size) _ e));
}
