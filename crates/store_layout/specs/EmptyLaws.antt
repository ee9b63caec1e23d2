-- The empty sheet: it has one shape, and it is all zeros.
use Rattle.std.specs.Prelude.{◌≡◌, refl, List, [], ◌∷◌, ℕ, set, replicate}
use Rattle.std.proofs.Common.{◌∙◌, ap₂, arith}
use Rattle.std.proofs.Math.Nat.{sub-zero}
use Rattle.std.proofs.Math.ListN.{length}
use Rattle.base.specs.Cases.{if_le}
use Rattle.base.specs.Lists.{Every}
use Rattle.base.specs.ListLaws.{every_replicate, every_set}
use Rattle.tree_sizes.specs.Sizes.{height, leaf_slots}
use Rattle.tree_sizes.proofs.SizeLaws.{height_small}
use Rattle.tree_rules.specs.Tree.{Tree, leaf, node, Balanced, Shape, IsShape}
use Rattle.tree_counts.specs.Counts.{write_tree, shape_counts}
use Rattle.tree_counts.specs.ShapeCountLaws.{length_shape_counts}
use Rattle.store_layout.specs.declared.Capacity.{Capacity}
use Rattle.store_layout.specs.Leaf.{put_entries, spread}
use Rattle.store_layout.specs.Layout.{leaf_counts, lay_leaves, pad_to, lay_slots, lay_counts, lay_out}
use Rattle.store_order.proofs.CountOrderLaws.{length_count_order, every_count_order}

abbrev empty_shape : Shape
empty_shape = record { size = 0; tree = leaf }

-- No entries have this shape, and no other.
pub empty_shape_lem : IsShape 0 (record { size = 0; tree = leaf })
unfolding Balanced height if_le
empty_shape_lem = record { allowed = record { least = omega arith; most = omega arith }; balanced = tt }

pub one_empty : (s : Shape) → IsShape 0 s → s ≡ record { size = 0; tree = leaf }
unfolding Balanced
one_empty s w =
    let small : s.size ≡ 0 = omega (arith, w.allowed.most) in
    let bare : s.tree ≡ leaf = only_leaf s.size s.tree (rw (height_small s.size (omega arith)) at w.balanced) in
    ap₂ (λ (m : ℕ) (t : Tree). record { size = m; tree = t }) small bare
  where
    only_leaf : (M : ℕ) (t : Tree) → Balanced M 0 0 0 t → t ≡ leaf
    only_leaf M leaf w = refl
    only_leaf M (node b l r) w = absurd w

all_zeros : (xs : List ℕ) → Every (λ x. x ≡ 0) xs → xs ≡ replicate (length xs) 0
unfolding Every
all_zeros [] p = refl
all_zeros (x ∷ xs) p = ap₂ (λ (y : ℕ) (ys : List ℕ). y ∷ ys) p.0 (all_zeros xs p.1)

module _ (cap : Capacity) where
  pub empty_slots : (lay_out cap [] (record { size = 0; tree = leaf })).slots ≡ replicate cap.slots 0
  unfolding lay_out lay_slots pad_to lay_leaves leaf_counts spread put_entries leaf_slots height if_le
  empty_slots = rw (sub-zero cap.slots)

  pub empty_counts : (lay_out cap [] (record { size = 0; tree = leaf })).counts ≡ replicate cap.counts 0
  unfolding lay_out lay_counts shape_counts write_tree
  empty_counts =
      let counts = shape_counts cap.counts 0 empty_shape in
      let same : length (lay_counts cap.counts 0 empty_shape) ≡ cap.counts
      = length_count_order (height 0) counts ∙ length_shape_counts cap.counts 0 empty_shape in
      all_zeros (lay_counts cap.counts 0 empty_shape)
      (every_count_order (height 0) counts (λ x. x ≡ 0)
      (every_set (λ x. x ≡ 0) (set (replicate cap.counts 0) 0 0) 1 0
      (every_set (λ x. x ≡ 0) (replicate cap.counts 0) 0 0 (every_replicate (λ x. x ≡ 0) cap.counts 0 refl) refl) refl)
      refl)
      ∙ rw same
