-- The leaves that the counts of a shape tell, laid out in zeros, are the slots of its sheet.
use Rattle.std.specs.Prelude.{◌≡◌, List, ◌++◌, ℕ, ◌+◌, ◌*◌, ◌^◌, ◌<◌, take, drop, replicate}
use Rattle.std.proofs.Math.Path.{sym}
use Rattle.std.proofs.Common.{ap, ◌∙◌, arith}
use Rattle.std.proofs.Math.ListN.{length}
use Rattle.std.proofs.Math.Seq.{length-take-le}
use Rattle.base.specs.Lists.{total}
use Rattle.base.specs.ListLaws.{drop_replicate}
use Rattle.tree_sizes.specs.Sizes as sizes
use Rattle.tree_sizes.specs.Sizes.{height, leaf_slots}
use Rattle.tree_sizes.proofs.SizeLaws.{leaf_slots_most}
use Rattle.tree_sizes.proofs.Fit.{fit}
use Rattle.tree_rules.specs.Tree.{Balanced, IsShape}
use Rattle.tree_counts.specs.Ranges.{Perfect}
use Rattle.tree_counts.specs.RangeLaws.{balanced_perfect}
use Rattle.tree_counts.specs.Counts.{shape_counts}
use Rattle.tree_counts.specs.ShapeCountLaws.{length_shape_counts, shape_counts_holds}
use Rattle.tree_shapes.specs.Shapes.{shape_at}
use Rattle.tree_shapes.specs.MemberLaws.{shape_size, shape_is}
use Rattle.store_layout.specs.Layout.{leaf_counts, lay_leaves, pad_to, lay_slots}
use Rattle.store_layout.proofs.LayoutLaws.{length_leaf_counts, leaf_counts_total, leaf_counts_fit, length_lay_leaves, lay_leaves_take, holds_leaves}
use Rattle.store_layout.specs.Ready.{LeavesReady}
use Rattle.store_shapes.specs.Ready.{LayReady}

module _ {M N k countRoom slotRoom listRoom : ℕ} (w : LayReady M N k countRoom slotRoom listRoom) where
  is : IsShape N (shape_at N M k)
  is = shape_is N M k w.shape.allowed w.shape.below

  size : (shape_at N M k).size ≡ M
  size = shape_size N M k w.shape.below

  balanced : Balanced M (height M) 0 N (shape_at N M k).tree
  balanced = rw size at is.balanced

  perfect : Perfect (height M) (shape_at N M k).tree
  perfect = balanced_perfect M (height M) 0 N (shape_at N M k).tree balanced

  all_counts : total (leaf_counts N (shape_at N M k).tree) ≡ N
  all_counts = leaf_counts_total M (height M) 0 N (shape_at N M k).tree (fit N M w.shape.allowed) balanced

  pub height_fits : height M < 64
  height_fits = omega (arith, w.shape.shallow)

  -- The values that the code has: the counts of the shape, the slots of a leaf, the height and the number of leaves.
  module _ {counts : List ℕ} {c h leaves : ℕ} (e : counts ≡ shape_counts countRoom N (shape_at N M k)) (ec : c ≡ leaf_slots M) (eh : h ≡ height M) (el : leaves ≡ 2 ^ h) where
    counts_length : length counts ≡ countRoom
    counts_length = ap length e ∙ length_shape_counts countRoom N (shape_at N M k)

    number : leaves ≡ 2 ^ height M
    number = rw (← eh) el

    leaves_are : take leaves (drop leaves counts) ≡ leaf_counts N (shape_at N M k).tree
    leaves_are =
        let one : 1 * 2 ^ height M ≡ 2 ^ height M = omega arith in
        rw (number, e)
        (rw one at (holds_leaves (height M) (shape_counts countRoom N (shape_at N M k)) 1 N (shape_at N M k).tree perfect
        (rw (length_shape_counts countRoom N (shape_at N M k)) w.shape.inside)
        (shape_counts_holds (height M) countRoom N (shape_at N M k) perfect w.shape.inside)))

    pub lay_ready : (slots list : List ℕ) → length slots ≡ slotRoom → length list ≡ listRoom
        → LeavesReady slots 0 c counts leaves leaves list × (total (take leaves (drop leaves counts)) < length list)
    unfolding sizes.slots
    lay_ready slots list es ei = (
      record {
        slots_room = rw (ec, number, es) (omega (arith, w.slots_room));
        counts_room = rw (counts_length, number) (omega (arith, w.shape.inside));
        list_room = rw (leaves_are, all_counts) (omega (arith, ei, w.list_room));
        fit = rw (leaves_are, ec) (leaf_counts_fit M (height M) 0 N (shape_at N M k).tree (fit N M w.shape.allowed) balanced);
        small = rw ec (leaf_slots_most M w.shape.small);
      },
      rw (leaves_are, all_counts) (omega (arith, ei, w.list_room)),
    )

    pub laid : (slots list : List ℕ) → length list ≡ listRoom → slots ≡ replicate slotRoom 0
        → take 0 slots ++ lay_leaves c (take leaves (drop leaves counts)) list ++ drop (0 + c * leaves) slots ≡ lay_slots slotRoom (take N list) (shape_at N M k)
    unfolding lay_slots pad_to
    laid slots list ei zeros =
        let ns = leaf_counts N (shape_at N M k).tree in
        let front : length (take N list) ≡ N = length-take-le N list (omega (arith, ei, w.list_room)) in
        let used : 0 + c * leaves ≡ length (lay_leaves c ns list) =
        sym (length_lay_leaves c ns list ∙ rw (length_leaf_counts (height M) N (shape_at N M k).tree perfect, number) (omega arith)) in
        rw (zeros, leaves_are, used, drop_replicate, size, front, ec, lay_leaves_take (leaf_slots M) ns list N (omega (arith, all_counts)))
