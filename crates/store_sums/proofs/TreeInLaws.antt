-- Slots and size parameter of a sheet fix its list and its shape.
use Rattle.std.specs.Prelude.{◌≡◌, take, drop, replicate}
use Rattle.std.proofs.Math.Path.{refl, sym, ap}
use Rattle.std.proofs.Common.{◌∙◌, arith, length-drop}
use mathlib.Core.List.{List, [], ◌++◌, append_assoc, append-nil}
use Prim.Native.Nat.{ℕ, zero, suc, ◌-◌, ◌*◌, ◌^◌, ◌<◌}
use Rattle.std.proofs.Math.ListN.{length}
use Rattle.std.proofs.Math.Seq.{length-take-le, take-append_seam, drop-append_seam}
use Rattle.base.specs.Lists.{Every}
use Rattle.base.specs.ListLaws.{every_take, every_drop}
use Rattle.tree_sizes.specs.Sizes.{height, leaf_slots, candidates, Fits}
use Rattle.tree_sizes.proofs.SizeLaws.{candidate_below}
use Rattle.tree_sizes.proofs.Fit.{fit, fits_count, fits_halves}
use Rattle.tree_rules.specs.Tree.{Tree, leaf, node, Balanced, Shape}
use Rattle.store_layout.specs.declared.Capacity.{Capacity}
use Rattle.store_layout.specs.Layout.{leaf_counts, lay_leaves, pad_to, lay_slots, lay_out}
use Rattle.store_layout.specs.Sheet.{IsContents}
use Rattle.store_layout.specs.Decode.{list_of}
use Rattle.store_layout.proofs.LayoutLaws.{leaf_counts_total, lay_leaves_node}
use Rattle.store_layout.proofs.SheetLaws.{list_of_lay_out}
use Rattle.store_sums.specs.LaidLaws.{range_size, range_entries}
use Rattle.store_sums.specs.TreeIn.{tree_in, contents_in}

module _ (M : ℕ) where
  -- The slots of a range that is laid out, whatever stands behind them, give its tree.
  tree_laid : (levels d n : ℕ) (t : Tree) (entries behind : List ℕ) → Fits M levels d n → Balanced M levels d n t → length entries ≡ n
      → Every (λ e. 0 < e) entries → tree_in (leaf_slots M) levels (lay_leaves (leaf_slots M) (leaf_counts n t) entries ++ behind) ≡ t
  unfolding tree_in Balanced
  tree_laid zero d n leaf entries behind fits w number pos = refl
  tree_laid (suc levels) d n (node b l r) entries behind fits w number pos =
      let s = leaf_slots M in
      let halves = fits_halves M levels d n fits b w.0 in
      let within : b < n = candidate_below n (candidates M d) b (fits_count M levels d n fits) w.0 in
      let left = lay_leaves s (leaf_counts b l) (take b entries) in
      let right = lay_leaves s (leaf_counts (n - b) r) (drop b entries) in
      let front_length : length (take b entries) ≡ b = length-take-le b entries (omega arith) in
      let front_entries = every_take (λ e. 0 < e) b entries pos in
      let size : s * 2 ^ levels ≡ length left = sym (range_size M levels (suc d) b l (take b entries) halves.0 w.1) in
      let laid : lay_leaves s (leaf_counts n (node b l r)) entries ++ behind ≡ left ++ (right ++ behind)
      = ap (λ (xs : List ℕ). xs ++ behind) (lay_leaves_node s n b l r entries (leaf_counts_total M levels (suc d) b l halves.0 w.1)) ∙ append_assoc left right behind in
      rw (laid, size, take-append_seam left (right ++ behind), drop-append_seam left (right ++ behind))
      (cc (
        ap length (range_entries M levels (suc d) b l (take b entries) halves.0 w.1 front_length front_entries) ∙ front_length,
        ap (tree_in s levels) (sym (append-nil left)) ∙ tree_laid levels (suc d) b l (take b entries) [] halves.0 w.1 front_length front_entries,
        tree_laid levels (suc d) (n - b) r (drop b entries) behind halves.1 w.2 (length-drop b entries ∙ rw number) (every_drop (λ e. 0 < e) b entries pos),
      ))
  tree_laid zero d n (node b l r) entries behind fits w number pos = elim w [ ]
  tree_laid (suc levels) d n leaf entries behind fits w number pos = elim w [ ]

-- A sheet has the contents that its slots and its size parameter give.
pub contents_laid : (cap : Capacity) (list : List ℕ) (s : Shape) → IsContents cap list s
    → contents_in (lay_slots cap.slots list s) s.size ≡ record { list = list; shape = s }
unfolding contents_in lay_out lay_slots pad_to list_of
contents_laid cap list s w =
    let M = s.size in
    let N = length list in
    let leaves = lay_leaves (leaf_slots M) (leaf_counts N s.tree) list in
    let tree = tree_laid M (height M) 0 N s.tree list (replicate (cap.slots - length leaves) 0) (fit N M w.shape.allowed) w.shape.balanced refl w.entries in
    rw (tree, list_of_lay_out cap list s w)
