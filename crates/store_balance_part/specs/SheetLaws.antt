-- In a sheet of more than one leaf every leaf has an entry; so the third slice of a sheet is kept by a change of a part.
use Rattle.std.specs.Prelude.{◌≡◌, List, ℕ, zero, suc, ◌+◌, ◌-◌, ◌*◌, ◌^◌, ◌≤◌, ◌<◌, get_or, take, drop}
use Rattle.std.proofs.Common.{sym, ap, ◌∙◌, ⊎_elim}
use Rattle.std.proofs.Math.Nat.{sub-zero}
use native.Mathlib.Omega.{arith}
use Rattle.std.proofs.Math.ListN.{length}
use Rattle.base.specs.Lists.{Every}
use Rattle.base.specs.CaseLaws.{le_or_gt}
use Rattle.base.specs.ListLaws.{every_append, every_get_d, part_at}
use Rattle.tree_sizes.specs.Sizes.{height, Fits}
use Rattle.tree_sizes.proofs.SizeLaws.{height_small}
use Rattle.tree_sizes.proofs.Fit.{fit, fits_halves, fits_entry}
use Rattle.tree_rules.specs.Tree.{Tree, leaf, node, Balanced, Shape}
use Rattle.tree_counts.specs.declared.Part.{Part}
use Rattle.tree_counts.specs.RangeLaws.{balanced_perfect}
use Rattle.tree_counts.specs.Counts.{shape_counts}
use Rattle.tree_counts.specs.ShapeCountLaws.{length_shape_counts, shape_counts_holds}
use Rattle.store_layout.specs.declared.Capacity.{Capacity}
use Rattle.store_layout.specs.Layout.{leaf_counts, lay_slots}
use Rattle.store_layout.specs.Sheet.{IsContents}
use Rattle.store_layout.specs.Room.{Roomy}
use Rattle.store_layout.proofs.LayoutLaws.{length_leaf_counts, holds_leaves}
use Rattle.store_rows.specs.Row.{Row}
use Rattle.store_sums.specs.Range.{IsRange}
use Rattle.store_sums.specs.LaidLaws.{counts_laid}
use Rattle.store_sums.specs.SumLaws.{number_leaf}
use Rattle.store_balance.specs.Balance.{lay_balance}
use Rattle.store_balance.specs.BalanceInLaws.{balance_laid}
use Rattle.store_part.specs.Plan.{part_from, part_length, first_leaf, last_leaf, PartIn}
use Rattle.store_part.specs.LeavesLaws.{part_leaves}
use Rattle.store_balance_part.specs.Update.{HasEntry, BalanceBut}
use Rattle.store_balance_part.specs.KeptLaws.{balance_kept}

-- For M > 64 each leaf has an entry.
leaf_counts_some : (M levels d n : ℕ) (t : Tree) → 64 < M → Fits M levels d n → Balanced M levels d n t → Every (λ c. 0 < c) (leaf_counts n t)
unfolding Balanced leaf_counts Every
leaf_counts_some M zero d n leaf large fits w = (fits_entry M 0 d n fits large, tt)
leaf_counts_some M (suc levels) d n (node b l r) large fits w =
    let halves = fits_halves M levels d n fits b w.0 in
    every_append (λ c. 0 < c) (leaf_counts b l) (leaf_counts (n - b) r) (leaf_counts_some M levels (suc d) b l large halves.0 w.1)
    (leaf_counts_some M levels (suc d) (n - b) r large halves.1 w.2)
leaf_counts_some M zero d n (node b l r) large fits w = elim w [ ]
leaf_counts_some M (suc levels) d n leaf large fits w = elim w [ ]

-- Where a leaf stands before some others, the sheet has more than one.
leaves_more : (h : ℕ) {first last : ℕ} (j : ℕ) → Row h first last → 2 ^ h + j < first → 0 < h
leaves_more zero j r less = absurd (omega (arith, r.order, r.before))
leaves_more (suc h) j r less = omega arith

module _ (cap : Capacity) (roomy : Roomy cap) (list : List ℕ) (s : Shape) (w : IsContents cap list s) where
  abbrev M : ℕ
  M = s.size

  abbrev h : ℕ
  h = height M

  abbrev counts : List ℕ
  counts = shape_counts cap.counts (length list) s

  module _ (more : 0 < h) (j : ℕ) (inside : j < 2 ^ h) where
    count_some : 0 < get_or counts (2 ^ h + j) 0
    count_some =
        let n = length list in
        let large : 64 < M = ⊎_elim (λ (few : M ≤ 64). absurd (omega (arith, height_small M few))) (λ (m : 64 < M). m) (le_or_gt M 64) in
        let perfect = balanced_perfect M h 0 n s.tree w.shape.balanced in
        let room = roomy.counts_fit n M w.room w.shape.allowed in
        let front : 1 * 2 ^ h + j ≡ 2 ^ h + j = omega arith in
        let laid = holds_leaves h counts 1 n s.tree perfect (omega (arith, room, length_shape_counts cap.counts n s))
        (shape_counts_holds h cap.counts n s perfect room) in
        let at : get_or (leaf_counts n s.tree) j 0 ≡ get_or counts (2 ^ h + j) 0
        = ap (λ (xs : List ℕ). get_or xs j 0) (sym laid) ∙ part_at counts (1 * 2 ^ h) (2 ^ h) j 0 inside ∙ ap (λ (i : ℕ). get_or counts i 0) front in
        let some = leaf_counts_some M h 0 n s.tree large (fit n M w.shape.allowed) w.shape.balanced in
        rw at at (every_get_d (λ c. 0 < c) (leaf_counts n s.tree) j 0 some (omega (arith, length_leaf_counts h n s.tree perfect)))

    -- In a sheet of more than one leaf every leaf has an entry.
    pub leaf_entry : HasEntry M (lay_slots cap.slots list s) j
    unfolding HasEntry
    leaf_entry =
        let k = 2 ^ h + j in
        let behind : k - 2 ^ h ≡ j = omega arith in
        let range : IsRange M 0 k
        = record { inside = omega arith; from = rw (sub-zero h) (omega arith); before = rw (sub-zero h) (omega arith) } in
        let number = (counts_laid cap roomy list s w).ranges 0 k range in
        rw behind at (rw (number ∙ number_leaf length M (lay_slots cap.slots list s) k) at count_some)

  -- A change of a part alone keeps the third slice of the sheet, but perhaps at the ranges whose right half begins with a leaf of the part.
  pub sheet_kept : {part : Part} → PartIn M part → {slots' words : List ℕ}
      → take (part_from M part) (lay_slots cap.slots list s) ≡ take (part_from M part) slots'
      → drop (part_from M part + part_length M part) (lay_slots cap.slots list s) ≡ drop (part_from M part + part_length M part) slots'
      → words ≡ lay_balance cap.counts list s → BalanceBut M slots' (first_leaf M part) (last_leaf M part + 1) words
  sheet_kept {part} p {slots'} before behind is =
      balance_kept p (lay_slots cap.slots list s) slots' before behind
      (λ j less. leaf_entry (leaves_more h j (part_leaves p) less) j (omega (arith, (part_leaves p).order, (part_leaves p).before)))
      cap.counts (is ∙ sym (balance_laid cap roomy list s w))
