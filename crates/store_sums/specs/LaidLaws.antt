-- The numbers of the ranges of a list with a shape are what the slots of its layout give, and no other words are: its counts among them.
use Rattle.std.specs.Prelude.{◌≡◌, List, ◌++◌, get_or, take, drop, replicate}
use Rattle.std.proofs.Math.Path.{refl, ap}
use Rattle.std.proofs.Common.{sym, ◌∙◌, mul-zero, length-drop, length-take-le, take_all, ext_get_or}
use Rattle.std.proofs.Math.Logic.{⊎_elim}
use Prim.Native.Nat.{ℕ, zero, suc, ◌+◌, ◌-◌, ◌*◌, ◌^◌, ◌≤◌, ◌<◌}
use Rattle.std.proofs.Math.Nat.{mul-le-mul_left, pow-succ'}
use native.Mathlib.Omega.{arith}
use Rattle.std.proofs.Math.ListN.{length}
use Rattle.std.proofs.lemmas.List.{take-append-le, drop-append-le}
use Rattle.std.proofs.Math.Seq.{drop-append-add}
use Rattle.base.specs.Lists.{Every}
use Rattle.base.specs.CaseLaws.{lt_or_ge}
use Rattle.base.specs.ListLaws.{every_take, every_drop}
use Rattle.tree_sizes.specs.Sizes.{height, leaf_slots, candidates, Fits}
use Rattle.tree_sizes.proofs.SizeLaws.{candidate_below}
use Rattle.tree_sizes.proofs.Fit.{fit, fits_count, fits_halves}
use Rattle.tree_rules.specs.Tree.{Tree, leaf, node, Balanced, Shape}
use Rattle.tree_counts.specs.Ranges.{Below}
use Rattle.tree_counts.specs.RangeLaws.{balanced_perfect, below_only, below_halves}
use Rattle.tree_counts.specs.Counts.{Holds, shape_counts}
use Rattle.tree_counts.specs.ShapeCountLaws.{shape_counts_holds, shape_counts_size, shape_counts_unused}
use Rattle.store_layout.specs.declared.Capacity.{Capacity}
use Rattle.store_layout.specs.Leaf.{nonzero}
use Rattle.store_layout.specs.Layout.{leaf_counts, lay_leaves, pad_to, lay_slots}
use Rattle.store_layout.specs.Sheet.{IsContents}
use Rattle.store_layout.specs.Room.{Roomy}
use Rattle.store_layout.proofs.LayoutLaws.{length_leaf_counts, leaf_counts_total, leaf_counts_fit, length_lay_leaves, lay_leaves_node, nonzero_lay_leaves}
use Rattle.store_sums.specs.Range.{IsRange, range_slots}
use Rattle.store_sums.specs.Numbers.{number_at, NumbersIn}
use Rattle.store_sums.specs.IsRangeLaws.{below_from, below_end, range_below, range_from, range_end, number_range}

-- ---- the slots of a range, in leaves of s slots

part_front : (from n : ℕ) (xs ys : List ℕ) → from + n ≤ length xs → take n (drop from (xs ++ ys)) ≡ take n (drop from xs)
part_front from n xs ys h =
    rw (drop-append-le from xs ys (omega arith)) (take-append-le n (drop from xs) ys (omega (arith, length-drop from xs)))

-- f tells what is written of the entries of a range: the number of the scoring ones, or of all.
module _ (f : List ℕ → ℕ) where
  -- That number stands at the number k, and at those of the ranges below it, for a range with these entries and this tree.
  unfoldable pub HoldsOf : List ℕ → ℕ → List ℕ → Tree → Type 0
  HoldsOf words k entries leaf = get_or words k 0 ≡ f entries
  HoldsOf words k entries (node b l r) =
      (get_or words k 0 ≡ f entries) × HoldsOf words (2 * k) (take b entries) l × HoldsOf words (2 * k + 1) (drop b entries) r

  module _ (s : ℕ) (words : List ℕ) where
    -- These are the slots of the range k, `levels` above the leaves. At the number of each range in it, which is `up` above the leaves and begins
    -- behind i leaves of the range k, stands the number for the entries in its slots.
    unfoldable Told : ℕ → ℕ → List ℕ → Type 0
    Told levels k slots =
        (d j up i : ℕ) → up + d ≡ levels → Below k d j → j * 2 ^ up ≡ k * 2 ^ levels + i
        → get_or words j 0 ≡ f (nonzero (take (s * 2 ^ up) (drop (s * i) slots)))

    module _ (levels k : ℕ) (slots : List ℕ) (size : length slots ≡ s * 2 ^ levels) (own : get_or words k 0 ≡ f (nonzero slots)) where
      told_here : (j up i : ℕ) → up + 0 ≡ levels → Below k 0 j → j * 2 ^ up ≡ k * 2 ^ levels + i
          → get_or words j 0 ≡ f (nonzero (take (s * 2 ^ up) (drop (s * i) slots)))
      told_here j up i depth w place =
          let same : up ≡ levels = omega arith in
          let only : j ≡ k = below_only k j w in
          let first : i ≡ 0 = omega (arith, ap (λ (x : ℕ). k * 2 ^ x) same, ap (λ (x : ℕ). x * 2 ^ up) only) in
          rw (only, first, mul-zero s, same, take_all (s * 2 ^ levels) slots (omega arith)) own

    told_leaf : (k : ℕ) (slots : List ℕ) → length slots ≡ s * 2 ^ 0 → get_or words k 0 ≡ f (nonzero slots) → Told 0 k slots
    unfolding Told
    told_leaf k slots size own zero j up i depth w place = told_here 0 k slots size own j up i depth w place
    told_leaf k slots size own (suc d) j up i depth w place = absurd (omega arith)

    told_node : (levels k : ℕ) (left right : List ℕ) → length left ≡ s * 2 ^ levels → length (left ++ right) ≡ s * 2 ^ suc levels
        → get_or words k 0 ≡ f (nonzero (left ++ right)) → Told levels (2 * k) left → Told levels (2 * k + 1) right → Told (suc levels) k (left ++ right)
    unfolding Told
    told_node levels k left right half size own in_left in_right zero j up i depth w place =
        told_here (suc levels) k (left ++ right) size own j up i depth w place
    told_node levels k left right half size own in_left in_right (suc d) j up i depth w place =
        let below : up + d ≡ levels = omega arith in
        let at : j * 2 ^ up ≡ k * (2 * 2 ^ levels) + i = rw (pow-succ' 2 levels) at place in
        ⊎_elim
        (λ (u : Below (2 * k) d j).
        let end : (j + 1) * 2 ^ up ≤ (2 * k + 1) * 2 ^ levels = rw below at (below_end (2 * k) d j up u) in
        let inside : i + 2 ^ up ≤ 2 ^ levels = omega arith in
        rw (part_front (s * i) (s * 2 ^ up) left right (omega (arith, mul-le-mul_left s inside)))
        (in_left d j up i below u (omega arith)))
        (λ (u : Below (2 * k + 1) d j).
        let from : (2 * k + 1) * 2 ^ levels ≤ j * 2 ^ up = rw below at (below_from (2 * k + 1) d j up u) in
        let after : i ≡ 2 ^ levels + (i - 2 ^ levels) = omega arith in
        let behind : s * i ≡ length left + s * (i - 2 ^ levels) = ap (λ (x : ℕ). s * x) after ∙ omega arith in
        rw (behind, drop-append-add left right (s * (i - 2 ^ levels))) (in_right d j up (i - 2 ^ levels) below u (omega arith)))
        (below_halves k d j w)

module _ (M : ℕ) where
  -- The leaves of a range with n entries.
  module _ (levels d n : ℕ) (t : Tree) (entries : List ℕ) (fits : Fits M levels d n) (w : Balanced M levels d n t) where
    pub range_size : length (lay_leaves (leaf_slots M) (leaf_counts n t) entries) ≡ leaf_slots M * 2 ^ levels
    range_size =
        length_lay_leaves (leaf_slots M) (leaf_counts n t) entries
        ∙ rw (length_leaf_counts levels n t (balanced_perfect M levels d n t w))

    pub range_entries : length entries ≡ n → Every (λ e. 0 < e) entries → nonzero (lay_leaves (leaf_slots M) (leaf_counts n t) entries) ≡ entries
    range_entries number pos =
        nonzero_lay_leaves (leaf_slots M) (leaf_counts n t) entries (leaf_counts_total M levels d n t fits w ∙ sym number)
        (leaf_counts_fit M levels d n t fits w) pos

  module _ (f : List ℕ → ℕ) (words : List ℕ) where
    range_told : (levels d k n : ℕ) (t : Tree) (entries : List ℕ) → Fits M levels d n → Balanced M levels d n t → length entries ≡ n
        → Every (λ e. 0 < e) entries → HoldsOf f words k entries t
        → Told f (leaf_slots M) words levels k (lay_leaves (leaf_slots M) (leaf_counts n t) entries)
    unfolding Balanced HoldsOf
    range_told zero d k n leaf entries fits w number pos holds =
        told_leaf f (leaf_slots M) words k _ (range_size 0 d n leaf entries fits w)
        (holds ∙ ap f (sym (range_entries 0 d n leaf entries fits w number pos)))
    range_told (suc levels) d k n (node b l r) entries fits w number pos holds =
        let s = leaf_slots M in
        let halves = fits_halves M levels d n fits b w.0 in
        let within : b < n = candidate_below n (candidates M d) b (fits_count M levels d n fits) w.0 in
        let joined = lay_leaves_node s n b l r entries (leaf_counts_total M levels (suc d) b l halves.0 w.1) in
        let left = lay_leaves s (leaf_counts b l) (take b entries) in
        let right = lay_leaves s (leaf_counts (n - b) r) (drop b entries) in
        let whole = range_entries (suc levels) d n (node b l r) entries fits w number pos in
        rw joined
        (told_node f s words levels k left right (range_size levels (suc d) b l (take b entries) halves.0 w.1)
        (rw joined at (range_size (suc levels) d n (node b l r) entries fits w))
        (holds.0 ∙ ap f (sym (rw joined at whole)))
        (range_told levels (suc d) (2 * k) b l (take b entries) halves.0 w.1 (length-take-le b entries (omega arith))
        (every_take (λ e. 0 < e) b entries pos) holds.1)
        (range_told levels (suc d) (2 * k + 1) (n - b) r (drop b entries) halves.1 w.2 (length-drop b entries ∙ rw number)
        (every_drop (λ e. 0 < e) b entries pos) holds.2))
    range_told zero d k n (node b l r) entries fits w number pos holds = elim w [ ]
    range_told (suc levels) d k n leaf entries fits w number pos holds = elim w [ ]

-- The counts are such numbers.
counts_of : (M levels d n : ℕ) (words : List ℕ) (k : ℕ) (t : Tree) (entries : List ℕ) → Fits M levels d n → Balanced M levels d n t → length entries ≡ n
    → Holds words k n t → HoldsOf length words k entries t
unfolding HoldsOf Holds Balanced
counts_of M zero d n words k leaf entries fits w number holds = holds ∙ sym number
counts_of M (suc levels) d n words k (node b l r) entries fits w number holds =
    let halves = fits_halves M levels d n fits b w.0 in
    let within : b < n = candidate_below n (candidates M d) b (fits_count M levels d n fits) w.0 in (
      holds.0 ∙ sym number,
      counts_of M levels (suc d) b words (2 * k) l (take b entries) halves.0 w.1 (length-take-le b entries (omega arith)) holds.1,
      counts_of M levels (suc d) (n - b) words (2 * k + 1) r (drop b entries) halves.1 w.2 (length-drop b entries ∙ rw number) holds.2,
    )
counts_of M zero d n words k (node b l r) entries fits w number holds = elim w [ ]
counts_of M (suc levels) d n words k leaf entries fits w number holds = elim w [ ]

-- ---- the slots of a sheet

module _ (cap : Capacity) (roomy : Roomy cap) (list : List ℕ) (s : Shape) (w : IsContents cap list s) where
  -- Such words are the numbers of all ranges.
  pub laid_range : (f : List ℕ → ℕ) (words : List ℕ) → HoldsOf f words 1 list s.tree → (levels k : ℕ) → IsRange s.size levels k
      → get_or words k 0 ≡ number_at f s.size (lay_slots cap.slots list s) levels k
  unfolding number_at Told range_slots lay_slots pad_to
  laid_range f words holds levels k range =
      let M = s.size in
      let h = height M in
      let N = length list in
      let fits : Fits M h 0 N = fit N M w.shape.allowed in
      let leaves = lay_leaves (leaf_slots M) (leaf_counts N s.tree) list in
      let i = k * 2 ^ levels - 2 ^ h in
      let place : k * 2 ^ levels ≡ 1 * 2 ^ h + i = omega (arith, range_from M levels k range) in
      let inside : i + 2 ^ levels ≤ 2 ^ h = omega (arith, range_end M levels k range) in
      rw (part_front (leaf_slots M * i) (leaf_slots M * 2 ^ levels) leaves (replicate (cap.slots - length leaves) 0)
      (omega (arith, mul-le-mul_left (leaf_slots M) inside, range_size M h 0 N s.tree list fits w.shape.balanced)))
      (range_told M f words h 0 1 N s.tree list fits w.shape.balanced refl w.entries holds
      (h - levels) k levels i (omega (arith, range.inside)) (range_below M levels k range) place)

  -- The counts by range number are the numbers of entries in the slots, and the size parameter at number 0.
  pub counts_laid : NumbersIn length s.size s.size (lay_slots cap.slots list s) (shape_counts cap.counts (length list) s)
  counts_laid =
      let M = s.size in
      let h = height M in
      let N = length list in
      let counts = shape_counts cap.counts N s in
      let balanced = w.shape.balanced in
      let fits = roomy.counts_fit N M w.room w.shape.allowed in
      let perfect = balanced_perfect M h 0 N s.tree balanced in
      let holds = shape_counts_holds h cap.counts N s perfect fits in
      record {
        zero = shape_counts_size h cap.counts N s perfect fits;
        ranges = laid_range length counts (counts_of M h 0 N counts 1 s.tree list (fit N M w.shape.allowed) balanced refl holds);
        unused = shape_counts_unused h cap.counts N s perfect fits;
      }

-- ---- no other words are the numbers

pub numbers_only : (measure : List ℕ → ℕ) (start M : ℕ) (slots xs ys : List ℕ) → NumbersIn measure start M slots xs → NumbersIn measure start M slots ys
    → length xs ≡ length ys → xs ≡ ys
numbers_only measure start M slots xs ys v w same = ext_get_or 0 xs ys same (λ k h. at k)
  where
    at : (k : ℕ) → get_or xs k 0 ≡ get_or ys k 0
    at zero = v.zero ∙ sym w.zero
    at (suc k) =
        ⊎_elim
        (λ (l : suc k < 2 * 2 ^ height M).
        let range = number_range M (suc k) (omega arith) l in v.ranges range.0 (suc k) range.1 ∙ sym (w.ranges range.0 (suc k) range.1))
        (λ (l : 2 * 2 ^ height M ≤ suc k). v.unused (suc k) l ∙ sym (w.unused (suc k) l))
        (lt_or_ge (suc k) (2 * 2 ^ height M))
