-- The tallies follow from the list and the counts: the tally of each range is the number of scoring boats among its entries, and two sheets with the
-- same list and the same counts have the same tallies.
use Rattle.std.specs.Prelude.{◌≡◌, get_or}
use Rattle.std.proofs.Math.Path.{sym, ap}
use Rattle.std.proofs.Common.{◌∙◌, not-suc-le-zero, one-mul, pow_pos, take-add, take_all, drop-drop}
use mathlib.Core.List.{List, []}
use Rattle.std.proofs.Math.Logic.{⊎_elim}
use Prim.Native.Nat.{ℕ, zero, suc, ◌+◌, ◌-◌, ◌*◌, ◌^◌, ◌≤◌, ◌<◌}
use Rattle.std.proofs.Math.Nat.{add-zero, mul-le-mul_left, pow-succ', zero-add}
use native.Mathlib.Omega.{arith}
use Rattle.std.proofs.Math.ListN.{length, take, drop}
use Rattle.std.proofs.Math.Seq.{take-take, drop-cons}
use Rattle.base.specs.Lists.{total}
use Rattle.base.specs.ListLaws.{drop_take, total_append}
use Rattle.tree_sizes.specs.Sizes.{height, candidates, Fits}
use Rattle.tree_sizes.proofs.SizeLaws.{candidate_below}
use Rattle.tree_sizes.proofs.Fit.{fit, fits_count, fits_halves}
use Rattle.tree_rules.specs.Tree.{Tree, leaf, node, Balanced, Shape}
use Rattle.tree_counts.specs.Ranges.{Below}
use Rattle.tree_counts.specs.RangeLaws.{balanced_perfect, below_only, below_halves}
use Rattle.tree_counts.specs.Counts.{Holds, shape_counts}
use Rattle.tree_counts.specs.CountLaws.{holds_count}
use Rattle.tree_counts.specs.ShapeCountLaws.{length_shape_counts, shape_counts_holds}
use Rattle.store_layout.specs.declared.Capacity.{Capacity}
use Rattle.store_layout.specs.Layout.{lay_counts, lay_out}
use Rattle.store_layout.specs.Sheet.{IsContents}
use Rattle.store_layout.specs.Decode.{numbered, shape_of}
use Rattle.store_layout.specs.Room.{Roomy}
use Rattle.store_layout.proofs.SheetLaws.{shape_of_lay_out}
use Rattle.store_scoring.specs.Scoring.{tally}
use Rattle.store_tallies.specs.Tallies.{range_tallies, lay_tallies}
use Rattle.store_sums.specs.Range.{IsRange}
use Rattle.store_tallies.specs.TallyTree.{tally_tree}
use Rattle.store_tallies.specs.HoldsTallies.{HoldsTallies, entries_of}
use Rattle.store_tallies.specs.LayLaws.{tally_rest, range_tallies_holds}
use Rattle.store_sums.specs.IsRangeLaws.{range_below}

-- ---- the entries of the ranges

module _ (M : ℕ) (list words : List ℕ) where
  holds_tallies : (levels d k first n : ℕ) (t : Tree) → Fits M levels d n → Balanced M levels d n t
      → Holds words k (tally (take n (drop first list))) (tally_tree (take n (drop first list)) t) → HoldsTallies list words k first n t
  unfolding Balanced Holds HoldsTallies tally_tree
  holds_tallies zero d k first n leaf fits w holds = holds
  holds_tallies (suc levels) d k first n (node b l r) fits w holds =
      let halves = fits_halves M levels d n fits b w.0 in
      let within : b < n = candidate_below n (candidates M d) b (fits_count M levels d n fits) w.0 in
      let own = take n (drop first list) in
      let front : take b own ≡ take b (drop first list) = take-take b n (drop first list) (omega arith) in
      let back : drop b own ≡ take (n - b) (drop (first + b) list) = drop_take b n (drop first list) ∙ rw (drop-drop b first list) in (
        holds.0,
        holds_tallies levels (suc d) (2 * k) first b l halves.0 w.1 (rw front at holds.1),
        holds_tallies levels (suc d) (2 * k + 1) (first + b) (n - b) r halves.1 w.2 (rw (tally_rest b own, back) at holds.2),
      )
  holds_tallies zero d k first n (node b l r) fits w holds = elim w [ ]
  holds_tallies (suc levels) d k first n leaf fits w holds = elim w [ ]

pub tallies_count : (list words : List ℕ) (k first n : ℕ) (t : Tree) → HoldsTallies list words k first n t
    → get_or words k 0 ≡ tally (take n (drop first list))
unfolding HoldsTallies
tallies_count list words k first n leaf w = w
tallies_count list words k first n (node b l r) w = w.0

module _ (counts : List ℕ) where
  -- The counts at one depth below a range, as those below its left half and those below its right half.
  depth_split : (k e i : ℕ)
      → total (take (2 ^ e + i) (drop (k * 2 ^ suc e) counts))
      ≡ total (take (2 ^ e) (drop (2 * k * 2 ^ e) counts)) + total (take i (drop ((2 * k + 1) * 2 ^ e) counts))
  depth_split k e i =
      let first : k * (2 * 2 ^ e) ≡ 2 * k * 2 ^ e = omega arith in
      let second : 2 * k * 2 ^ e + 2 ^ e ≡ (2 * k + 1) * 2 ^ e = omega arith in
      rw (pow-succ' 2 e, first, take-add (2 ^ e) i (drop (2 * k * 2 ^ e) counts), drop-drop (2 ^ e) (2 * k * 2 ^ e) counts, second)
      (total_append (take (2 ^ e) (drop (2 * k * 2 ^ e) counts)) (take i (drop ((2 * k + 1) * 2 ^ e) counts)))

  module _ (M : ℕ) where
    -- The ranges at one depth below a range have its entries.
    depth_total : (levels d k n : ℕ) (t : Tree) (e : ℕ) → Fits M levels d n → Balanced M levels d n t → (k + 1) * 2 ^ levels ≤ length counts
        → Holds counts k n t → e ≤ levels → total (take (2 ^ e) (drop (k * 2 ^ e) counts)) ≡ n
    unfolding Balanced Holds total
    depth_total levels d k n t zero fits w room holds h =
        let itself : k * 2 ^ 0 ≡ k = omega arith in
        rw (itself, drop-cons counts k 0 (omega (arith, mul-le-mul_left (k + 1) (pow_pos levels)))) (omega (arith, holds_count counts k n t holds))
    depth_total zero d k n leaf (suc e) fits w room holds h = absurd (not-suc-le-zero h)
    depth_total (suc levels) d k n (node b l r) (suc e) fits w room holds h =
        let halves = fits_halves M levels d n fits b w.0 in
        let within : b < n = candidate_below n (candidates M d) b (fits_count M levels d n fits) w.0 in
        let room-halves : (k + 1) * (2 * 2 ^ levels) ≤ length counts = rw (pow-succ' 2 levels) at room in
        let both : 2 ^ suc e ≡ 2 ^ e + 2 ^ e = omega (arith, pow-succ' 2 e) in
        ap (λ (i : ℕ). total (take i (drop (k * 2 ^ suc e) counts))) both
        ∙ depth_split k e (2 ^ e)
        ∙ rw (
          depth_total levels (suc d) (2 * k) b l e halves.0 w.1 (omega arith) holds.1 (omega arith),
          depth_total levels (suc d) (2 * k + 1) (n - b) r e halves.1 w.2 (omega arith) holds.2 (omega arith),
        )
        (omega arith)
    depth_total zero d k n (node b l r) (suc e) fits w room holds h = elim w [ ]
    depth_total (suc levels) d k n leaf (suc e) fits w room holds h = elim w [ ]

    module _ (list words : List ℕ) where
      -- Each range j below the range k: the counts before it at its depth give the rank of its first entry.
      tally_below : (levels d k first n : ℕ) (t : Tree) (e j : ℕ) → Fits M levels d n → Balanced M levels d n t
          → (k + 1) * 2 ^ levels ≤ length counts → Holds counts k n t → HoldsTallies list words k first n t → e ≤ levels → Below k e j
          → get_or words j 0 ≡ tally (take (get_or counts j 0) (drop (first + total (take (j - k * 2 ^ e) (drop (k * 2 ^ e) counts))) list))
      unfolding Balanced Holds HoldsTallies total
      tally_below levels d k first n t zero j fits w room holds tallies h below =
          let only : j ≡ k = below_only k j below in
          let none : k - k * 2 ^ 0 ≡ 0 = omega arith in
          rw (only, none, add-zero first, holds_count counts k n t holds) (tallies_count list words k first n t tallies)
      tally_below zero d k first n leaf (suc e) j fits w room holds tallies h below = absurd (not-suc-le-zero h)
      tally_below (suc levels) d k first n (node b l r) (suc e) j fits w room holds tallies h below =
          let halves = fits_halves M levels d n fits b w.0 in
          let room-halves : (k + 1) * (2 * 2 ^ levels) ≤ length counts = rw (pow-succ' 2 levels) at room in
          let start : k * 2 ^ suc e ≡ 2 * k * 2 ^ e = rw (pow-succ' 2 e) (omega arith) in
          ⊎_elim
          (λ (u : Below (2 * k) e j).
          rw start (tally_below levels (suc d) (2 * k) first b l e j halves.0 w.1 (omega arith) holds.1 tallies.1 (omega arith) u))
          (λ (u : Below (2 * k + 1) e j).
          let i = j - (2 * k + 1) * 2 ^ e in
          let left = depth_total levels (suc d) (2 * k) b l e halves.0 w.1 (omega arith) holds.1 (omega arith) in
          let behind : j - k * 2 ^ suc e ≡ 2 ^ e + i = omega (arith, start, u.from) in
          let between = total (take i (drop ((2 * k + 1) * 2 ^ e) counts)) in
          let rank : first + (b + between) ≡ first + b + between = omega arith in
          rw (behind, depth_split k e i, left, rank)
          (tally_below levels (suc d) (2 * k + 1) (first + b) (n - b) r e j halves.1 w.2 (omega arith) holds.2 tallies.2 (omega arith) u))
          (below_halves k e j below)
      tally_below zero d k first n (node b l r) (suc e) j fits w room holds tallies h below = elim w [ ]
      tally_below (suc levels) d k first n leaf (suc e) j fits w room holds tallies h below = elim w [ ]

module _ (cap : Capacity) (roomy : Roomy cap) (list : List ℕ) (s : Shape) (w : IsContents cap list s) where
  -- The tallies hold from the root on, which has all entries.
  pub tallies_hold : HoldsTallies list (range_tallies cap.counts list s) 1 0 (length list) s.tree
  tallies_hold =
      holds_tallies s.size list (range_tallies cap.counts list s) (height s.size) 0 1 0 (length list) s.tree
      (fit (length list) s.size w.shape.allowed) w.shape.balanced
      (rw (take_all (length list) list (omega arith)) (range_tallies_holds cap roomy list s w))

  -- The tally of a range is the number of scoring boats among the entries that it has by the counts.
  pub tally_entries : (levels k : ℕ) → IsRange s.size levels k
      → get_or (range_tallies cap.counts list s) k 0
      ≡ tally (entries_of list (shape_counts cap.counts (length list) s) (height s.size - levels) k)
  unfolding entries_of
  tally_entries levels k range =
      let M = s.size in
      let N = length list in
      let d = height M - levels in
      let counts = shape_counts cap.counts N s in
      let fits : 2 * 2 ^ height M ≤ cap.counts = roomy.counts_fit N M w.room w.shape.allowed in
      let perfect = balanced_perfect M (height M) 0 N s.tree w.shape.balanced in
      tally_below counts M list (range_tallies cap.counts list s) (height M) 0 1 0 N s.tree d k (fit N M w.shape.allowed)
      w.shape.balanced (omega (arith, length_shape_counts cap.counts N s)) (shape_counts_holds (height M) cap.counts N s perfect fits)
      tallies_hold (omega arith) (range_below M levels k range)
      ∙ rw (one-mul (2 ^ d), zero-add (total (take (k - 2 ^ d) (drop (2 ^ d) counts))))

-- ---- two sheets

module _ (cap : Capacity) (roomy : Roomy cap) (list : List ℕ) (s s' : Shape) (w : IsContents cap list s) (w' : IsContents cap list s') where
  -- Sheets with the same counts have one shape.
  counts_shape : lay_counts cap.counts (length list) s ≡ lay_counts cap.counts (length list) s' → s ≡ s'
  unfolding shape_of numbered lay_out
  counts_shape same =
      sym (shape_of_lay_out cap list s w roomy)
      ∙ ap (λ (counts : List ℕ). shape_of (record { slots = []; counts = counts })) same
      ∙ shape_of_lay_out cap list s' w' roomy

  pub tallies_follow : lay_counts cap.counts (length list) s ≡ lay_counts cap.counts (length list) s'
      → lay_tallies cap.counts list s ≡ lay_tallies cap.counts list s'
  tallies_follow same = ap (lay_tallies cap.counts list) (counts_shape same)
