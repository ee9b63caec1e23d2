-- The way down to a leaf: one level more, and that its sum is the number of scoring entries before the leaf.
use Rattle.std.specs.Prelude.{◌≡◌, List, get_or}
use Rattle.std.proofs.Common.{◌∙◌, mul-le-mul_left, not-suc-le-zero, pow_pos}
use Prim.Native.Nat.{ℕ, zero, suc, ◌+◌, ◌-◌, ◌*◌, ◌^◌, ◌≤◌, ◌<◌}
use Rattle.std.proofs.Math.Nat.{pow-succ'}
use native.Mathlib.Omega.{arith}
use Rattle.base.specs.CaseLaws.{by_le, if_le_yes, if_le_no}
use Rattle.tree_sizes.specs.Sizes.{height}
use Rattle.store_sums.specs.Range.{IsRange}
use Rattle.store_sums.specs.IsRangeLaws.{range_from}
use Rattle.store_sums.specs.SumLaws.{range_left, range_right, before_left, before_next, before_root}
use Rattle.store_tallies.specs.AdditiveLaws.{tally_additive}
use Rattle.store_tallies.specs.TalliesIn.{tally_before, TalliesIn}
use Rattle.store_tallies.specs.Path.{path_tally, OnPath}

-- ---- the loop that goes down

pub path_root : {h : ℕ} {words : List ℕ} {leaf : ℕ} → OnPath h words leaf h 1 0
path_root = record { within = omega arith; before = omega arith; few = omega arith; same = omega arith }

module _ {h : ℕ} {words : List ℕ} {leaf k sum : ℕ} where
  -- The halves have numbers of ranges of the tree, and their last leaf has a number that the code can count to.
  pub path_halves : (levels : ℕ) → OnPath h words leaf levels k sum → 0 < levels
      → (2 * k + 1 < 2 * 2 ^ h) × ((2 * k + 1 + 1) * 2 ^ (levels - 1) ≤ 2 * 2 ^ h)
  path_halves zero w pos = absurd (not-suc-le-zero pos)
  path_halves (suc levels) w pos =
      let e : suc levels - 1 ≡ levels = omega arith in
      let before : (k + 1) * (2 * 2 ^ levels) ≤ 2 * 2 ^ h = rw (pow-succ' 2 levels) at w.before in
      rw e (omega (arith, before, mul-le-mul_left (k + 1) (pow_pos levels)), omega (arith, before))

  pub path_left : (levels : ℕ) → OnPath h words leaf levels k sum → 0 < levels → leaf < (2 * k + 1) * 2 ^ (levels - 1)
      → OnPath h words leaf (levels - 1) (2 * k) sum
  unfolding path_tally
  path_left zero w pos less = absurd (not-suc-le-zero pos)
  path_left (suc levels) w pos less =
      let e : suc levels - 1 ≡ levels = omega arith in
      let before : (k + 1) * (2 * 2 ^ levels) ≤ 2 * 2 ^ h = rw (pow-succ' 2 levels) at w.before in
      rw e record {
        within = omega (arith, w.within);
        before = omega (arith, before);
        few = omega (arith, w.few);
        same = w.same ∙ rw (if_le_no ((2 * k + 1) * 2 ^ levels) leaf _ _ (rw e at less));
      }

  pub path_right : (levels : ℕ) → OnPath h words leaf levels k sum → 0 < levels → (2 * k + 1) * 2 ^ (levels - 1) ≤ leaf → get_or words (2 * k) 0 < 2 ^ 32
      → OnPath h words leaf (levels - 1) (2 * k + 1) (sum + get_or words (2 * k) 0)
  unfolding path_tally
  path_right zero w pos least small = absurd (not-suc-le-zero pos)
  path_right (suc levels) w pos least small =
      let e : suc levels - 1 ≡ levels = omega arith in
      let before : (k + 1) * (2 * 2 ^ levels) ≤ 2 * 2 ^ h = rw (pow-succ' 2 levels) at w.before in
      rw e record {
        within = omega (arith, w.within);
        before = omega (arith, before);
        few = omega (arith, w.few, small);
        same = w.same ∙ rw (if_le_yes ((2 * k + 1) * 2 ^ levels) leaf _ _ (rw e at least)) (omega arith);
      }

  pub path_end : (levels : ℕ) → OnPath h words leaf levels k sum → levels ≡ 0 → sum ≡ path_tally words leaf h 1
  unfolding path_tally
  path_end zero w none = omega (arith, w.same)
  path_end (suc levels) w none = absurd (omega arith)

-- ---- the sum

module _ {M : ℕ} {slots words : List ℕ} (w : TalliesIn M slots words) (leaf : ℕ) where
  below : (levels k : ℕ) → IsRange M levels k → k * 2 ^ levels ≤ leaf → leaf < (k + 1) * 2 ^ levels
      → tally_before M slots levels k + path_tally words leaf levels k ≡ tally_before M slots 0 leaf
  unfolding path_tally
  below zero k v from before = let e : k ≡ leaf = omega arith in rw e (omega arith)
  below (suc levels) k v from before =
      let from' : k * (2 * 2 ^ levels) ≤ leaf = rw (pow-succ' 2 levels) at from in
      let before' : leaf < (k + 1) * (2 * 2 ^ levels) = rw (pow-succ' 2 levels) at before in
      by_le (λ (x : ℕ). tally_before M slots (suc levels) k + x ≡ tally_before M slots 0 leaf) ((2 * k + 1) * 2 ^ levels) leaf _ _
      (λ h.
      omega (
        arith,
        before_left tally_additive M slots levels k,
        before_next tally_additive M slots levels (2 * k) (range_from M levels (2 * k) (range_left v)),
        w.ranges levels (2 * k) (range_left v),
        below levels (2 * k + 1) (range_right v) h (omega arith),
      ))
      (λ h. rw (before_left tally_additive M slots levels k) (below levels (2 * k) (range_left v) (omega arith) h))

  pub path_before : 2 ^ height M ≤ leaf → leaf < 2 * 2 ^ height M → path_tally words leaf (height M) 1 ≡ tally_before M slots 0 leaf
  path_before from before =
      let top : height M - height M ≡ 0 = omega arith in
      let root : IsRange M (height M) 1 = record { inside = omega arith; from = rw top (omega arith); before = rw top (omega arith) } in
      omega (arith, below (height M) 1 root (omega arith) (omega arith), before_root tally_additive M slots)
