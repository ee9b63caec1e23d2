-- The test of the ranges level by level comes to that range by range.
use Rattle.std.specs.Prelude.{◌≡◌, ℕ, zero, suc, ◌+◌, ◌-◌, ◌*◌, ◌/◌, ◌^◌, ◌<◌, ◌≤◌, Bool, true, false, ◌&&◌, List, ◌==◌, nat_le, nat_lt, slice_index, slice_index_or}
use Rattle.std.proofs.Math.Path.{refl, sym, ap}
use Rattle.std.proofs.Common.{◌∙◌, ⊎_elim, pow_mono, suc-add, zero-add, mul-le-mul_right}
use Rattle.std.proofs.Math.Nat.{add-zero, sub_self, sub-zero, pow-succ'}
use native.Mathlib.Omega.{arith}
use borrow.Author.Tests.{eq-eqb, eqb-true, le-leb, leb-true, lt-ltb, ltb-true}
use Rattle.base.specs.BoolLaws.{and_both, and_assoc, and_true, tests_agree, true_or_false}
use Rattle.tree_sizes.specs.Sizes.{ceil_div, candidates, half_candidates, window_start, Fits}
use Rattle.tree_sizes.proofs.SizeLaws.{ceiling_least, ceil_div_half, step_pos, candidates_are, candidates_half, window_fits}
use Rattle.tree_sizes.proofs.Fit.{fits_count, fits_halves}
use Rattle.store_test.specs.Ready.{LevelTestReady, TreeTestReady}
use Rattle.store_test.specs.Check.{range_test, tree_test, sums_test, ranges_test, levels_test}
use Rattle.store_test.specs.TreeCheck.{range_sound, range_test_lem}

start_at : (n c : ℕ) → c ≤ n → window_start n c + ceil_div c 2 ≡ ceil_div n 2
unfolding window_start ceil_div
start_at n c fit = omega arith

middle_swapped : (a b c d : Bool) → ((a && b) && (c && d)) ≡ ((a && c) && (b && d))
middle_swapped true true c d = refl
middle_swapped true false true d = refl
middle_swapped true false false d = refl
middle_swapped false b c d = refl

pub half_most : (c : ℕ) → half_candidates c ≤ c
unfolding half_candidates ceil_div
half_most c = omega arith

candidates_most : (M d : ℕ) → candidates M d ≤ M
candidates_most M d =
    ceiling_least M _ (candidates M d) (candidates_are M d) M (omega (arith, mul-le-mul_right M (step_pos M d)))

module _ (counts : List ℕ) where
  -- ---- one range

  -- A range that has as many entries as candidates is tested by sums alone.
  sums_range : (c k : ℕ) → c ≤ slice_index counts k → sums_test counts c k ≡ range_test counts c k
  unfolding sums_test half_candidates
  sums_range c k fit =
      let n = slice_index_or counts k 0 in
      let b = slice_index_or counts (2 * k) 0 in
      let right = slice_index_or counts (2 * k + 1) 0 in
      let start : window_start n c + ceil_div c 2 ≡ ceil_div n 2 = start_at n c fit in
      tests_agree (sums_test counts c k) (range_test counts c k)
      (λ h.
      let below = and_both (b + right == n && nat_le (ceil_div n 2) (b + ceil_div c 2)) _ h in
      let from = and_both (b + right == n) _ below.0 in
      let sum = eqb-true (b + right) n from.0 in
      let low = leb-true (ceil_div n 2) (b + ceil_div c 2) from.1 in
      let high = ltb-true (b + ceil_div c 2) (ceil_div n 2 + c) below.1 in
      range_test_lem counts c k (record { from = omega (arith, start, low); below = omega (arith, start, high) }) (omega (arith, sum)))
      (λ h.
      let found = range_sound counts c k h in
      let inside = window_fits n c fit in
      rw (
        eq-eqb (b + right) n (omega (arith, found.1, found.0.below, inside)),
        le-leb (ceil_div n 2) (b + ceil_div c 2) (omega (arith, start, found.0.from)),
        lt-ltb (b + ceil_div c 2) (ceil_div n 2 + c) (omega (arith, start, found.0.below)),
      ))

  -- ---- ranges one after the other, and the levels below them

  ranges_append : (c k m n : ℕ) → ranges_test counts c k (m + n) ≡ (ranges_test counts c k m && ranges_test counts c (k + m) n)
  unfolding ranges_test
  ranges_append c k zero n = rw (zero-add n, add-zero k)
  ranges_append c k (suc m) n =
      let shift : k + suc m ≡ suc k + m = omega arith in
      rw (suc-add m n, shift, ranges_append c (suc k) m n)
      (sym (and_assoc (sums_test counts c k) (ranges_test counts c (suc k) m) (ranges_test counts c (suc k + m) n)))

  levels_append : (c levels k m n : ℕ)
      → levels_test counts c levels k (m + n) ≡ (levels_test counts c levels k m && levels_test counts c levels (k + m) n)
  unfolding levels_test
  levels_append c zero k m n = refl
  levels_append c (suc levels) k m n =
      let size : 2 * (m + n) ≡ 2 * m + 2 * n = omega arith in
      let at : 2 * (k + m) ≡ 2 * k + 2 * m = omega arith in
      rw (ranges_append c k m n, size, levels_append (half_candidates c) levels (2 * k) (2 * m) (2 * n), at)
      (middle_swapped (ranges_test counts c k m) (ranges_test counts c (k + m) n) _ _)

  -- The levels below one range are those below its halves.
  levels_halves : (c levels k : ℕ)
      → levels_test counts c (suc levels) k 1
      ≡ (sums_test counts c k && levels_test counts (half_candidates c) levels (2 * k) 1 && levels_test counts (half_candidates c) levels (2 * k + 1) 1)
  unfolding levels_test ranges_test
  levels_halves c levels k =
      rw (and_true (sums_test counts c k), levels_append (half_candidates c) levels (2 * k) 1 1)
      (sym (and_assoc (sums_test counts c k) (levels_test counts (half_candidates c) levels (2 * k) 1) _))

  -- Where the entries of the range fit, level by level is range by range.
  pub levels_tree : (M levels d k : ℕ) → Fits M levels d (slice_index counts k)
      → levels_test counts (candidates M d) levels k 1 ≡ tree_test counts M levels d k
  unfolding tree_test levels_test
  levels_tree M zero d k fits = refl
  levels_tree M (suc levels) d k fits =
      let c = candidates M d in
      levels_halves c levels k
      ∙ rw (sums_range c k (fits_count M levels d (slice_index counts k) fits), ← candidates_half M d)
      (⊎_elim
      (λ (yes : range_test counts c k ≡ true).
      let found = range_sound counts c k yes in
      let below = fits_halves M levels d (slice_index counts k) fits (slice_index counts (2 * k)) found.0 in
      rw (
        levels_tree M levels (suc d) (2 * k) below.0,
        levels_tree M levels (suc d) (2 * k + 1) (rw found.1 below.1),
      ))
      (λ (no : range_test counts c k ≡ false). rw no)
      (true_or_false (range_test counts c k)))

-- ---- the loops

-- The first i ranges of a level are as they should be where `so_far` is true: the test comes to that and that of the others.
pub record RangesLeft (counts : List ℕ) (c first : ℕ) (so_far : Bool) (i : ℕ) : Type 0 where
  pub inside : i ≤ first
  pub left : ranges_test counts c first first ≡ (so_far && ranges_test counts c (first + i) (first - i))

module _ {counts : List ℕ} {c first : ℕ} where
  pub ranges_all : RangesLeft counts c first true 0
  ranges_all = record { inside = omega arith; left = rw (add-zero first, sub-zero first) }

  module _ {so_far : Bool} {i : ℕ} (w : RangesLeft counts c first so_far i) where
    pub ranges_none : first ≤ i → ranges_test counts c first first ≡ so_far
    unfolding ranges_test
    ranges_none h =
        let none : first - i ≡ 0 = omega arith in
        w.left ∙ rw none (and_true so_far)

    -- The next range, by what is read of it.
    pub ranges_next : {k n b right half : ℕ} {balanced : Bool} → k ≡ first + i → i < first → n ≡ slice_index counts k → b ≡ slice_index counts (2 * k)
        → right ≡ slice_index counts (2 * k + 1) → half ≡ half_candidates c
        → balanced ≡ (b + right == n && nat_le (n - n / 2) (b + half) && nat_lt (b + half) (n - n / 2 + c))
        → RangesLeft counts c first (so_far && balanced) (i + 1)
    unfolding ranges_test sums_test
    ranges_next {k} {n} {b} {right} {half} {balanced} k-is h n_is b-is right_is half_is is =
        let some : first - i ≡ suc (first - (i + 1)) = omega arith in
        let at : suc (first + i) ≡ first + (i + 1) = omega arith in record {
          inside = omega arith;
          left =
              w.left
              ∙ rw (some, at, ← k-is, ← n_is, ← b-is, ← right_is, ← half_is, ← ceil_div_half n, is) (sym (and_assoc so_far _ _));
        }

pub tree_leaf : (counts : List ℕ) (M h : ℕ) → h ≡ 0 → tree_test counts M h 0 1 ≡ true
unfolding tree_test
tree_leaf counts M h e = rw e

-- The first levels, down to the ranges from `first` on, are as they should be where `so_far` is true.
pub record LevelsLeft (counts : List ℕ) (M h : ℕ) (so_far : Bool) (c first levels : ℕ) : Type 0 where
  pub inside : levels ≤ h
  pub first_is : first ≡ 2 ^ (h - levels)
  pub few : c ≤ candidates M 0
  pub left : levels_test counts (candidates M 0) h 1 1 ≡ (so_far && levels_test counts c levels first first)

module _ {counts : List ℕ} {M h : ℕ} (ready : TreeTestReady counts M h) where
  pub levels_all : {c : ℕ} → c ≡ candidates M 0 → LevelsLeft counts M h true c 1 h
  levels_all e = record { inside = omega arith; first_is = rw (sub_self h); few = omega (arith, e); left = rw e }

  module _ {so_far : Bool} {c first levels : ℕ} (w : LevelsLeft counts M h so_far c first levels) where
    pub levels_none : levels ≤ 0 → tree_test counts M h 0 1 ≡ so_far
    unfolding levels_test
    levels_none e =
        let none : levels ≡ 0 = omega arith in
        sym (levels_tree counts M h 0 1 ready.fits) ∙ w.left ∙ rw none (and_true so_far)

    module _ (some : 0 < levels) where
      doubled : 2 * first ≡ 2 ^ (h - (levels - 1))
      doubled =
          let below : h - (levels - 1) ≡ suc (h - levels) = omega (arith, w.inside) in
          rw (below, pow-succ' 2 (h - levels), w.first_is)

      pub level_ready : LevelTestReady counts c first
      level_ready = record {
        room = omega (arith, doubled, pow_mono {i = h - (levels - 1)} {j = h} (omega arith), ready.room);
        small = omega (arith, w.few, candidates_most M 0, ready.most);
      }

      pub levels_next : {level : Bool} {half : ℕ} → level ≡ ranges_test counts c first first → half ≡ half_candidates c
          → LevelsLeft counts M h (so_far && level) half (2 * first) (levels - 1)
      unfolding levels_test
      levels_next {level} {half} level-is half_is =
          let more : levels ≡ suc (levels - 1) = omega arith in
          let here : levels_test counts c levels first first ≡ (level && levels_test counts half (levels - 1) (2 * first) (2 * first))
          = ap (λ (l : ℕ). levels_test counts c l first first) more ∙ rw (level-is, half_is) in record {
            inside = omega (arith, w.inside);
            first_is = doubled;
            few = omega (arith, half_is, half_most c, w.few);
            left = w.left ∙ rw here (sym (and_assoc so_far level _));
          }
