-- Laws of the leaves that right halves begin with: each leaf but the first of the sheet begins the right half of one range above the leaves, and
-- each of these ranges has one such leaf.
use Rattle.std.specs.Prelude.{◌≡◌, List, ◌≢◌, ℕ, zero, suc, ◌+◌, ◌-◌, ◌*◌, ◌/◌, ◌%◌, ◌^◌, ◌≤◌, ◌<◌, get_or}
use Rattle.std.proofs.Common.{sym, ap, ◌∙◌, ⊎_elim, mul-le-mul_left, mul-le-mul_right, arith, pow-add, pow_mono, pow_pos}
use Rattle.std.proofs.Math.Nat.{pow-succ'}
use Rattle.base.specs.CaseLaws.{lt_or_ge}
use Rattle.tree_sizes.specs.Sizes.{height, leaf_slots}
use Rattle.tree_sizes.proofs.SizeLaws.{power_order}
use Rattle.tree_counts.specs.Ranges.{Below}
use Rattle.store_balance.specs.BalanceIn.{balance_in}
use Rattle.store_balance.specs.BalanceLaws.{below_above}
use Rattle.store_balance.specs.BalanceInLaws.{balance_in_at}
use Rattle.store_balance_part.specs.Update.{Begins, RightFrom, entry_from}

-- ---- ranges that begin with a leaf

pub begins_itself : (leaf : ℕ) → Begins leaf leaf
begins_itself leaf = record { levels = 0; is = omega arith }

module _ {k leaf : ℕ} (w : Begins k leaf) where
  -- A left half begins as its range does.
  pub begins_up : k % 2 ≡ 0 → Begins (k / 2) leaf
  begins_up even =
      let twice : k ≡ k / 2 * 2 = omega arith in
      record { levels = suc w.levels; is = w.is ∙ rw (pow-succ' 2 w.levels) (omega (arith, ap (λ (n : ℕ). n * 2 ^ w.levels) twice)) }

  pub begins_right : k % 2 ≢ 0 → Begins (2 * (k / 2) + 1) leaf
  begins_right odd =
      let right : 2 * (k / 2) + 1 ≡ k = omega arith in rw right w

-- Right halves that begin with one leaf are one.
right_same : (i l j k : ℕ) → (2 * j + 1) * 2 ^ i ≡ (2 * k + 1) * 2 ^ l → j ≡ k
right_same zero zero j k e = omega arith
right_same zero (suc l) j k e = absurd (omega (arith, rw (pow-succ' 2 l) at e))
right_same (suc i) zero j k e = absurd (omega (arith, rw (pow-succ' 2 i) at e))
right_same (suc i) (suc l) j k e = right_same i l j k (omega (arith, rw (pow-succ' 2 i, pow-succ' 2 l) at e))

-- ---- the ranges and the leaves of a sheet

module _ {h : ℕ} where
  pub range_only : {j k leaf : ℕ} → RightFrom h j leaf → RightFrom h k leaf → j ≡ k
  range_only {j} {k} v w = right_same v.half.levels w.half.levels j k (sym v.half.is ∙ w.half.is)

  -- The right half of a range does not stand at two depths.
  not_lower : {k first second : ℕ} (v : RightFrom h k first) (w : RightFrom h k second) → w.half.levels ≤ v.half.levels
  not_lower {k} v w =
      ⊎_elim
      (λ (less : v.half.levels < w.half.levels).
      absurd
      (omega (
        arith,
        v.after,
        v.half.is,
        w.before,
        w.half.is,
        mul-le-mul_left (2 * k + 1) (rw (pow-succ' 2 v.half.levels) at (pow_mono less)),
      )))
      (λ (same : w.half.levels ≤ v.half.levels). same)
      (lt_or_ge v.half.levels w.half.levels)

  pub leaf_only : {k first second : ℕ} → RightFrom h k first → RightFrom h k second → first ≡ second
  leaf_only v w =
      let same : v.half.levels ≡ w.half.levels = omega (arith, not_lower v w, not_lower w v) in
      v.half.is ∙ rw same (sym w.half.is)

  module _ {k leaf : ℕ} (w : RightFrom h k leaf) where
    pub right_above : k < 2 ^ h
    right_above = omega (arith, w.before, w.half.is, mul-le-mul_left (2 * k + 1) (pow_pos w.half.levels))

    pub right_some : 0 < k
    right_some =
        ⊎_elim
        (λ (none : k < 1).
        let no : k ≡ 0 = omega arith in
        let is : leaf ≡ 1 * 2 ^ w.half.levels = w.half.is ∙ ap (λ (n : ℕ). (2 * n + 1) * 2 ^ w.half.levels) no in
        let more : h < w.half.levels = power_order 1 (2 ^ h) h w.half.levels (omega arith) (omega (arith, w.after)) in
        absurd (omega (arith, w.before, rw (pow-succ' 2 h) at (pow_mono more))))
        (λ (some : 1 ≤ k). some)
        (lt_or_ge k 1)

-- The range k at depth d.
module _ (h d k : ℕ) (less : d < h) (w : Below 1 d k) where
  -- the leaves of its halves
  abbrev leaves : ℕ
  leaves = 2 ^ (h - d - 1)

  whole : 2 ^ h ≡ 2 * 2 ^ d * leaves
  whole =
      let levels : h ≡ suc d + (h - d - 1) = omega arith in
      ap (λ (n : ℕ). 2 ^ n) levels ∙ pow-add 2 (suc d) (h - d - 1) ∙ rw (pow-succ' 2 d)

  depth_leaf : RightFrom h k ((2 * k + 1) * leaves)
  depth_leaf =
      let from : 2 * 2 ^ d + 1 ≤ 2 * k + 1 = omega (arith, w.from) in
      let before : 2 * k + 2 ≤ 4 * 2 ^ d = omega (arith, w.before) in record {
        half = record { levels = h - d - 1; is = omega arith };
        after = omega (arith, whole, mul-le-mul_right leaves from, pow_pos (h - d - 1));
        before = omega (arith, whole, mul-le-mul_right leaves before, pow_pos (h - d - 1));
      }

  -- how many leaves stand before its right half
  depth_place : {leaf : ℕ} → RightFrom h k leaf → (2 * (k - 2 ^ d) + 1) * leaves ≡ leaf - 2 ^ h
  depth_place r =
      let is : 2 * k + 1 ≡ 2 * (k - 2 ^ d) + 1 + 2 * 2 ^ d = omega (arith, w.from) in
      omega (arith, whole, leaf_only r depth_leaf, ap (λ (n : ℕ). n * leaves) is)

-- Each range above the leaves has such a leaf.
pub right_leaf : (h k : ℕ) → 0 < k → k < 2 ^ h → (leaf : ℕ) × RightFrom h k leaf
right_leaf h k some less =
    let w = below_above h k some less in ((2 * k + 1) * 2 ^ (h - w.0 - 1), depth_leaf h w.0 k w.1 w.2)

-- At the number of a range stands the first entry from this leaf on.
pub balance_in_leaf : (M room : ℕ) (slots : List ℕ) {k leaf : ℕ} → RightFrom (height M) k leaf
    → get_or (balance_in M room slots) k 0 ≡ entry_from (height M) (leaf_slots M) slots leaf
unfolding entry_from
balance_in_leaf M room slots {k} {leaf} r =
    let h = height M in
    let w = below_above h k (right_some r) (right_above r) in
    let d = w.0 in
    let i = k - 2 ^ d in
    let is : 2 ^ d + i ≡ k = omega (arith, w.2.from) in
    rw (is, depth_place h d k w.1 w.2 r) at (balance_in_at M room slots d i w.1 (omega (arith, w.2.before)))
