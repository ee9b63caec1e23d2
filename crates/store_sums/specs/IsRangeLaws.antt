-- Laws of the ranges of a sheet, with the levels that stand below them: which leaves they have, and that every number from 1 on is that of a range.
use Rattle.std.specs.Prelude.{◌≡◌, ℕ, ◌+◌, ◌-◌, ◌*◌, ◌^◌, ◌≤◌, ◌<◌}
use Rattle.std.proofs.Common.{mul-le-mul_right, arith, pow-add}
use Rattle.tree_sizes.specs.Sizes.{height}
use Rattle.tree_counts.specs.Ranges.{Below}
use Rattle.tree_counts.specs.RangeLaws.{below_root}
use Rattle.store_sums.specs.Range.{IsRange}

-- The leaves of a range d levels below the range k, with so many levels below it, are among those of the range k.
module _ (k d j levels : ℕ) (w : Below k d j) where
  power : 2 ^ (levels + d) ≡ 2 ^ d * 2 ^ levels
  power = omega (arith, pow-add 2 levels d)

  pub below_from : k * 2 ^ (levels + d) ≤ j * 2 ^ levels
  below_from = rw power (omega (arith, mul-le-mul_right (2 ^ levels) w.from))

  pub below_end : (j + 1) * 2 ^ levels ≤ (k + 1) * 2 ^ (levels + d)
  below_end = rw power (omega (arith, mul-le-mul_right (2 ^ levels) w.before))

-- A range of the sheet stands below the root.
pub range_below : (M levels k : ℕ) → IsRange M levels k → Below 1 (height M - levels) k
range_below M levels k w = record { from = omega (arith, w.from); before = omega (arith, w.before) }

pub below_range : (M d k : ℕ) → d ≤ height M → Below 1 d k → IsRange M (height M - d) k
below_range M d k less w =
    let e : height M - (height M - d) ≡ d = omega arith in
    record { inside = omega arith; from = rw e (omega (arith, w.from)); before = rw e (omega (arith, w.before)) }

-- Its leaves are among those of the sheet.
module _ (M levels k : ℕ) (w : IsRange M levels k) where
  whole : levels + (height M - levels) ≡ height M
  whole = omega (arith, w.inside)

  pub range_from : 2 ^ height M ≤ k * 2 ^ levels
  range_from = omega (arith, rw whole at (below_from 1 (height M - levels) k levels (range_below M levels k w)))

  pub range_end : (k + 1) * 2 ^ levels ≤ 2 * 2 ^ height M
  range_end = omega (arith, rw whole at (below_end 1 (height M - levels) k levels (range_below M levels k w)))

-- Every number from 1 on, before those that no range has, is that of a range.
pub number_range : (M k : ℕ) → 0 < k → k < 2 * 2 ^ height M → (levels : ℕ) × IsRange M levels k
number_range M k pos less = let w = below_root (height M) k pos less in (height M - w.0, below_range M w.0 k w.1 w.2)
