-- The leaves of the part, by their range numbers, and its slots; and the numbers that a change of the part keeps.
use Rattle.std.specs.Prelude.{◌≡◌, List, ℕ, ◌+◌, ◌-◌, ◌*◌, ◌^◌, ◌≤◌, ◌<◌, take, drop}
use Rattle.std.proofs.Math.Path.{sym, ap}
use Rattle.std.proofs.Common.{◌∙◌, mul-le-mul_right, pow-add, pow_mono, pow_pos}
use native.Mathlib.Omega.{arith}
use Rattle.tree_sizes.specs.Sizes.{height, leaf_slots}
use Rattle.tree_sizes.proofs.SizeLaws.{height_most}
use Rattle.tree_counts.specs.declared.Part.{Part}
use Rattle.store_rows.specs.Row.{Row}
use Rattle.store_sums.specs.Numbers.{NumbersBut, NumbersIn}
use Rattle.store_sums.specs.KeptLaws.{numbers_kept}
use Rattle.store_part.specs.Region.{leaves_of, leaves_before}
use Rattle.store_part.specs.Plan.{part_from, part_length, first_leaf, last_leaf, PartIn}

pub leaves_some : (M d : ℕ) → 0 < leaves_of M d
unfolding leaves_of
leaves_some M d = pow_pos (height M - d)

module _ {M : ℕ} {part : Part} (w : PartIn M part) where
  leaves_number : 2 ^ part.depth * leaves_of M part.depth ≡ 2 ^ height M
  unfolding leaves_of
  leaves_number =
      let whole : part.depth + (height M - part.depth) ≡ height M = omega (arith, w.depth_most) in
      sym (pow-add 2 part.depth (height M - part.depth)) ∙ rw whole

  -- how many leaves stand before it
  leaves_before_lem : first_leaf M part ≡ 2 ^ height M + leaves_before M part.range part.depth
  unfolding leaves_before
  leaves_before_lem =
      let leaves = leaves_of M part.depth in
      let rest = part.range - 2 ^ part.depth in
      let is : part.range ≡ 2 ^ part.depth + rest = omega (arith, w.range_least) in
      let parts : (2 ^ part.depth + rest) * leaves ≡ 2 ^ part.depth * leaves + rest * leaves = omega arith in
      ap (λ (k : ℕ). k * leaves) is ∙ parts ∙ rw leaves_number

  pub end_most : first_leaf M part + leaves_of M part.depth ≤ 2 * 2 ^ height M
  end_most =
      let leaves = leaves_of M part.depth in
      let next : part.range + 1 ≤ 2 * 2 ^ part.depth = omega (arith, w.range_most) in
      omega (arith, leaves_number, mul-le-mul_right leaves next)

  pub leaves_small : M < 2 ^ 32 → first_leaf M part + leaves_of M part.depth ≤ 2 ^ 33
  leaves_small few = omega (arith, end_most, pow_mono {i = height M} {j = 32} (height_most M 32 (omega arith) (omega arith)))

  -- They are leaves of the sheet.
  pub part_leaves : Row (height M) (first_leaf M part) (last_leaf M part)
  part_leaves = record {
    from = omega (arith, leaves_before_lem);
    order = omega arith;
    before = omega (arith, end_most, leaves_some M part.depth);
  }

  pub first_slot : leaf_slots M * (first_leaf M part - 2 ^ height M) ≡ part_from M part
  unfolding part_from
  first_slot =
      let before : first_leaf M part - 2 ^ height M ≡ leaves_before M part.range part.depth = omega (arith, leaves_before_lem) in rw before

  pub end_slot : leaf_slots M * (last_leaf M part + 1 - 2 ^ height M) ≡ part_from M part + part_length M part
  unfolding part_from part_length
  end_slot =
      let leaves = leaves_of M part.depth in
      let before : last_leaf M part + 1 - 2 ^ height M ≡ leaves_before M part.range part.depth + leaves
      = omega (arith, leaves_before_lem, leaves_some M part.depth) in
      rw before (omega arith)

  -- The numbers before a change of its slots alone are right after it, but perhaps at the ranges that have a leaf of the part.
  pub kept_numbers : (measure : List ℕ → ℕ) (start : ℕ) {slots slots' words : List ℕ} → take (part_from M part) slots ≡ take (part_from M part) slots'
      → drop (part_from M part + part_length M part) slots ≡ drop (part_from M part + part_length M part) slots' → NumbersIn measure start M slots words
      → NumbersBut measure start M slots' (first_leaf M part) (last_leaf M part + 1) words
  kept_numbers measure start {slots} {slots'} {words} before behind found =
      numbers_kept measure start M slots slots' (first_leaf M part) (last_leaf M part + 1) words (rw first_slot before) (rw end_slot behind) found
