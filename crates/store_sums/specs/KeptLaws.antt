-- The numbers after a change of some leaves: those of the ranges that have none of these leaves stay.
use Rattle.std.specs.Prelude.{◌≡◌, ℕ, ◌+◌, ◌-◌, ◌*◌, ◌^◌, ◌≤◌, get_or, take, drop}
use Rattle.std.proofs.Common.{sym, ◌∙◌, pow_pos, take-take, drop-drop}
use Rattle.std.proofs.Math.Path.{ap}
use mathlib.Core.List.{List}
use Rattle.std.proofs.Math.Nat.{mul-le-mul_left}
use native.Mathlib.Omega.{arith}
use Rattle.base.specs.ListLaws.{drop_take}
use Rattle.tree_sizes.specs.Sizes.{height, leaf_slots}
use Rattle.store_layout.specs.Leaf.{nonzero}
use Rattle.store_sums.specs.Range.{IsRange, range_slots}
use Rattle.store_sums.specs.Numbers.{number_at, NumbersBut, NumbersIn}
use Rattle.store_sums.specs.IsRangeLaws.{range_from, range_end}

-- ---- a part of a list

-- A part is the same in two lists that begin alike, and in two that end alike.
module _ (from n : ℕ) (xs ys : List ℕ) where
  pub part_before : (end : ℕ) → from + n ≤ end → take end xs ≡ take end ys → take n (drop from xs) ≡ take n (drop from ys)
  part_before end h same = sym (inside xs) ∙ ap (λ (zs : List ℕ). take n (drop from zs)) same ∙ inside ys
    where
      inside : (zs : List ℕ) → take n (drop from (take end zs)) ≡ take n (drop from zs)
      inside zs = rw (drop_take from end zs) (take-take n (end - from) (drop from zs) (omega arith))

  part_after : (first : ℕ) → first ≤ from → drop first xs ≡ drop first ys → take n (drop from xs) ≡ take n (drop from ys)
  part_after first h same = sym (inside xs) ∙ ap (λ (zs : List ℕ). take n (drop (from - first) zs)) same ∙ inside ys
    where
      inside : (zs : List ℕ) → take n (drop (from - first) (drop first zs)) ≡ take n (drop from zs)
      inside zs = let e : first + (from - first) ≡ from = omega arith in rw (drop-drop (from - first) first zs, e)

-- ---- the numbers

-- The slots changed in no leaf but those with a range number from `first` up to, not including, `end`.
module _ (measure : List ℕ → ℕ) (start M : ℕ) (slots slots' : List ℕ) (first end : ℕ) (words : List ℕ)
    (before : take (leaf_slots M * (first - 2 ^ height M)) slots ≡ take (leaf_slots M * (first - 2 ^ height M)) slots')
    (after : drop (leaf_slots M * (end - 2 ^ height M)) slots ≡ drop (leaf_slots M * (end - 2 ^ height M)) slots') where
  number_left : (levels k : ℕ) → IsRange M levels k → (k + 1) * 2 ^ levels ≤ first → number_at measure M slots levels k ≡ number_at measure M slots' levels k
  unfolding number_at range_slots
  number_left levels k range left =
      let i = k * 2 ^ levels - 2 ^ height M in
      let inside : i + 2 ^ levels ≤ first - 2 ^ height M = omega (arith, range_from M levels k range) in
      ap (λ (xs : List ℕ). measure (nonzero xs))
      (part_before (leaf_slots M * i) (leaf_slots M * 2 ^ levels) slots slots' (leaf_slots M * (first - 2 ^ height M))
      (omega (arith, mul-le-mul_left (leaf_slots M) inside)) before)

  number_right : (levels k : ℕ) → IsRange M levels k → end ≤ k * 2 ^ levels → number_at measure M slots levels k ≡ number_at measure M slots' levels k
  unfolding number_at range_slots
  number_right levels k range right =
      let i = k * 2 ^ levels - 2 ^ height M in
      let behind : end - 2 ^ height M ≤ i = omega arith in
      ap (λ (xs : List ℕ). measure (nonzero xs))
      (part_after (leaf_slots M * i) (leaf_slots M * 2 ^ levels) slots slots' (leaf_slots M * (end - 2 ^ height M))
      (mul-le-mul_left (leaf_slots M) behind) after)

  pub numbers_kept : NumbersIn measure start M slots words → NumbersBut measure start M slots' first end words
  numbers_kept w = record {
    zero = w.zero;
    left = λ levels k range h. w.ranges levels k range ∙ number_left levels k range h;
    right = λ levels k range h. w.ranges levels k range ∙ number_right levels k range h;
    unused = w.unused;
  }

-- Where all leaves may have changed, nothing is said of the ranges.
pub numbers_none : (measure : List ℕ → ℕ) (start M : ℕ) (slots words : List ℕ) → get_or words 0 0 ≡ start → ((k : ℕ) → 2 * 2 ^ height M ≤ k → get_or words k 0 ≡ 0)
    → NumbersBut measure start M slots (2 ^ height M) (2 * 2 ^ height M) words
numbers_none measure start M slots words zero unused = record {
  zero = zero;
  left = λ levels k range h. absurd (omega (arith, range_from M levels k range, pow_pos levels));
  right = λ levels k range h. absurd (omega (arith, range_end M levels k range, pow_pos levels));
  unused = unused;
}
