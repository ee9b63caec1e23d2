-- The numbers of the ranges are small where there are few slots.
use Rattle.std.proofs.Common.{⊎_elim}
use Rattle.std.specs.Prelude.{List, ℕ, zero, suc, ◌-◌, ◌*◌, ◌^◌, ◌≤◌, ◌<◌, length, get_or, drop}
use native.Mathlib.Omega.{arith}
use Rattle.std.proofs.Math.ListN.{take, length-take, length-drop}
use Rattle.base.specs.Lists.{Every}
use Rattle.base.specs.CaseLaws.{lt_or_ge}
use Rattle.base.specs.ListLaws.{every_from}
use Rattle.tree_sizes.specs.Sizes.{height, leaf_slots}
use Rattle.store_layout.specs.Leaf.{nonzero}
use Rattle.store_layout.proofs.LeafLaws.{nonzero_length}
use Rattle.store_sums.specs.Range.{range_slots}
use Rattle.store_sums.specs.Numbers.{Additive, number_at, NumbersIn}
use Rattle.store_sums.specs.IsRangeLaws.{number_range}

module _ {measure : List ℕ → ℕ} (sums : Additive measure) where
  -- The number of a range is no more than there are slots.
  number_few : (M : ℕ) (slots : List ℕ) (levels k : ℕ) → number_at measure M slots levels k ≤ length slots
  unfolding number_at range_slots
  number_few M slots levels k =
      let part = take (leaf_slots M * 2 ^ levels) (drop (leaf_slots M * (k * 2 ^ levels - 2 ^ height M)) slots) in
      omega (
        arith,
        sums.few (nonzero part),
        nonzero_length part,
        length-take (leaf_slots M * 2 ^ levels) (drop (leaf_slots M * (k * 2 ^ levels - 2 ^ height M)) slots),
        length-drop (leaf_slots M * (k * 2 ^ levels - 2 ^ height M)) slots,
      )

  module _ {start M : ℕ} {slots words : List ℕ} (w : NumbersIn measure start M slots words) (most : ℕ) (first : start < most) (few : length slots < most) where
    small_at : (k : ℕ) → get_or words k 0 < most
    small_at zero = omega (arith, w.zero)
    small_at (suc k) =
        ⊎_elim
        (λ (used : suc k < 2 * 2 ^ height M).
        let r = number_range M (suc k) (omega arith) used in omega (arith, w.ranges r.0 (suc k) r.1, number_few M slots r.0 (suc k)))
        (λ (unused : 2 * 2 ^ height M ≤ suc k). omega (arith, w.unused (suc k) unused))
        (lt_or_ge (suc k) (2 * 2 ^ height M))

    pub numbers_small : Every (λ c. c < most) words
    numbers_small = every_from (λ c. c < most) 0 words (λ k h. small_at k)
