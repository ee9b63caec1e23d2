-- Numbers are those of the ranges exactly when the leaves have theirs and each range above them the sum over its halves.
use Rattle.std.specs.Prelude.{◌≡◌, List}
use Rattle.std.proofs.Math.Path.{sym, ap₂}
use Rattle.std.proofs.Common.{◌∙◌, arith, pow_mono, pow_pos}
use Prim.Native.Nat.{ℕ, zero, suc, ◌+◌, ◌-◌, ◌*◌, ◌^◌, ◌≤◌, ◌<◌}
use Rattle.std.proofs.Math.Nat.{sub-zero, pow-succ'}
use Rattle.std.proofs.Math.ListN.{get_or}
use Rattle.tree_sizes.specs.Sizes.{height}
use Rattle.store_sums.specs.Range.{IsRange}
use Rattle.store_sums.specs.Numbers.{Additive, number_at, NumbersIn}
use Rattle.store_sums.specs.Updating.{Agrees, halves_sum}
use Rattle.store_sums.specs.IsRangeLaws.{number_range}
use Rattle.store_sums.specs.SumLaws.{range_left, range_right, number_halves}

-- A leaf is a range with no level below it.
pub leaf_range : (M k : ℕ) → 2 ^ height M ≤ k → k < 2 * 2 ^ height M → IsRange M 0 k
leaf_range M k from before = record { inside = omega arith; from = rw (sub-zero (height M)) from; before = rw (sub-zero (height M)) before }

-- A range above the leaves has a number below those of the leaves.
above_leaves : (M levels k : ℕ) → IsRange M (suc levels) k → (0 < k) × (k < 2 ^ height M)
above_leaves M levels k w =
    let rows : suc (height M - suc levels) ≤ height M = omega (arith, w.inside) in (
      omega (arith, w.from, pow_pos (height M - suc levels)),
      omega (arith, w.before, rw (pow-succ' 2 (height M - suc levels)) at (pow_mono rows)),
    )

module _ {measure : List ℕ → ℕ} (sums : Additive measure) (start M : ℕ) (slots words : List ℕ) where
  pub adds_up : get_or words 0 0 ≡ start → Agrees (number_at measure M slots 0) (2 ^ height M) (2 * 2 ^ height M) words
      → Agrees (halves_sum words) 1 (2 ^ height M) words → ((k : ℕ) → 2 * 2 ^ height M ≤ k → get_or words k 0 ≡ 0)
      → NumbersIn measure start M slots words
  unfolding halves_sum
  adds_up zero_is leaves halves unused = record { zero = zero_is; ranges = at; unused = unused }
    where
      at : (levels k : ℕ) → IsRange M levels k → get_or words k 0 ≡ number_at measure M slots levels k
      at zero k w = leaves k (rw (sub-zero (height M)) at w.from) (rw (sub-zero (height M)) at w.before)
      at (suc levels) k w =
          let inside = above_leaves M levels k w in
          halves k (omega (arith, inside.0)) inside.1
          ∙ ap₂ (λ (x y : ℕ). x + y) (at levels (2 * k) (range_left w)) (at levels (2 * k + 1) (range_right w))
          ∙ sym (number_halves sums M slots levels k w)

  module _ (w : NumbersIn measure start M slots words) where
    pub leaves_agree : Agrees (number_at measure M slots 0) (2 ^ height M) (2 * 2 ^ height M) words
    leaves_agree k from before = w.ranges 0 k (leaf_range M k from before)

    pub halves_agree : Agrees (halves_sum words) 1 (2 ^ height M) words
    unfolding halves_sum
    halves_agree k from before = go (number_range M k (omega arith) (omega arith))
      where
        go : (levels : ℕ) × IsRange M levels k → get_or words k 0 ≡ get_or words (2 * k) 0 + get_or words (2 * k + 1) 0
        go (zero, range) = absurd (omega (arith, rw (sub-zero (height M)) at range.from))
        go (suc levels, range) =
            w.ranges (suc levels) k range
            ∙ number_halves sums M slots levels k range
            ∙ sym (ap₂ (λ (x y : ℕ). x + y) (w.ranges levels (2 * k) (range_left range)) (w.ranges levels (2 * k + 1) (range_right range)))
