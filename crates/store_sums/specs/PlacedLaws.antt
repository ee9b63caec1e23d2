-- Numbers in the order of the counts, right but perhaps at the ranges that have some leaves: only these are to be written.
use Rattle.std.specs.Prelude.{◌≡◌, List, ℕ, zero, suc, ◌+◌, ◌*◌, ◌/◌, ◌^◌, ◌≤◌, ◌<◌, length, get_or}
use Rattle.std.proofs.Common.{sym, ap, ◌∙◌, ⊎_elim, arith, le-div_iff_mul-le, div-lt_iff_lt-mul, pow_pos}
use Rattle.base.specs.CaseLaws.{lt_or_ge, le_or_gt}
use Rattle.tree_sizes.specs.Sizes.{height}
use Rattle.store_order.specs.CountOrder.{count_place, count_order}
use Rattle.store_order.proofs.CountOrderLaws.{count_order_lem, length_count_order, get_d_number_order, number_count, count_order_unused}
use Rattle.store_rows.specs.Above.{Above, PlacedBut}
use Rattle.store_sums.specs.Range.{IsRange}
use Rattle.store_sums.specs.Numbers.{NumbersBut, NumbersIn}
use Rattle.store_sums.specs.IsRangeLaws.{number_range}

-- What stands at the place of a range.
at_place : (h : ℕ) (xs : List ℕ) → 2 * 2 ^ h ≤ length xs → (k : ℕ) → get_or (count_order h xs) (count_place h k) 0 ≡ get_or xs k 0
at_place h xs room k =
    ⊎_elim
    (λ (l : k < 2 * 2 ^ h).
    sym (get_d_number_order h (count_order h xs) k (omega (arith, length_count_order h xs))) ∙ ap (λ (ys : List ℕ). get_or ys k 0) (number_count h xs room))
    (λ (g : 2 * 2 ^ h ≤ k). rw ((count_order_lem h).unused_stay k g) (count_order_unused h xs k g))
    (lt_or_ge k (2 * 2 ^ h))

module _ {measure : List ℕ → ℕ} {start M : ℕ} {slots old new : List ℕ} {first last : ℕ} (w : NumbersBut measure start M slots first (last + 1) old)
    (v : NumbersIn measure start M slots new) where
  -- A range that is above none of the leaves has no leaf among them.
  apart : (k : ℕ) → ¬ Above first last k → get_or old k 0 ≡ get_or new k 0
  apart zero a = w.zero ∙ sym v.zero
  apart (suc k) a =
      ⊎_elim
      (λ (l : suc k < 2 * 2 ^ height M). let range = number_range M (suc k) (omega arith) l in by range.0 range.1)
      (λ (l : 2 * 2 ^ height M ≤ suc k). w.unused (suc k) l ∙ sym (v.unused (suc k) l))
      (lt_or_ge (suc k) (2 * 2 ^ height M))
    where
      by : (levels : ℕ) → IsRange M levels (suc k) → get_or old (suc k) 0 ≡ get_or new (suc k) 0
      by levels range =
          ⊎_elim
          (λ (left : (suc k + 1) * 2 ^ levels ≤ first). w.left levels (suc k) range left ∙ sym (v.ranges levels (suc k) range))
          (λ (l : first < (suc k + 1) * 2 ^ levels).
          ⊎_elim
          (λ (right : last + 1 ≤ suc k * 2 ^ levels). w.right levels (suc k) range right ∙ sym (v.ranges levels (suc k) range))
          (λ (g : suc k * 2 ^ levels < last + 1).
          let fewer : first / 2 ^ levels < suc k + 1 = (div-lt_iff_lt-mul (pow_pos levels)).1 l in
          absurd (a record { levels = levels; some = omega arith; from = omega arith; to = (le-div_iff_mul-le (pow_pos levels)).1 (omega arith) }))
          (le_or_gt (last + 1) (suc k * 2 ^ levels)))
          (le_or_gt ((suc k + 1) * 2 ^ levels) first)

  -- So in the order of the counts all numbers but those above these leaves stand at their places.
  pub placed_but : {counts : List ℕ} → counts ≡ count_order (height M) old → length old ≡ length new → 2 * 2 ^ height M ≤ length old
      → PlacedBut (height M) first last new counts
  placed_but is same room = record {
    lengths = ap length is ∙ length_count_order (height M) old ∙ same;
    others = λ k a. ap (λ (xs : List ℕ). get_or xs (count_place (height M) k) 0) is ∙ at_place (height M) old room k ∙ apart k a;
  }
