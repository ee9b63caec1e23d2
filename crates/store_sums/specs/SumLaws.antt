-- The numbers of ranges: their slots, the sum over the halves, and the numbers of the slots before them.
use Rattle.std.specs.Prelude.{◌≡◌, refl, List, ◌++◌, length, take, drop}
use Rattle.std.proofs.Math.Path.{sym}
use Rattle.std.proofs.Common.{ap, ◌∙◌, mul-one, mul-le-mul_left, length-append, length-take, pow_mono}
use Prim.Native.Nat.{ℕ, suc, ◌+◌, ◌-◌, ◌*◌, ◌^◌, ◌≤◌, ◌<◌}
use Rattle.std.proofs.Math.Nat.{mul-zero, pow-succ'}
use native.Mathlib.Omega.{arith}
use Rattle.std.proofs.Math.Seq.{take-add, drop-drop}
use Rattle.tree_sizes.specs.Sizes as sizes
use Rattle.tree_sizes.specs.Sizes.{height, leaf_slots}
use Rattle.store_layout.specs.Leaf.{nonzero}
use Rattle.store_layout.proofs.LeafLaws.{nonzero_append, nonzero_length}
use Rattle.store_sums.specs.Range.{IsRange, range_slots}
use Rattle.store_sums.specs.Numbers.{Additive, number_at, number_before}
use Rattle.store_sums.specs.IsRangeLaws.{range_from}

-- ---- the numbers of ranges

-- Each row has twice as many ranges as the one above it.
pub row_twice : (h levels : ℕ) → levels < h → 2 ^ (h - levels) ≡ 2 * 2 ^ (h - suc levels)
row_twice h levels above =
    let next : h - levels ≡ suc (h - suc levels) = omega arith in
    rw next (pow-succ' 2 (h - suc levels))

module _ {M levels k : ℕ} where
  -- Both halves of a range are ranges.
  module _ (w : IsRange M (suc levels) k) where
    twice : 2 ^ (height M - levels) ≡ 2 * 2 ^ (height M - suc levels)
    twice = row_twice (height M) levels w.inside

    pub range_left : IsRange M levels (2 * k)
    range_left = record {
      inside = omega (arith, w.inside);
      from = omega (arith, twice, w.from);
      before = omega (arith, twice, w.before);
    }

    pub range_right : IsRange M levels (2 * k + 1)
    range_right = record {
      inside = omega (arith, w.inside);
      from = omega (arith, twice, w.from);
      before = omega (arith, twice, w.before);
    }

-- ---- their numbers

pub slots_leaf : (M : ℕ) (slots : List ℕ) (k : ℕ) → range_slots M slots 0 k ≡ take (leaf_slots M) (drop (leaf_slots M * (k - 2 ^ height M)) slots)
unfolding range_slots
slots_leaf M slots k = rw (mul-one k, mul-one (leaf_slots M))

pub number_leaf : (measure : List ℕ → ℕ) (M : ℕ) (slots : List ℕ) (k : ℕ)
    → number_at measure M slots 0 k ≡ measure (nonzero (take (leaf_slots M) (drop (leaf_slots M * (k - 2 ^ height M)) slots)))
unfolding number_at
number_leaf measure M slots k = ap (λ (xs : List ℕ). measure (nonzero xs)) (slots_leaf M slots k)

module _ {measure : List ℕ → ℕ} (sums : Additive measure) where
  -- Of slots one after the other, and of so many slots.
  slots_append : (xs ys : List ℕ) → measure (nonzero (xs ++ ys)) ≡ measure (nonzero xs) + measure (nonzero ys)
  slots_append xs ys = rw (nonzero_append xs ys) (sums.joined (nonzero xs) (nonzero ys))

  pub slots_few : (n : ℕ) (slots : List ℕ) → measure (nonzero (take n slots)) ≤ n
  slots_few n slots = omega (arith, sums.few (nonzero (take n slots)), nonzero_length (take n slots), length-take n slots)

module _ {measure : List ℕ → ℕ} (sums : Additive measure) (M : ℕ) (slots : List ℕ) where
  pub number_small : (levels k : ℕ) → number_at measure M slots levels k ≤ leaf_slots M * 2 ^ levels
  unfolding number_at range_slots
  number_small levels k = slots_few sums (leaf_slots M * 2 ^ levels) (drop (leaf_slots M * (k * 2 ^ levels - 2 ^ height M)) slots)

  -- Of two ranges side by side, and of the slots up to the second.
  module _ (levels k : ℕ) (start : 2 ^ height M ≤ k * 2 ^ levels) where
    abbrev from : ℕ
    from = leaf_slots M * (k * 2 ^ levels - 2 ^ height M)

    behind : leaf_slots M * ((k + 1) * 2 ^ levels - 2 ^ height M) ≡ from + leaf_slots M * 2 ^ levels
    behind =
        let leaves : (k + 1) * 2 ^ levels - 2 ^ height M ≡ (k * 2 ^ levels - 2 ^ height M) + 2 ^ levels = omega arith in
        ap (λ (n : ℕ). leaf_slots M * n) leaves ∙ omega arith

    pub before_next : number_before measure M slots levels (k + 1) ≡ number_before measure M slots levels k + number_at measure M slots levels k
    unfolding number_before number_at range_slots
    before_next =
        rw (behind, take-add from (leaf_slots M * 2 ^ levels) slots)
        (slots_append sums (take from slots) (take (leaf_slots M * 2 ^ levels) (drop from slots)))

    pub number_two : number_at measure M slots levels k + number_at measure M slots levels (k + 1)
        ≡ measure (nonzero (take (leaf_slots M * 2 ^ levels + leaf_slots M * 2 ^ levels) (drop from slots)))
    unfolding number_at range_slots
    number_two =
        rw (
          behind,
          take-add (leaf_slots M * 2 ^ levels) (leaf_slots M * 2 ^ levels) (drop from slots),
          drop-drop (leaf_slots M * 2 ^ levels) from slots,
        )
        (sym
        (slots_append sums (take (leaf_slots M * 2 ^ levels) (drop from slots))
        (take (leaf_slots M * 2 ^ levels) (drop (from + leaf_slots M * 2 ^ levels) slots))))

  -- A range has the number of its halves together.
  module _ (levels k : ℕ) where
    same_start : 2 * k * 2 ^ levels ≡ k * 2 ^ suc levels
    same_start = rw (pow-succ' 2 levels) (omega arith)

    pub number_halves : IsRange M (suc levels) k → number_at measure M slots (suc levels) k ≡ number_at measure M slots levels (2 * k) + number_at measure M slots levels (2 * k + 1)
    unfolding number_at range_slots
    number_halves w =
        let size : leaf_slots M * 2 ^ levels + leaf_slots M * 2 ^ levels ≡ leaf_slots M * 2 ^ suc levels = rw (pow-succ' 2 levels) (omega arith) in
        sym (number_two levels (2 * k) (range_from M levels (2 * k) (range_left w)) ∙ rw (same_start, size))

    -- The slots before it are those before its left half.
    pub before_left : number_before measure M slots (suc levels) k ≡ number_before measure M slots levels (2 * k)
    unfolding number_before
    before_left = rw same_start

  pub before_root : number_before measure M slots (height M) 1 ≡ 0
  unfolding number_before nonzero
  before_root =
      let none : 1 * 2 ^ height M - 2 ^ height M ≡ 0 = omega arith in
      rw (none, mul-zero (leaf_slots M)) sums.empty

-- The numbers of a sheet of this size are small.
pub range_small : {measure : List ℕ → ℕ} → Additive measure → (M : ℕ) (slots : List ℕ) (levels k : ℕ) → IsRange M levels k
    → number_at measure M slots levels k ≤ sizes.slots M
unfolding sizes.slots
range_small sums M slots levels k w = omega (arith, number_small sums M slots levels k, mul-le-mul_left (leaf_slots M) (pow_mono w.inside))

-- A leaf has its slots in the sheet, by the numbers that the code has.
pub leaf_room : (M k : ℕ) {s leaves : ℕ} → s ≡ leaf_slots M → leaves ≡ 2 ^ height M → leaves ≤ k → k < 2 * leaves → s * (k - leaves) + s ≤ sizes.slots M
unfolding sizes.slots
leaf_room M k {s} {leaves} size first from before =
    let within : k - leaves + 1 ≤ leaves = omega arith in
    rw (← size, ← first) (omega (arith, mul-le-mul_left s within))

-- The number of all entries adds up.
pub length_additive : Additive length
length_additive = record { empty = refl; joined = length-append; few = λ xs. omega arith }
