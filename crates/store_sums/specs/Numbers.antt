-- A number for each range of a sheet that goes by the entries in its slots and adds up over its halves: how many there are, or how many of them
-- score. Definitions only.
use Rattle.std.specs.Prelude.{◌≡◌, List, [], ◌++◌, ℕ, ◌+◌, ◌-◌, ◌*◌, ◌^◌, ◌≤◌, length, get_or, take}
use Rattle.tree_sizes.specs.Sizes.{height, leaf_slots}
use Rattle.store_layout.specs.Leaf.{nonzero}
use Rattle.store_sums.specs.Range.{IsRange, range_slots}

-- What is counted of the entries of a list adds up, and is at most one for each.
pub record Additive (measure : List ℕ → ℕ) : Type 0 where
  pub empty : measure [] ≡ 0
  pub joined : (xs ys : List ℕ) → measure (xs ++ ys) ≡ measure xs + measure ys
  pub few : (xs : List ℕ) → measure xs ≤ length xs

-- The number of the range k, `levels` above the leaves, and that of the slots before it.
unfoldable pub number_at : (List ℕ → ℕ) → ℕ → List ℕ → ℕ → ℕ → ℕ
number_at measure M slots levels k = measure (nonzero (range_slots M slots levels k))

unfoldable pub number_before : (List ℕ → ℕ) → ℕ → List ℕ → ℕ → ℕ → ℕ
number_before measure M slots levels k = measure (nonzero (take (leaf_slots M * (k * 2 ^ levels - 2 ^ height M)) slots))

-- The words are the numbers of the ranges, but perhaps at the ranges that have a leaf with a range number from `first` up to, not including,
-- `end`; `start` stands at the number 0, and 0 at those that no range has.
pub record NumbersBut (measure : List ℕ → ℕ) (start M : ℕ) (slots : List ℕ) (first end : ℕ) (words : List ℕ) : Type 0 where
  pub zero : get_or words 0 0 ≡ start
  pub left : (levels k : ℕ) → IsRange M levels k → (k + 1) * 2 ^ levels ≤ first → get_or words k 0 ≡ number_at measure M slots levels k
  pub right : (levels k : ℕ) → IsRange M levels k → end ≤ k * 2 ^ levels → get_or words k 0 ≡ number_at measure M slots levels k
  pub unused : (k : ℕ) → 2 * 2 ^ height M ≤ k → get_or words k 0 ≡ 0

-- The words are the numbers of all ranges.
pub record NumbersIn (measure : List ℕ → ℕ) (start M : ℕ) (slots words : List ℕ) : Type 0 where
  pub zero : get_or words 0 0 ≡ start
  pub ranges : (levels k : ℕ) → IsRange M levels k → get_or words k 0 ≡ number_at measure M slots levels k
  pub unused : (k : ℕ) → 2 * 2 ^ height M ≤ k → get_or words k 0 ≡ 0
