-- What the code that tests and writes tallies is given. Definitions only.
use Rattle.std.specs.Prelude.{◌≡◌, ◌≢◌, List, ℕ, ◌+◌, ◌*◌, ◌^◌, ◌≤◌, ◌<◌, length, replicate}
use Rattle.tree_sizes.specs.Sizes.{height, slots}
use Rattle.tree_counts.specs.declared.Part.{Part}
use Rattle.store_order.specs.CountOrder.{count_order}
use Rattle.store_tallies.specs.TalliesIn.{LeavesCounted, TalliesBut}
use Rattle.store_part.specs.Plan.{first_leaf, last_leaf, PartIn}

-- A sheet of size M has room in the slots and in so many tallies.
pub record TalliesReady (M : ℕ) (sl : List ℕ) (room : ℕ) : Type 0 where
  pub most : M < 2 ^ 30
  pub slots_room : slots M ≤ length sl
  pub ranges_room : 2 * 2 ^ height M ≤ room

-- The counts, by range number, have room for its ranges, and those of the leaves are the numbers of entries in their slots.
pub record CountsReady (M : ℕ) (sl counts : List ℕ) : Type 0 where
  pub room : 2 * 2 ^ height M ≤ length counts
  pub counted : LeavesCounted M sl (2 ^ height M) (2 * 2 ^ height M) counts

-- The part is one of the sheet; and where it is not the whole sheet, the numbers are the tallies by range number, and those that the slots give, but
-- perhaps at the ranges that have a leaf of it.
pub record PartReady (M : ℕ) (part : Part) (sl tallies numbers : List ℕ) : Type 0 where
  pub inside : PartIn M part
  pub same : part.range ≢ 1 → tallies ≡ count_order (height M) numbers
  pub kept : part.range ≢ 1 → TalliesBut M sl (first_leaf M part) (last_leaf M part + 1) numbers

-- The numbers from which the tallies are brought up to date: 0 where the range is the whole sheet, and otherwise those before.
pub record StartsFrom (range : ℕ) (old new : List ℕ) : Type 0 where
  pub whole : range ≡ 1 → new ≡ replicate (length old) 0
  pub other : range ≢ 1 → new ≡ old
