-- The ranges of a sheet by their numbers, and their slots. Definitions only.
use Rattle.std.specs.Prelude.{List, ℕ, ◌-◌, ◌*◌, ◌^◌, ◌≤◌, ◌<◌, take, drop}
use Rattle.tree_sizes.specs.Sizes.{height, leaf_slots}

-- The range k, `levels` above the leaves, of a sheet of size M.
pub record IsRange (M levels k : ℕ) : Type 0 where
  pub inside : levels ≤ height M
  pub from : 2 ^ (height M - levels) ≤ k
  pub before : k < 2 * 2 ^ (height M - levels)

-- Its slots: its leaves have the range numbers from k * 2 ^ levels on, and the first leaf of the sheet has the number 2 ^ height.
unfoldable pub range_slots : ℕ → List ℕ → ℕ → ℕ → List ℕ
range_slots M slots levels k = take (leaf_slots M * 2 ^ levels) (drop (leaf_slots M * (k * 2 ^ levels - 2 ^ height M)) slots)
