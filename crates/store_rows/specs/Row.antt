-- Ranges of one row of the tree, and their numbers written. Definitions only.
use Rattle.std.specs.Prelude.{◌≡◌, List, ℕ, ◌+◌, ◌*◌, ◌^◌, ◌≤◌, ◌<◌, length, get_or}
use Rattle.store_order.specs.CountOrder.{count_place}

-- The ranges from `first` to `last` stand `depth` levels below the root.
pub record Row (depth first last : ℕ) : Type 0 where
  pub from : 2 ^ depth ≤ first
  pub order : first ≤ last
  pub before : last < 2 * 2 ^ depth

-- So many rows are left, the lowest of them with the ranges from `first` to `last`; with no row left these are 0.
pub record RowsLeft (rows first last : ℕ) : Type 0 where
  pub from : 2 ^ rows ≤ 2 * first + 1
  pub order : first ≤ last
  pub before : last < 2 ^ rows

-- The new counts have the numbers of the ranges from `first` up to, not including, `end` at their places, and the old counts elsewhere.
pub record RowWritten (h first end : ℕ) (numbers old new : List ℕ) : Type 0 where
  pub inside : (k : ℕ) → first ≤ k → k < end → get_or new (count_place h k) 0 ≡ get_or numbers k 0
  pub front : (k : ℕ) → k < first → get_or new (count_place h k) 0 ≡ get_or old (count_place h k) 0
  pub behind : (k : ℕ) → end ≤ k → get_or new (count_place h k) 0 ≡ get_or old (count_place h k) 0
  pub kept : length new ≡ length old
