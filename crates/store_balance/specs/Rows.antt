-- How far the writing of the third slice has come. Definitions only.
use Rattle.std.specs.Prelude.{◌≡◌, List, ℕ, ◌-◌, ◌^◌, ◌≤◌, length}
use Rattle.store_layout.specs.Layout.{pad_to}
use Rattle.store_balance.specs.BalanceIn.{rows_to}

-- Of `room` words, in a sheet with leaves of s slots at depth h, those of the ranges more than `levels` above the leaves are written, and the
-- others are 0. The next row has so many ranges.
pub record Rows (h s : ℕ) (slots : List ℕ) (room levels ranges : ℕ) (words : List ℕ) : Type 0 where
  pub within : levels ≤ h
  pub number : ranges ≡ 2 ^ (h - levels)
  pub is : words ≡ pad_to room (rows_to h s slots (h - levels))
  pub kept : length words ≡ room
