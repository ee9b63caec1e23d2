-- The ranges above some ranges, and numbers that stand at their places but perhaps there. Definitions only.
use Rattle.std.specs.Prelude.{◌≡◌, List, ℕ, ◌/◌, ◌^◌, ◌≤◌, ◌<◌, length, get_or}
use Rattle.store_order.specs.CountOrder.{count_place}

-- The range k is one of those from `first` to `last`, or a range so many levels above one of them.
pub record Above (first last k : ℕ) : Type 0 where
  pub levels : ℕ
  pub some : 0 < k
  pub from : first / 2 ^ levels ≤ k
  pub to : k ≤ last / 2 ^ levels

-- The places hold the numbers of their ranges, but perhaps at the ranges from `first` to `last` and those above them. Number 0, which is the size
-- parameter, and the numbers behind those of the ranges stand at their own places.
pub record PlacedBut (h first last : ℕ) (numbers counts : List ℕ) : Type 0 where
  pub lengths : length counts ≡ length numbers
  pub others : (k : ℕ) → ¬ Above first last k → get_or counts (count_place h k) 0 ≡ get_or numbers k 0
