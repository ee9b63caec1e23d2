-- The tallies as the slots give them, by the numbers of the ranges. Definitions only.
use Rattle.std.specs.Prelude.{◌≡◌, List, ℕ, ◌≤◌, ◌<◌, length, get_or}
use Rattle.store_layout.specs.Leaf.{nonzero}
use Rattle.store_scoring.specs.Scoring.{tally}
use Rattle.store_sums.specs.Range.{range_slots}
use Rattle.store_sums.specs.Numbers.{number_at, number_before, NumbersBut, NumbersIn}

-- The number of scoring entries in the slots of the range k, `levels` above the leaves, and in the slots before it.
abbrev pub tally_at : ℕ → List ℕ → ℕ → ℕ → ℕ
tally_at = number_at tally

abbrev pub tally_before : ℕ → List ℕ → ℕ → ℕ → ℕ
tally_before = number_before tally

-- The counts at the leaves with the range numbers from `first` up to, not including, `end` are the numbers of entries in their slots.
abbrev pub LeavesCounted : ℕ → List ℕ → ℕ → ℕ → List ℕ → Type 0
LeavesCounted M slots first end counts = (k : ℕ) → first ≤ k → k < end → get_or counts k 0 ≡ length (nonzero (range_slots M slots 0 k))

-- The numbers are the tallies of the ranges, but perhaps at those that have a leaf with a range number from `first` up to, not including, `end`;
-- and 0 at the number 0 and at those that no range has.
abbrev pub TalliesBut : ℕ → List ℕ → ℕ → ℕ → List ℕ → Type 0
TalliesBut = NumbersBut tally 0

-- The numbers are the tallies of all ranges.
abbrev pub TalliesIn : ℕ → List ℕ → List ℕ → Type 0
TalliesIn = NumbersIn tally 0
