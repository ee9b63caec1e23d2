-- The third slice as the slots give it, by the numbers of the ranges. Definitions only.
use Rattle.std.specs.Prelude.{List, [], ◌∷◌, ◌++◌, ℕ, zero, suc, ◌+◌, ◌-◌, ◌*◌, ◌^◌, get_or, drop}
use Rattle.base.specs.Lists.{tabulate}
use Rattle.tree_sizes.specs.Sizes.{height, leaf_slots}
use Rattle.store_layout.specs.Leaf.{nonzero}
use Rattle.store_layout.specs.Layout.{pad_to}

-- The first entry that stands from the slot `from` on, 0 if there is none.
unfoldable pub first_from : List ℕ → ℕ → ℕ
first_from slots from = get_or (nonzero (drop from slots)) 0 0

-- The first entries from the right halves on of so many ranges, which stand one after the other from the first slot on and have halves of
-- `half` slots each: the right half of the range i, from 0, begins at the slot (2 i + 1) * half.
unfoldable pub right_firsts : List ℕ → ℕ → ℕ → List ℕ
right_firsts slots half ranges = tabulate (λ i. first_from slots ((2 * i + 1) * half)) 0 ranges

-- In a sheet with leaves of s slots at depth h, the words of the ranges above `depth`: 0 at the number 0, which no range has; then, row by row,
-- at the numbers 2 ^ d + i with i < 2 ^ d, those of the ranges at depth d, whose halves have 2 ^ (h - d - 1) leaves each.
unfoldable pub rows_to : ℕ → ℕ → List ℕ → ℕ → List ℕ
rows_to h s slots zero = 0 ∷ []
rows_to h s slots (suc d) = rows_to h s slots d ++ right_firsts slots (s * 2 ^ (h - d - 1)) (2 ^ d)

-- The third slice, of `room` words, that the slots of a sheet of size M give: the words of the ranges above the leaves, and 0 behind them.
unfoldable pub balance_in : ℕ → ℕ → List ℕ → List ℕ
balance_in M room slots = pad_to room (rows_to (height M) (leaf_slots M) slots (height M))
