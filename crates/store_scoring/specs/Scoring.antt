-- Retired boats and scoring boats (document 02, F-11). Definitions only.
use Rattle.std.specs.Prelude.{Bool, true, false, ◌&&◌, not, List, [], ◌∷◌, ℕ, suc, ◌%◌, ◌^◌, leb}

-- Bit 62 of a 64-bit entry: the boat is retired or disqualified. She stays on the sheet but holds no place; every other boat scores.
unfoldable pub retired_bit : ℕ → Bool
retired_bit e = leb (2 ^ 62) (e % 2 ^ 63)

-- The number of scoring entries of a list.
unfoldable pub tally : List ℕ → ℕ
tally [] = 0
tally (e ∷ list) = elim (retired_bit e) [ true ↦ tally list | false ↦ suc (tally list) ]

-- The test that no boat of a list is retired.
unfoldable pub none_retired : List ℕ → Bool
none_retired [] = true
none_retired (e ∷ list) = not (retired_bit e) && none_retired list
