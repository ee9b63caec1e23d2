-- The ranks of a notice board, whose entries are read in one walk along the sheet (document 02, F-9). Definitions only.
use Rattle.std.specs.Prelude.{Bool, false, ◌||◌, List, [], ◌∷◌, map, ℕ, leb, ltb, get_or}

-- The ranks fall: the first one is below `low`, or one is below the one before it.
unfoldable pub falls_below : ℕ → List ℕ → Bool
falls_below low [] = false
falls_below low (rank ∷ ranks) = ltb rank low || falls_below rank ranks

abbrev pub falls : List ℕ → Bool
falls ranks = falls_below 0 ranks

-- Some rank is that of no entry, of N of them.
unfoldable pub some_from : ℕ → List ℕ → Bool
some_from N [] = false
some_from N (rank ∷ ranks) = leb N rank || some_from N ranks

-- The entries at the ranks.
abbrev pub entries_at : List ℕ → List ℕ → List ℕ
entries_at list ranks = map (λ rank. get_or list rank 0) ranks
