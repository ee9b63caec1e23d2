-- Which scoring boats of a finishing list are tied with the scoring boat before them, by bit 63 of the entries (document 02, F-3 and F-11).
-- Definitions only.
use Rattle.std.specs.Prelude.{Bool, true, false, ◌&&◌, List, [], ◌∷◌, ◌≡◌, ℕ, ◌^◌, ◌≤◌, ◌<◌, leb, get_or, take}
use Rattle.store_scoring.specs.Scoring.{retired_bit, tally}
use Rattle.store_ties.specs.declared.Placing.{Placing}
use Rattle.store_ties.specs.Groups.{group_first, placing_of}

-- Bit 63 of a 64-bit entry, the highest.
unfoldable pub tie_bit : ℕ → Bool
tie_bit e = leb (2 ^ 63) e

-- For each scoring boat of the list, whether she ties with the scoring boat before her: she and every retired boat between them bear bit 63.
-- `all` tells whether the retired boats right before the list bear it, back to the scoring boat before them.
unfoldable pub ties_from : Bool → List ℕ → List Bool
ties_from all [] = []
ties_from all (e ∷ list) = elim (retired_bit e) [ true ↦ ties_from (all && tie_bit e) list | false ↦ (all && tie_bit e) ∷ ties_from true list ]

-- The scoring boat number j, from 0, ties with the scoring boat before her.
abbrev pub tied_in : List ℕ → ℕ → Bool
tied_in list j = get_or (ties_from true list) j false

-- What a retired boat has: no place, and a group of herself.
abbrev pub no_place : Placing
no_place = record { place = 0; sum = 0; boats = 1 }

-- The place, the sum of places and the number of boats in the tied group of the boat at rank i. Groups are those of the scoring boats among
-- themselves, where she has as many before her as the ranks below i have.
unfoldable pub placing_in : List ℕ → ℕ → Placing
placing_in list i =
    elim (retired_bit (get_or list i 0)) [ true ↦ no_place | false ↦ placing_of (tied_in list) (tally list) (tally (take i list)) ]

-- The sentence of document 02, rank by rank: the boat at rank i and every retired boat between her and the scoring boat before her bear bit 63.
-- Those are the boats from which on to rank i all are retired, she apart.
abbrev pub TiesBack : List ℕ → ℕ → Type 0
TiesBack list i =
    (j : ℕ) → j ≤ i → ((k : ℕ) → j ≤ k → k < i → retired_bit (get_or list k 0) ≡ true) → tie_bit (get_or list j 0) ≡ true

-- The first boat in the group of the boat at rank i stands at rank f.
pub record StartsAt (list : List ℕ) (i f : ℕ) : Type 0 where
  pub order : f ≤ i
  pub scoring : retired_bit (get_or list f 0) ≡ false
  pub first : group_first (tied_in list) (tally (take i list)) ≡ tally (take f list)
