-- Places of written lists; bit 63 adds 2 ^ 63 to an entry, and bit 62, of a retired boat, 2 ^ 62.
use Rattle.std.specs.Prelude.{◌≡◌, refl, List, [], ◌∷◌, true, ℕ, ◌+◌, ◌-◌, ◌^◌}
use Rattle.store_scoring.specs.Scoring.{retired_bit, tally}
use Rattle.store_ties.specs.declared.Placing.{Placing}
use Rattle.store_ties.specs.Groups.{group_first, tied_from, group_end, places_sum, placing, placing_of}
use Rattle.store_ties.specs.Ties.{tie_bit, ties_from, no_place, placing_in}

-- An entry with bit 63, that of a retired boat, and that of a retired boat with bit 63.
abbrev with_bit : ℕ → ℕ
with_bit e = 2 ^ 63 + e

abbrev out : ℕ → ℕ
out e = 2 ^ 62 + e

abbrev out_with_bit : ℕ → ℕ
out_with_bit e = 2 ^ 63 + 2 ^ 62 + e

abbrev has : ℕ → ℕ → ℕ → Placing
has place sum boats = record { place = place; sum = sum; boats = boats }

-- ---- no boat retired

-- Five boats: the second and third crossed together, and so did the last two.
abbrev five : List ℕ
five = 10 ∷ 11 ∷ with_bit 12 ∷ 13 ∷ with_bit 14 ∷ []

-- the winner; 2 + 3 places for two boats, 2.5 points each; and the last
five_places : (placing_in five 0 ≡ has 1 1 1) × (placing_in five 1 ≡ has 2 5 2) × (placing_in five 2 ≡ has 2 5 2) × (placing_in five 4 ≡ has 4 9 2)
unfolding retired_bit tally tie_bit ties_from placing_in group_first tied_from group_end places_sum placing placing_of
five_places = (refl, refl, refl, refl)

-- The bit has no effect at rank 0; three boats share the places 1, 2 and 3.
at_rank_zero : placing_in (with_bit 10 ∷ with_bit 11 ∷ with_bit 12 ∷ 13 ∷ []) 0 ≡ has 1 6 3
unfolding retired_bit tally tie_bit ties_from placing_in group_first tied_from group_end places_sum placing placing_of
at_rank_zero = refl

-- All 1,024 boats tied.
all : placing_of (λ i. true) 1024 700 ≡ has 1 524800 1024
unfolding group_first tied_from group_end places_sum placing placing_of
all = refl

-- ---- bits

-- The highest entry without bits, and the lowest and the highest with bit 62 alone.
lowest_out : (placing_in (1 ∷ (2 ^ 62 - 1) ∷ []) 1 ≡ has 2 2 1) × (placing_in (1 ∷ (2 ^ 62) ∷ []) 1 ≡ no_place) × (placing_in (1 ∷ (2 ^ 63 - 1) ∷ []) 1 ≡ no_place)
unfolding retired_bit tally tie_bit ties_from placing_in group_first tied_from group_end places_sum placing placing_of
lowest_out = (refl, refl, refl)

-- The lowest and the highest with bit 63 alone, and the lowest with both.
lowest_tied : (placing_in (1 ∷ (2 ^ 63) ∷ []) 1 ≡ has 1 3 2)
    × (placing_in (1 ∷ (2 ^ 63 + 2 ^ 62 - 1) ∷ []) 1 ≡ has 1 3 2)
    × (placing_in (1 ∷ (2 ^ 63 + 2 ^ 62) ∷ []) 1 ≡ no_place)
unfolding retired_bit tally tie_bit ties_from placing_in group_first tied_from group_end places_sum placing placing_of
lowest_tied = (refl, refl, refl)

-- ---- boats retired

-- The second of four boats is retired, and the third did not tie: they have the places 1, 2 and 3.
one_out : let list : List ℕ = 10 ∷ out 11 ∷ 12 ∷ 13 ∷ [] in
    (placing_in list 0 ≡ has 1 1 1) × (placing_in list 1 ≡ no_place) × (placing_in list 2 ≡ has 2 2 1) × (placing_in list 3 ≡ has 3 3 1)
unfolding retired_bit tally tie_bit ties_from placing_in group_first tied_from group_end places_sum placing placing_of
one_out = (refl, refl, refl, refl)

-- A tie over two retired boats that bear the bit: the first and the last boat share the places 1 and 2.
tie_over : let list : List ℕ = 10 ∷ out_with_bit 11 ∷ out_with_bit 12 ∷ with_bit 13 ∷ [] in
    (placing_in list 0 ≡ has 1 3 2) × (placing_in list 1 ≡ no_place) × (placing_in list 2 ≡ no_place) × (placing_in list 3 ≡ has 1 3 2)
unfolding retired_bit tally tie_bit ties_from placing_in group_first tied_from group_end places_sum placing placing_of
tie_over = (refl, refl, refl, refl)

-- One of the retired boats without the bit: there is no tie, whichever of the two it is.
tie_broken : (placing_in (10 ∷ out 11 ∷ out_with_bit 12 ∷ with_bit 13 ∷ []) 3 ≡ has 2 2 1)
    × (placing_in (10 ∷ out_with_bit 11 ∷ out 12 ∷ with_bit 13 ∷ []) 3 ≡ has 2 2 1)
    × (placing_in (10 ∷ out_with_bit 11 ∷ out 12 ∷ with_bit 13 ∷ []) 0 ≡ has 1 1 1)
unfolding retired_bit tally tie_bit ties_from placing_in group_first tied_from group_end places_sum placing placing_of
tie_broken = (refl, refl, refl)

-- The bit of a retired boat alone ties nobody.
own_bit : placing_in (10 ∷ out_with_bit 11 ∷ 12 ∷ []) 2 ≡ has 2 2 1
unfolding retired_bit tally tie_bit ties_from placing_in group_first tied_from group_end places_sum placing placing_of
own_bit = refl

-- Retired boats before the first scoring boat, with the bit and without: that bit on her has no effect, and the next one ties with her.
first_out : let list : List ℕ = out_with_bit 10 ∷ out 11 ∷ with_bit 12 ∷ with_bit 13 ∷ [] in
    (placing_in list 0 ≡ no_place) × (placing_in list 2 ≡ has 1 3 2) × (placing_in list 3 ≡ has 1 3 2)
unfolding retired_bit tally tie_bit ties_from placing_in group_first tied_from group_end places_sum placing placing_of
first_out = (refl, refl, refl)

first_out_tied : placing_in (out_with_bit 10 ∷ with_bit 11 ∷ 12 ∷ []) 1 ≡ has 1 1 1
unfolding retired_bit tally tie_bit ties_from placing_in group_first tied_from group_end places_sum placing placing_of
first_out_tied = refl

-- The last boats retired.
last_out : let list : List ℕ = 10 ∷ with_bit 11 ∷ out_with_bit 12 ∷ out 13 ∷ [] in
    (placing_in list 0 ≡ has 1 3 2) × (placing_in list 1 ≡ has 1 3 2) × (placing_in list 2 ≡ no_place) × (placing_in list 3 ≡ no_place)
unfolding retired_bit tally tie_bit ties_from placing_in group_first tied_from group_end places_sum placing placing_of
last_out = (refl, refl, refl, refl)

-- All boats retired.
all_out : let list : List ℕ = out 10 ∷ out_with_bit 11 ∷ out 12 ∷ [] in (placing_in list 0 ≡ no_place) × (placing_in list 1 ≡ no_place) × (placing_in list 2 ≡ no_place)
unfolding retired_bit tally tie_bit ties_from placing_in group_first tied_from group_end places_sum placing placing_of
all_out = (refl, refl, refl)
