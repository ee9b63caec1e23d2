-- Keys of written lists.
use Rattle.std.specs.Prelude.{◌≡◌, refl, true, false, [], ◌∷◌, ◌+◌, ◌^◌}
use Rattle.base.specs.Cases.{if_lt}
use Rattle.store_keys.specs.Key.{key, rise_from, rises, rank_of, present}

-- a list that rises, one with equal entries, and one that falls
rising : rises (3 ∷ 5 ∷ 9 ∷ []) ≡ true
unfolding rise_from key
rising = refl

equal : rises (3 ∷ 5 ∷ 5 ∷ []) ≡ false
unfolding rise_from key
equal = refl

falling : rises (3 ∷ 9 ∷ 5 ∷ []) ≡ false
unfolding rise_from key
falling = refl

-- the bits 63 and 62 change nothing of the order: entries with them among others, one key twice, and the bits alone
with_bits : rises (3 ∷ (2 ^ 63 + 5) ∷ (2 ^ 62 + 9) ∷ (2 ^ 63 + 2 ^ 62 + 11) ∷ []) ≡ true
unfolding rise_from key
with_bits = refl

twice : (rises (3 ∷ 5 ∷ (2 ^ 63 + 5) ∷ []) ≡ false) × (rises (3 ∷ (2 ^ 62 + 5) ∷ 5 ∷ []) ≡ false)
unfolding rise_from key
twice = (refl, refl)

bits_alone : (rises ((2 ^ 63) ∷ []) ≡ false) × (rises ((2 ^ 62) ∷ []) ≡ false) × (rises ((2 ^ 63 + 2 ^ 62) ∷ []) ≡ false)
unfolding rise_from key
bits_alone = (refl, refl, refl)

-- bit 61 alone is a key
bit_61 : rises ((2 ^ 61) ∷ []) ≡ true
unfolding rise_from key
bit_61 = refl

-- an entry that is there, and one that would stand between two others
there : (present 5 (3 ∷ 5 ∷ 9 ∷ []) ≡ true) × (rank_of 5 (3 ∷ 5 ∷ 9 ∷ []) ≡ 1)
unfolding present rank_of key if_lt
there = (refl, refl)

absent : (present 7 (3 ∷ 5 ∷ 9 ∷ []) ≡ false) × (rank_of 7 (3 ∷ 5 ∷ 9 ∷ []) ≡ 2)
unfolding present rank_of key if_lt
absent = (refl, refl)
