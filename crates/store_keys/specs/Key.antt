-- Entries of a timed sheet compared by their keys (document 02, F-1, F-3 and F-11): lists that rise, and the rank of a key. Definitions only.
use Rattle.std.specs.Prelude.{Bool, true, false, ◌&&◌, ◌||◌, List, [], ◌∷◌, ℕ, suc, ◌%◌, ◌^◌, ◌<◌, eqb, ltb}
use Rattle.base.specs.Cases.{if_lt}
use Rattle.base.specs.Lists.{Every}

-- The key of an entry is the entry without the bits 63 and 62: the finish time in the bits from 32 on, the sail number in the lower 32.
unfoldable pub key : ℕ → ℕ
key e = e % 2 ^ 62

-- The keys rise strictly, the first one from above `low`; and the test of that.
unfoldable pub RiseFrom : ℕ → List ℕ → Type 0
RiseFrom low [] = Unit {0}
RiseFrom low (e ∷ list) = (low < key e) × RiseFrom (key e) list

unfoldable pub rise_from : ℕ → List ℕ → Bool
rise_from low [] = true
rise_from low (e ∷ list) = ltb low (key e) && rise_from (key e) list

-- The list rises: its keys are other than 0 and rise strictly.
abbrev pub Rises : List ℕ → Type 0
Rises list = RiseFrom 0 list

abbrev pub rises : List ℕ → Bool
rises list = rise_from 0 list

-- The rank of a key: the number of entries with keys below it. In a list that rises an entry with this key stands there, or would stand.
unfoldable pub rank_of : ℕ → List ℕ → ℕ
rank_of k [] = 0
rank_of k (e ∷ list) = if_lt (key e) k (suc (rank_of k list)) (rank_of k list)

-- An entry with this key is in the list.
unfoldable pub present : ℕ → List ℕ → Bool
present k [] = false
present k (e ∷ list) = eqb (key e) k || present k list

-- Every key of the list is below k, or above it.
abbrev pub KeysBelow : ℕ → List ℕ → Type 0
KeysBelow k list = Every (λ e. key e < k) list

abbrev pub KeysAbove : ℕ → List ℕ → Type 0
KeysAbove k list = Every (λ e. k < key e) list
