-- A leaf: its entries in its slots, and 0 in every slot without one. Definitions only.
use Rattle.std.specs.Prelude.{List, [], ◌∷◌, ℕ, zero, suc, ◌+◌, ◌*◌, ◌/◌, ◌<◌, length, set, replicate}

-- The leaf rule (document 02, F-2): of n entries in s slots, entry k, from 0, stands in slot ⌊(2k + 1) × s / (2n)⌋.
unfoldable pub slot_of : ℕ → ℕ → ℕ → ℕ
slot_of s n k = (2 * k + 1) * s / (2 * n)

-- What the rest relies on of a leaf rule: the entries stand in order, in slots of the leaf.
pub record Positions (n s : ℕ) (position : ℕ → ℕ) : Type 0 where
  pub rises : (j k : ℕ) → j < k → k < n → position j < position k
  pub inside : (k : ℕ) → k < n → position k < s

-- The slots with the entries put in at the positions of k, k + 1, ..
unfoldable pub put_entries : (ℕ → ℕ) → ℕ → List ℕ → List ℕ → List ℕ
put_entries position k [] slots = slots
put_entries position k (x ∷ xs) slots = set (put_entries position (suc k) xs slots) (position k) x

-- s slots with the entries at the places of the leaf rule, and 0 in every other slot.
unfoldable pub spread : ℕ → List ℕ → List ℕ
spread s entries = put_entries (slot_of s (length entries)) 0 entries (replicate s 0)

-- The entries that stand in some slots, from left to right.
unfoldable pub nonzero : List ℕ → List ℕ
nonzero [] = []
nonzero (zero ∷ slots) = nonzero slots
nonzero (suc x ∷ slots) = suc x ∷ nonzero slots
