-- The slots of a leaf that are taken, as one number. Definitions only.
use Rattle.std.specs.Prelude.{List, [], ◌∷◌, ℕ, zero, suc, ◌+◌, ◌*◌, ◌^◌, length, replicate}
use Rattle.base.specs.Lists.{tabulate}
use Rattle.store_layout.specs.Leaf.{spread}

-- 1 where a slot holds an entry, 0 where it is empty.
unfoldable pub is_taken : ℕ → ℕ
is_taken zero = 0
is_taken (suc x) = 1

-- The slots that are taken, as a binary number: a digit for each slot, the first slot's the highest.
unfoldable pub taken : List ℕ → ℕ
taken [] = 0
taken (x ∷ xs) = is_taken x * 2 ^ length xs + taken xs

-- The mask of n entries in s slots: the slots that they take by the leaf rule.
unfoldable pub mask : ℕ → ℕ → ℕ
mask s n = taken (spread s (replicate n 1))

-- The masks of 0, 1, .., s entries in s slots.
unfoldable pub masks : ℕ → List ℕ
masks s = tabulate (mask s) 0 (suc s)
