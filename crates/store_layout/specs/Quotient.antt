-- A quotient with its remainder, and where an entry of a leaf stands by it. Definitions only.
use Rattle.std.specs.Prelude.{◌≡◌, ℕ, ◌+◌, ◌-◌, ◌*◌, ◌/◌, ◌%◌}
use Rattle.base.specs.Cases.{if_lt}
use Rattle.store_layout.specs.declared.Quotient.{Quotient}

-- x / n, and its remainder
unfoldable pub divided : ℕ → ℕ → Quotient
divided x n = record { whole = x / n; rest = x % n }

-- Two quotients by n added: a remainder that reaches n is carried.
unfoldable pub added : ℕ → Quotient → Quotient → Quotient
added n p q =
    if_lt (p.rest + q.rest) n
    record { whole = p.whole + q.whole; rest = p.rest + q.rest }
    record { whole = p.whole + q.whole + 1; rest = p.rest + q.rest - n }

-- Of n entries in s slots, entry k stands in slot (2k + 1) × s / (2n). Where there is no entry, the position is behind the last slot.
unfoldable pub position_of : ℕ → ℕ → ℕ → Quotient
position_of s n k = if_lt 0 n (divided ((2 * k + 1) * s) (2 * n)) record { whole = s; rest = 0 }

-- A position is that of entry k.
pub record Stands (s n k : ℕ) (position : Quotient) : Type 0 where
  pub is : position ≡ position_of s n k
