-- The size rules (document 01, "Size rules"): what the size parameter M gives, and where the candidates of a range stand.
-- Definitions only.
use Rattle.std.specs.Prelude.{true, false, ℕ, zero, suc, ◌+◌, ◌-◌, ◌*◌, ◌/◌, ◌^◌, ◌≤◌, ◌<◌, leb}
use Rattle.base.specs.Cases.{if_le}

-- How often x can be doubled without passing m, at most `fuel` times: the largest k up to `fuel` with x * 2 ^ k ≤ m, and 0 where x is
-- above m already.
unfoldable pub doublings : ℕ → ℕ → ℕ → ℕ
doublings zero x m = 0
doublings (suc fuel) x m = elim (leb (2 * x) m) [ true ↦ suc (doublings fuel (2 * x) m) | false ↦ 0 ]

-- ⌈a / b⌉
unfoldable pub ceil_div : ℕ → ℕ → ℕ
ceil_div a b = (a + (b - 1)) / b

-- The size parameters that N entries can have: M = 0 for N = 0, otherwise N ≤ M ≤ 2 N - 1.
pub record Allowed (N M : ℕ) : Type 0 where
  pub least : N ≤ M
  pub most : M ≤ 2 * N - 1

-- g, the number of binary digits of M - 1.
unfoldable pub digits : ℕ → ℕ
digits M = suc (doublings M 1 (M - 1))

-- The height h: one range up to M = 64; above, the largest h with g * 2 ^ h ≤ M. The leaves are the ranges at depth h.
unfoldable pub height : ℕ → ℕ
height M = if_le M 64 0 (doublings M (digits M) M)

-- The slots of a leaf.
unfoldable pub leaf_slots : ℕ → ℕ
leaf_slots M = if_le M 64 M (3 * digits M)

-- The slots of the sheet.
unfoldable pub slots : ℕ → ℕ
slots M = leaf_slots M * 2 ^ height M

-- c, the number of candidates of a range above the leaves, at depth d.
unfoldable pub candidates : ℕ → ℕ → ℕ
candidates M d = ceil_div M (4 * digits M * 2 ^ d)

-- The candidates of the halves of a range with c candidates, where they are no leaves: half as many, rounded up.
unfoldable pub half_candidates : ℕ → ℕ
half_candidates c = ceil_div c 2

-- The rank, from 0, of the first of c candidates among n entries. (Document 01 counts entries from 1.)
unfoldable pub window_start : ℕ → ℕ → ℕ
window_start n c = ceil_div n 2 - ceil_div c 2

-- The entry of rank b is one of the c candidates among n entries.
pub record IsCandidate (n c b : ℕ) : Type 0 where
  pub from : window_start n c ≤ b
  pub below : b < window_start n c + c

-- What is to be shown of a range with n entries at depth d, `levels` above the leaves, whichever candidates are its balance entries:
-- at each range the candidates fit, no leaf has more entries than slots, and for M > 64 no leaf is empty.
unfoldable pub Fits : ℕ → ℕ → ℕ → ℕ → Type 0
Fits M zero d n = (n ≤ leaf_slots M) × (64 < M → 0 < n)
Fits M (suc levels) d n =
    (0 < candidates M d) × (candidates M d ≤ n)
    × ((b : ℕ) → IsCandidate n (candidates M d) b → Fits M levels (suc d) b × Fits M levels (suc d) (n - b))
