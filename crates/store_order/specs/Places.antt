-- An order written out as a list. Definitions only.
use Rattle.std.specs.Prelude.{◌≡◌, List, ℕ, ◌+◌, ◌*◌, ◌^◌, ◌<◌, length, get_or}
use Rattle.base.specs.Lists.{tabulate}
use Rattle.store_order.specs.CountOrder.{count_place}

-- A list of what an order gives for 1, 2 and so on, up to the last range.
pub record Listed (h : ℕ) (range : ℕ → ℕ) (ks : List ℕ) : Type 0 where
  pub all : length ks + 1 ≡ 2 * 2 ^ h
  pub entry : (i : ℕ) → i < length ks → get_or ks i 0 ≡ range (1 + i)

-- The places of the ranges k, k + 1, .., n in all.
abbrev pub places_from : ℕ → ℕ → ℕ → List ℕ
places_from h k n = tabulate (count_place h) k n
