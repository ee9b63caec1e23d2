-- The order in which the counts of the ranges stand in a store. Definitions only.
use Rattle.std.specs.Prelude.{◌≡◌, List, ◌∷◌, ℕ, suc, ◌*◌, ◌^◌, ◌≤◌, ◌<◌, length, get_or}
use Rattle.base.specs.Cases.{if_lt}
use Rattle.base.specs.Lists.{tabulate}
use Rattle.store_order.specs.Occurs.{index_of}
use Rattle.store_order.specs.TreeOrder.{tree_order}

-- The ranges of a tree whose leaves stand h levels below its root, by their places: number 0, which is the size parameter, stays first.
unfoldable pub stored : ℕ → List ℕ
stored h = 0 ∷ tree_order (suc h) 1

-- The place of the count of range k. Numbers behind those of the ranges stay.
unfoldable pub count_place : ℕ → ℕ → ℕ
count_place h k = if_lt k (2 * 2 ^ h) (index_of k (stored h)) k

-- The range whose count stands at place i.
unfoldable pub range_at : ℕ → ℕ → ℕ
range_at h i = if_lt i (2 * 2 ^ h) (get_or (stored h) i 0) i

-- What the rest relies on of an order: places and ranges are inverse to each other; number 0, which is the size parameter, and the root
-- keep their places, the other ranges of the tree stand among themselves, and no number behind them moves.
pub record Permutes (h : ℕ) (place range : ℕ → ℕ) : Type 0 where
  pub range_place : (k : ℕ) → range (place k) ≡ k
  pub place_range : (i : ℕ) → place (range i) ≡ i
  pub size_stays : place 0 ≡ 0
  pub root_stays : place 1 ≡ 1
  pub ranges_stay : (k : ℕ) → 0 < k → k < 2 * 2 ^ h → (0 < place k) × (place k < 2 * 2 ^ h)
  pub unused_stay : (k : ℕ) → 2 * 2 ^ h ≤ k → place k ≡ k

-- The list of the same length that has at index i what the other has at index f i, and 0 where that is past its end.
unfoldable pub reorder : (ℕ → ℕ) → List ℕ → List ℕ
reorder f xs = tabulate (λ i. get_or xs (f i) 0) 0 (length xs)

-- Counts by range number, put into the order of the store.
unfoldable pub count_order : ℕ → List ℕ → List ℕ
count_order h counts = reorder (range_at h) counts

-- Counts in the order of the store, put back into that of the range numbers.
unfoldable pub number_order : ℕ → List ℕ → List ℕ
number_order h counts = reorder (count_place h) counts
