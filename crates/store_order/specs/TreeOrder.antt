-- The ranges of a tree in Van Emde Boas order (document 000, 3.5: the layout of its rank tree; document 02, F-5). Definitions only.
use Rattle.std.specs.Prelude.{List, [], ◌∷◌, ◌++◌, ℕ, zero, suc, ◌+◌, ◌-◌, ◌*◌, ◌/◌, ◌^◌}
use Rattle.base.specs.Cases.{if_le}

-- What f gives for k, k + 1, .., n in all, one after the other.
unfoldable pub each : (ℕ → List ℕ) → ℕ → ℕ → List ℕ
each f k zero = []
each f k (suc n) = f k ++ each f (suc k) n

-- The ranges of the tree of H levels below range k as they are stored, by so many steps at most: a tree of one level is its range; one of H
-- levels is its top ⌊H / 2⌋ levels stored so, followed by each lower subtree so stored, from left to right.
unfoldable pub order_by : ℕ → ℕ → ℕ → List ℕ
order_by zero H k = []
order_by (suc steps) H k =
    if_le H 1 (k ∷ [])
    (order_by steps (H / 2) k ++ each (order_by steps (H - H / 2)) (2 ^ (H / 2) * k) (2 ^ (H / 2)))

-- As many steps as there are levels are enough.
unfoldable pub tree_order : ℕ → ℕ → List ℕ
tree_order H k = order_by H H k

-- The same ranges, each before those of its halves.
unfoldable pub preorder : ℕ → ℕ → List ℕ
preorder zero k = []
preorder (suc H) k = k ∷ preorder H (2 * k) ++ preorder H (2 * k + 1)
