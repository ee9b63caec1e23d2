-- The store of a list with a shape: every slot and every count (document 01, "What the sheet is", "Size rules").
-- Definitions only.
use Rattle.std.specs.Prelude.{List, [], ◌∷◌, ◌++◌, ℕ, ◌-◌, length, take, drop, replicate}
use Rattle.tree_sizes.specs.Sizes.{height, leaf_slots}
use Rattle.tree_rules.specs.Tree.{Tree, leaf, node, Shape}
use Rattle.tree_counts.specs.Counts.{shape_counts}
use Rattle.store_layout.specs.declared.Capacity.{Capacity}
use Rattle.store_layout.specs.Leaf.{spread}
use Rattle.store_order.specs.CountOrder.{count_order}

-- The store: two lent slices.
pub record Store : Type 0 where
  pub slots : List ℕ
  pub counts : List ℕ

-- The numbers of entries of the leaves, from left to right, of a range with n entries.
unfoldable pub leaf_counts : ℕ → Tree → List ℕ
leaf_counts n leaf = n ∷ []
leaf_counts n (node b l r) = leaf_counts b l ++ leaf_counts (n - b) r

-- Leaves of s slots one after the other, with these numbers of entries of the list.
unfoldable pub lay_leaves : ℕ → List ℕ → List ℕ → List ℕ
lay_leaves s [] list = []
lay_leaves s (n ∷ ns) list = spread s (take n list) ++ lay_leaves s ns (drop n list)

-- Everything unused is zero.
unfoldable pub pad_to : ℕ → List ℕ → List ℕ
pad_to room xs = xs ++ replicate (room - length xs) 0

unfoldable pub lay_slots : ℕ → List ℕ → Shape → List ℕ
lay_slots room list s = pad_to room (lay_leaves (leaf_slots s.size) (leaf_counts (length list) s.tree) list)

unfoldable pub lay_counts : ℕ → ℕ → Shape → List ℕ
lay_counts room N s = count_order (height s.size) (shape_counts room N s)

-- The sheet of a list with a shape.
unfoldable pub lay_out : Capacity → List ℕ → Shape → Store
lay_out cap list s = record { slots = lay_slots cap.slots list s; counts = lay_counts cap.counts (length list) s }
