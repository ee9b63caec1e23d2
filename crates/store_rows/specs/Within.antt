-- A range within a subtree of the order of a store. Definitions only.
use Rattle.std.specs.Prelude.{◌≡◌, ℕ, suc, ◌+◌, ◌*◌, ◌/◌, ◌^◌, ◌<◌, get_or}
use Rattle.store_order.specs.TreeOrder.{tree_order}
use Rattle.store_order.specs.CountOrder.{stored}
use Rattle.store_order.specs.TreeReady.{TreeReady}

-- Range k stands `below` levels below the root of a tree of so many levels, whose ranges stand in the order of the store from `at` on.
pub record Within (h k levels below at : ℕ) : Type 0 where
  pub inside : below < levels
  pub ready : TreeReady levels at (k / 2 ^ below) (2 * 2 ^ h) (2 * 2 ^ h)
  pub stands : (i : ℕ) → suc i < 2 ^ levels → get_or (stored h) (at + i) 0 ≡ get_or (tree_order levels (k / 2 ^ below)) i 0
