-- What a search for a key comes to, and what it asks of the slices. Definitions only.
use Rattle.std.specs.Prelude.{List, ◌≡◌, Bool, true, false, Result, Ok, Err, ℕ, length}
use Rattle.tree_rules.specs.Tree.{Shape}
use Rattle.tree_counts.specs.Counts.{shape_counts}
use Rattle.store_layout.specs.declared.Capacity.{Capacity}
use Rattle.store_layout.specs.Layout.{lay_slots}
use Rattle.store_layout.specs.Sheet.{IsContents}
use Rattle.store_layout.specs.Room.{CapacityReady}
use Rattle.store_keys.specs.Key.{Rises, rank_of, present}
use Rattle.store_balance.specs.Balance.{lay_balance}

-- A rank at which an entry is present, or at which it would stand.
unfoldable pub sought_at : Bool → ℕ → Result ℕ ℕ
sought_at true rank = Ok rank
sought_at false rank = Err rank

-- The rank of a key in a list, where an entry with this key is there, or that at which it would stand.
unfoldable pub sought_in : ℕ → List ℕ → Result ℕ ℕ
sought_in k list = sought_at (present k list) (rank_of k list)

-- The slices are those of a list that rises, with a shape of the size m: the slots, the counts by range number and the third slice.
pub record SearchReady (m : ℕ) (slots counts balance : List ℕ) : Type 0 where
  pub cap : Capacity
  pub list : List ℕ
  pub shape : Shape
  pub ready : CapacityReady cap
  pub contents : IsContents cap list shape
  pub rising : Rises list
  pub size : shape.size ≡ m
  pub slots_are : slots ≡ lay_slots cap.slots list shape
  pub counts_are : counts ≡ shape_counts cap.counts (length list) shape
  pub balance_are : balance ≡ lay_balance cap.counts list shape
