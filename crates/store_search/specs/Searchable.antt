-- What a search for a key relies on of the slices of a sheet. Definitions only.
use Rattle.std.specs.Prelude.{◌≡◌, List, ℕ, ◌+◌, ◌*◌, ◌^◌, ◌≤◌, ◌<◌, length, take, drop}
use Rattle.tree_sizes.specs.Sizes.{height, leaf_slots}
use Rattle.store_layout.specs.Leaf.{nonzero}
use Rattle.store_search.specs.Sought.{sought_in}
use Rattle.store_search.specs.LeafFor.{start_for, sought_behind}

-- The descent to the leaf for the key x and the loop through this leaf stay within the slices and the numbers of the code, and come to the
-- rank and the presence of x among all entries.
pub record Searchable (M : ℕ) (slots counts balance : List ℕ) (x : ℕ) : Type 0 where
  pub most : M < 2 ^ 32
  pub counts_room : 2 * 2 ^ height M ≤ length counts
  pub balance_room : 2 ^ height M ≤ length balance
  pub slots_room : (start_for M counts balance x).slot + leaf_slots M ≤ length slots
  pub small : (start_for M counts balance x).before + leaf_slots M < 2 ^ 64
  pub found : let start = start_for M counts balance x in
      sought_behind start.before x (nonzero (take (leaf_slots M) (drop start.slot slots))) ≡ sought_in x (nonzero slots)
