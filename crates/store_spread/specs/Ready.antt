-- What a leaf that is written by a table asks. Definitions only.
use Rattle.std.specs.Prelude.{◌≡◌, List, ℕ, ◌+◌, ◌≤◌, ◌<◌, length, get_or, take, drop}
use Rattle.store_layout.specs.declared.Leaf.{Leaf}
use Rattle.store_layout.specs.Ready.{LeafReady}
use Rattle.store_spread.specs.SlotEntries.{slot_entries}

-- A leaf has its slots and its entries, the list has a 0 behind them, and the table has the entries of its slots from `row` on.
pub record TableReady (leaf : Leaf) (list table : List ℕ) (row : ℕ) (slots : List ℕ) : Type 0 where
  pub leaf_ready : LeafReady leaf slots list
  pub zero_room : leaf.at + leaf.entries < length list
  pub zero_behind : get_or list (leaf.at + leaf.entries) 0 ≡ 0
  pub row_room : row + leaf.slots ≤ length table
  pub row_is : take leaf.slots (drop row table) ≡ slot_entries leaf.slots leaf.entries
