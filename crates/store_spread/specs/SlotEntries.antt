-- Which entry stands in which slot of a leaf. Definitions only.
use Rattle.std.specs.Prelude.{List, ℕ, suc, replicate}
use Rattle.base.specs.Lists.{tabulate}
use Rattle.store_order.specs.TreeOrder.{each}
use Rattle.store_layout.specs.Leaf.{slot_of, put_entries}

-- The number of the entry in each of s slots, from 0, where n entries stand by the leaf rule; n where there is none.
unfoldable pub slot_entries : ℕ → ℕ → List ℕ
slot_entries s n = put_entries (slot_of s n) 0 (tabulate (λ k. k) 0 n) (replicate s n)

-- The same for 0, 1, .., s entries, one after the other.
unfoldable pub entry_table : ℕ → List ℕ
entry_table s = each (slot_entries s) 0 (suc s)
