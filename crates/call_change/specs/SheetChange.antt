-- What the code that carries out an insert or a delete is given, and what it writes. Definitions only.
use Rattle.std.specs.Prelude.{List, ◌≡◌, ◌≢◌, ℕ, ◌*◌, ◌^◌, ◌≤◌, ◌<◌, length, get_or}
use Rattle.tree_sizes.specs.Sizes.{height}
use Rattle.tree_rules.specs.declared.Change.{Change}
use Rattle.tree_rules.specs.Compare.{count_after}
use Rattle.store_order.specs.CountOrder.{count_order}
use Rattle.store_layout.specs.declared.Capacity.{Capacity}
use Rattle.store_layout.specs.Layout.{Store}
use Rattle.store_layout.specs.Decode.{numbered}
use Rattle.store_rows.specs.Above.{PlacedBut}
use Rattle.store_part.specs.Plan.{first_leaf, last_leaf}
use Rattle.store_part.specs.LayPart.{part_entries, lay_part, LayReady}
use Rattle.call_outcomes.specs.PlainCalls.{changing}
use Rattle.call_outcomes.specs.Untallied.{untallied}
use Rattle.call_open.specs.Opening.{Admitted}
use Rattle.call_change.specs.declared.DrawnChange.{DrawnChange}

-- The change goes on with a sheet of n entries and the size parameter m, and the work array has its counts by range number.
pub record ChangeReady (cap : Capacity) (change : Change) (e n m : ℕ) (store : Store) (work : List ℕ) : Type 0 where
  pub admitted : Admitted (untallied cap) (changing change e) store n m
  pub copied : work ≡ numbered store

-- The entries of the part before the change.
abbrev pub entries_before : DrawnChange → List ℕ → List ℕ
entries_before d slots = part_entries d.old d.part slots

-- The part can be laid out anew by the counts of the work array, which has the number of its entries after the change at its range, and
-- these counts can be written: where the part is not the whole sheet, those of the ranges that have no leaf of it stand in the store.
pub record WriteReady (d : DrawnChange) (store : Store) (work : List ℕ) : Type 0 where
  pub part_ready : LayReady d.old d.new d.part d.change work store.slots
  pub count : get_or work d.part.range 0 ≡ count_after d.change (length (entries_before d store.slots))
  pub lengths : length store.counts ≡ length work
  pub few : d.new < 2 ^ 30
  pub room : 2 * 2 ^ height d.new ≤ length work
  pub placed : d.part.range ≢ 1 → PlacedBut (height d.new) (first_leaf d.new d.part) (last_leaf d.new d.part) work store.counts

-- The store with the change written: its part laid out anew, and the counts of the work array in their order.
unfoldable pub written : DrawnChange → List ℕ → Store → Store
written d work store = record {
  slots = lay_part d.old d.new d.part d.change d.entry work store.slots;
  counts = count_order (height d.new) work;
}
