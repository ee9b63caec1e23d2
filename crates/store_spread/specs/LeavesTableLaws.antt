-- Leaves laid out one after the other by their table: what each leaf has of it, and the list with a 0 behind the leaf's entries.
use Rattle.std.specs.Prelude.{◌≡◌, List, ◌++◌, ℕ, ◌+◌, ◌*◌, ◌≤◌, ◌<◌, length, get_or, set, take, drop}
use Rattle.std.proofs.Common.{◌∙◌, length-set, get_or-set_same, set-set, le_refl, mul-le-mul_right, arith}
use Rattle.std.proofs.lemmas.List.{set-get_or, take-set-le, drop-set-add}
use Rattle.base.specs.Lists.{total}
use Rattle.base.specs.ListLaws.{total_front}
use Rattle.store_layout.specs.Leaf.{spread}
use Rattle.store_layout.specs.Ready.{LeavesReady}
use Rattle.store_layout.proofs.LeavesLoop.{Laid, laid_more, leaf_ready, next_total}
use Rattle.store_spread.specs.SlotEntries.{entry_table}
use Rattle.store_spread.specs.Ready.{TableReady}
use Rattle.store_spread.specs.SlotEntriesLaws.{length_entry_table, row_at}

pub restored : (list : List ℕ) (i : ℕ) → set (set list i 0) i (get_or list i 0) ≡ list
restored list i = set-set list i 0 (get_or list i 0) ∙ set-get_or list i 0

module _ {old : List ℕ} {from s : ℕ} {counts : List ℕ} {first leaves : ℕ} {list : List ℕ}
    (ready : LeavesReady old from s counts first leaves list) (room : total (take leaves (drop first counts)) < length list)
    {slots : List ℕ} {j to at : ℕ} (w : Laid old from s (take leaves (drop first counts)) list slots j to at) (upto : j ≤ leaves)
    {n : ℕ} (more : j < leaves) (here : n ≡ get_or counts (first + j) 0) where
  pub end_room : at + n < length list
  end_room = omega (arith, next_total ready w upto more here, total_front (j + 1) (take leaves (drop first counts)), room)

  fit : n ≤ s
  fit = (leaf_ready ready w upto more here).fit

  pub row_room : n * s + s ≤ length (entry_table s)
  row_room = rw (length_entry_table s) (omega (arith, mul-le-mul_right s fit))

  pub table_ready : {entries : List ℕ} → entries ≡ entry_table s
      → TableReady (record { from = to; slots = s; at = at; entries = n }) (set list (at + n) 0) entries (n * s) slots
  table_ready e =
      let leaf = leaf_ready ready w upto more here in
      let size : length (set list (at + n) 0) ≡ length list = length-set list (at + n) 0 in record {
        leaf_ready = record {
          slots_room = leaf.slots_room;
          list_room = omega (arith, size, leaf.list_room);
          fit = leaf.fit;
          small = leaf.small;
        };
        zero_room = omega (arith, size, end_room);
        zero_behind = get_or-set_same list (at + n) 0 0 end_room;
        row_room = rw e row_room;
        row_is = rw e (row_at s n fit);
      }

  -- The entries of the leaf are those of the list.
  same_entries : take n (drop at (set list (at + n) 0)) ≡ take n (drop at list)
  same_entries = rw (drop-set-add at list n 0) (take-set-le n (drop at list) n 0 (le_refl n))

  pub laid_next : {after : List ℕ} → after ≡ take to slots ++ spread s (take n (drop at (set list (at + n) 0))) ++ drop (to + s) slots
      → Laid old from s (take leaves (drop first counts)) list after (j + 1) (to + s) (at + n)
  laid_next e = laid_more ready w upto more here (e ∙ rw same_entries)
