-- Laws of the entries of slots: a leaf's slots hold what the list has at them, and where the table has the entries of a leaf's slots.
use Rattle.std.specs.Prelude.{◌≡◌, refl, List, ◌++◌, ℕ, suc, ◌+◌, ◌-◌, ◌*◌, ◌≤◌, ◌<◌, drop, replicate}
use Rattle.std.proofs.Math.Path.{sym}
use Rattle.std.proofs.Common.{ap, ◌∙◌, take_at, drop_at, arith}
use Rattle.std.proofs.Math.Logic.{⊎_elim}
use Rattle.std.proofs.Math.ListN.{length, get_or, take, length-replicate, get_or-replicate}
use Rattle.std.proofs.Math.Nat.{zero-add}
use Rattle.base.specs.Lists.{tabulate}
use Rattle.base.specs.ListLaws.{length_part, part_at, length_tabulate, get_d_tabulate, find}
use Rattle.store_order.specs.TreeOrder.{each}
use Rattle.store_order.proofs.TreeOrderLaws.{length_each, each_append}
use Rattle.store_layout.specs.declared.Leaf.{Leaf}
use Rattle.store_layout.specs.Leaf.{slot_of}
use Rattle.store_layout.proofs.LeafLaws.{slot_of_positions, length_put, put_other, put_at, spread_entry, spread_gap}
use Rattle.store_layout.specs.Pass.{rule_of}
use Rattle.store_spread.specs.SlotEntries.{slot_entries, entry_table}
use Rattle.store_spread.specs.Ready.{TableReady}

-- ---- one leaf

module _ (s n : ℕ) where
  pub length_slot_entries : length (slot_entries s n) ≡ s
  unfolding slot_entries
  length_slot_entries = length_put (slot_of s n) 0 (tabulate (λ k. k) 0 n) (replicate s n) ∙ length-replicate s n

  -- The slot of an entry has its number.
  entry_slot : n ≤ s → (k : ℕ) → k < n → get_or (slot_entries s n) (slot_of s n k) 0 ≡ k
  unfolding slot_entries
  entry_slot fit k h =
      rw (zero-add k) at
      (put_at (slot_of s n) 0 (tabulate (λ k. k) 0 n) (replicate s n)
      (rw (zero-add (length (tabulate (λ k. k) 0 n)), length_tabulate (λ k. k) 0 n, length-replicate s n) (slot_of_positions s n fit)) k
      (rw (length_tabulate (λ k. k) 0 n) h))
      ∙ get_d_tabulate (λ k. k) 0 n k 0 h
      ∙ zero-add k

  -- A slot that is no entry's has the number of entries.
  empty_slot : (i : ℕ) → i < s → ((k : ℕ) → k < n → (i ≡ slot_of s n k → ⊥)) → get_or (slot_entries s n) i 0 ≡ n
  unfolding slot_entries
  empty_slot i h none =
      put_other (slot_of s n) 0 (tabulate (λ k. k) 0 n) (replicate s n) i (rw (length_tabulate (λ k. k) 0 n) (λ j low high. none j (omega arith)))
      ∙ get_or-replicate s i n 0 h

module _ {leaf : Leaf} {list table slots : List ℕ} {row : ℕ} (w : TableReady leaf list table row slots) {i : ℕ} (inside : i < leaf.slots) where
  abbrev s : ℕ
  s = leaf.slots

  abbrev n : ℕ
  n = leaf.entries

  at_row : get_or table (row + i) 0 ≡ get_or (slot_entries s n) i 0
  at_row = sym (part_at table row s i 0 inside) ∙ ap (λ (l : List ℕ). get_or l i 0) w.row_is

  -- What the list has at the entry of slot i is what the rule gives, and it is inside.
  pub table_slot : (get_or list (leaf.at + get_or table (row + i) 0) 0 ≡ get_or (rule_of leaf list) i 0) × (get_or table (row + i) 0 ≤ n)
  unfolding rule_of
  table_slot =
      let xs = take n (drop leaf.at list) in
      let number : length xs ≡ n = length_part list leaf.at n w.leaf_ready.list_room in
      ⊎_elim
      (λ found.
      let k = found.0 in
      let here : get_or table (row + i) 0 ≡ k = at_row ∙ rw found.2 (entry_slot s n w.leaf_ready.fit k found.1) in (
        rw here
            (sym
            (rw found.2
            (spread_entry s n xs number w.leaf_ready.fit k found.1 ∙ part_at list leaf.at n k 0 found.1))),
        omega (arith, here, found.1),
      ))
      (λ none.
      let here : get_or table (row + i) 0 ≡ n = at_row ∙ empty_slot s n i inside none in
      (rw here (w.zero_behind ∙ sym (spread_gap s n xs number i inside none)), omega (arith, here)))
      (find (slot_of s n) i n)

-- Slots of the same number are as ready.
pub ready_still : {leaf : Leaf} {list table old slots : List ℕ} {row : ℕ} → TableReady leaf list table row old → length slots ≡ length old
    → TableReady leaf list table row slots
ready_still w e = record {
  leaf_ready = record {
    slots_room = rw e w.leaf_ready.slots_room;
    list_room = w.leaf_ready.list_room;
    fit = w.leaf_ready.fit;
    small = w.leaf_ready.small;
  };
  zero_room = w.zero_room;
  zero_behind = w.zero_behind;
  row_room = w.row_room;
  row_is = w.row_is;
}

-- ---- the table

pub length_entry_table : (s : ℕ) → length (entry_table s) ≡ (s + 1) * s
unfolding entry_table
length_entry_table s = length_each (slot_entries s) s (length_slot_entries s) 0 (suc s) ∙ omega arith

next_row : (f : ℕ → List ℕ) (k n : ℕ) → each f k (suc n) ≡ f k ++ each f (suc k) n
unfolding each
next_row f k n = refl

-- The row of n entries stands behind those of fewer.
pub row_at : (s n : ℕ) → n ≤ s → take s (drop (n * s) (entry_table s)) ≡ slot_entries s n
unfolding entry_table
row_at s n fit =
    let f = slot_entries s in
    let rest = each f (suc n) (s - n) in
    let parts : suc s ≡ n + suc (s - n) = omega arith in
    let rows : each f 0 (suc s) ≡ each f 0 n ++ (f n ++ rest)
    = ap (each f 0) parts ∙ each_append f 0 n (suc (s - n)) ∙ rw (zero-add n, next_row f n (s - n)) in
    ap (λ (l : List ℕ). take s (drop (n * s) l)) rows
    ∙ ap (take s) (drop_at (each f 0 n) (f n ++ rest) (n * s) (length_each f s (length_slot_entries s) 0 n))
    ∙ take_at (f n) rest s (length_slot_entries s n)
