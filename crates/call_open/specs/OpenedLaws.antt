-- Slots and counts that were found to be a sheet: its numbers are small enough for the code, and its slots are those of its leaves.
use Rattle.std.specs.Prelude.{◌≡◌, List, ℕ, ◌-◌, ◌*◌, ◌^◌, ◌≤◌, ◌<◌, length, take, replicate}
use Rattle.std.proofs.Common.{sym, ◌∙◌, ap₂, arith, take_at}
use Rattle.std.proofs.Math.Path.{ap}
use Rattle.tree_sizes.specs.Sizes.{height, leaf_slots, slots}
use Rattle.tree_rules.specs.Tree.{Shape}
use Rattle.tree_counts.specs.RangeLaws.{balanced_perfect}
use Rattle.store_layout.specs.declared.Capacity.{Capacity}
use Rattle.store_layout.specs.Layout.{Store, leaf_counts, lay_leaves, pad_to, lay_slots, lay_counts, lay_out}
use Rattle.store_layout.proofs.LayoutLaws.{length_leaf_counts, length_lay_leaves}
use Rattle.store_layout.specs.Leaf.{nonzero}
use Rattle.store_layout.specs.Sheet.{IsContents}
use Rattle.store_layout.specs.Decode.{Contents}
use Rattle.store_layout.specs.Room.{CapacityReady}
use Rattle.store_layout.proofs.SheetLaws.{decode_sound, leaves_lay_out, length_slots, length_counts}
use Rattle.call_outcomes.specs.Untallied.{store_of}
use Rattle.call_open.specs.Opening.{OpenedSheet}

-- Its leaves are the slots that its size gives.
front_list : (cap : Capacity) (list : List ℕ) (s : Shape) → IsContents cap list s
    → nonzero (take (slots s.size) (lay_slots cap.slots list s)) ≡ list
unfolding lay_slots pad_to slots
front_list cap list s w =
    let ns = leaf_counts (length list) s.tree in
    let leaves = lay_leaves (leaf_slots s.size) ns list in
    let used : length leaves ≡ leaf_slots s.size * 2 ^ height s.size
    = length_lay_leaves (leaf_slots s.size) ns list
    ∙ rw (length_leaf_counts (height s.size) (length list) s.tree (balanced_perfect s.size (height s.size) 0 (length list) s.tree w.shape.balanced)) in
    ap nonzero (take_at leaves (replicate (cap.slots - length leaves) 0) _ used) ∙ leaves_lay_out cap list s w

module _ {cap : Capacity} (ready : CapacityReady cap) {sl counts work : List ℕ} {n m : ℕ} (w : OpenedSheet cap (store_of sl counts) n m work) where
  abbrev c : Contents
  c = w.contents

  pub laid : IsContents cap c.list c.shape × (store_of sl counts ≡ lay_out cap c.list c.shape)
  laid = decode_sound cap (store_of sl counts) c w.decoded

  pub slots_are : sl ≡ lay_slots cap.slots c.list c.shape
  unfolding lay_out
  slots_are = ap (λ (t : Store). t.slots) laid.1

  pub counts_are : counts ≡ lay_counts cap.counts (length c.list) c.shape
  unfolding lay_out
  counts_are = ap (λ (t : Store). t.counts) laid.1

  pub counts_length : length counts ≡ cap.counts
  counts_length = ap (λ (t : Store). length t.counts) laid.1 ∙ length_counts cap c.list c.shape laid.0

  pub entries_few : n < 2 ^ 30
  entries_few = omega (arith, laid.0.room, ready.few, w.count)

  pub size_small : m < 2 ^ 31
  size_small = omega (arith, laid.0.room, laid.0.shape.allowed.most, w.size, ready.few)

  pub slots_room : slots m ≤ length sl
  unfolding lay_out
  slots_room =
      rw (slots_are, length_slots cap c.list c.shape laid.0 ready.roomy, ← w.size)
      (ready.roomy.slots_fit (length c.list) c.shape.size laid.0.room laid.0.shape.allowed)

  pub levels_room : 2 * 2 ^ height m ≤ cap.counts
  levels_room = rw (← w.size) (ready.roomy.counts_fit (length c.list) c.shape.size laid.0.room laid.0.shape.allowed)

  -- The entries in the slots that the size gives are the list.
  pub front_entries : nonzero (take (slots m) sl) ≡ c.list
  front_entries =
      ap₂ (λ (k : ℕ) (xs : List ℕ). nonzero (take (slots k) xs)) (sym w.size) slots_are ∙ front_list cap c.list c.shape laid.0
