-- A plain sheet that was opened: its numbers are small enough for the code, and the entries from a rank on are those from its leaf on.
use Rattle.std.specs.Prelude.{◌≡◌, List, ℕ, ◌+◌, ◌-◌, ◌*◌, ◌^◌, ◌≤◌, ◌<◌, length, drop}
use Rattle.std.proofs.Common.{sym, ◌∙◌, ap, arith, length-append, length-drop}
use Rattle.std.proofs.Math.Option.{some}
use Rattle.std.proofs.Math.Seq.{drop-append_seam}
use Rattle.tree_sizes.specs.Sizes.{height}
use Rattle.store_layout.specs.declared.Capacity.{Capacity}
use Rattle.store_layout.specs.Layout.{Store, lay_out}
use Rattle.store_layout.specs.Leaf.{nonzero}
use Rattle.store_layout.specs.Sheet.{IsContents}
use Rattle.store_layout.specs.Decode.{Contents, list_of, decode}
use Rattle.store_layout.specs.Room.{CapacityReady}
use Rattle.store_layout.specs.RoomLaws.{counts_enough}
use Rattle.store_layout.specs.NumberedLaws.{length_numbered}
use Rattle.store_layout.proofs.SheetLaws.{decoded, decode_sound, length_counts}
use Rattle.store_rank.specs.declared.Start.{Start}
use Rattle.store_rank.specs.LeafOf.{start_of}
use Rattle.store_rank.specs.LeafOfLaws.{decoded_start}
use Rattle.store_ties.specs.Steps.{entries_before}
use Rattle.store_ties.specs.BeforeLaws.{parted}
use Rattle.call_outcomes.specs.Untallied.{store_of}
use Rattle.call_open.specs.Opening.{OpenedSheet}

-- The list of a sheet is what stands in its slots.
pub decoded_list : (cap : Capacity) (store : Store) (c : Contents) → decode cap store ≡ some c → c.list ≡ nonzero store.slots
unfolding list_of
decoded_list cap store c h = ap (λ (x : Contents). x.list) (decoded cap store c h).1

module _ {cap : Capacity} {slots counts work : List ℕ} {n m : ℕ} (w : OpenedSheet cap (store_of slots counts) n m work) where
  pub entries_number : n ≡ length (nonzero slots)
  entries_number = sym w.count ∙ ap length (decoded_list cap (store_of slots counts) w.contents w.decoded)

  pub laid : IsContents cap w.contents.list w.contents.shape × (store_of slots counts ≡ lay_out cap w.contents.list w.contents.shape)
  laid = decode_sound cap (store_of slots counts) w.contents w.decoded

  module _ (ready : CapacityReady cap) where
    pub entries_few : n < 2 ^ 30
    entries_few = omega (arith, laid.0.room, ready.few, w.count)

    size_most : m ≤ 2 * cap.entries - 1
    size_most = omega (arith, laid.0.room, laid.0.shape.allowed.most, w.size)

    pub size_small : m < 2 ^ 32
    size_small = omega (arith, size_most, ready.few)

    pub ranges_room : 2 * 2 ^ height m ≤ cap.counts
    ranges_room = counts_enough cap ready.roomy m size_most

    pub counts_room : 2 * 2 ^ height m ≤ length work
    counts_room =
        rw (w.copied, length_numbered (store_of slots counts), ap (λ (x : Store). length x.counts) laid.1)
        (rw (length_counts cap w.contents.list w.contents.shape laid.0) ranges_room)

    -- The leaf that is found by the counts.
    module _ {start : Start} (rank : ℕ) (is : start ≡ start_of m work rank) where
      pub from_start : drop start.rank (nonzero (drop start.slot slots)) ≡ drop rank (nonzero slots)
      from_start = rw (is, w.copied, ← w.size) (sym (decoded_start cap ready.roomy rank (store_of slots counts) w.contents w.decoded))

      pub start_enough : (count : ℕ) → 0 < count → rank + count ≤ length (nonzero slots)
          → start.rank + count ≤ length (nonzero (drop start.slot slots))
      start_enough count pos enough =
          omega (
            arith,
            ap length from_start,
            length-drop start.rank (nonzero (drop start.slot slots)),
            length-drop rank (nonzero slots),
          )

      -- The entries before the leaf are the first ones, by as many as the rank is higher than that in the leaf.
      module _ (below : rank < length (nonzero slots)) where
        pub start_place : rank ≡ length (entries_before slots start.slot) + start.rank
        start_place =
            let front = entries_before slots start.slot in
            let rest = nonzero (drop start.slot slots) in
            omega (
              arith,
              ap length from_start,
              length-drop start.rank rest,
              length-drop rank (nonzero slots),
              ap length (parted slots start.slot),
              length-append front rest,
              below,
            )

        pub start_passed : nonzero (drop start.slot slots) ≡ drop (rank - start.rank) (nonzero slots)
        start_passed =
            let front = entries_before slots start.slot in
            let rest = nonzero (drop start.slot slots) in
            let passed : rank - start.rank ≡ length front = omega (arith, start_place) in
            sym (ap (drop (rank - start.rank)) (parted slots start.slot) ∙ rw passed (drop-append_seam front rest))
