-- The test of the tallies that the code makes is that of the definition.
use Rattle.std.specs.Prelude.{◌≡◌, refl, Bool, true, false, List, [], ◌∷◌, ℕ, ◌*◌, ◌^◌, ◌≤◌, ◌<◌, length, set, take, drop}
use Rattle.std.proofs.Math.Path.{sym, ap}
use Rattle.std.proofs.Common.{◌∙◌, subst, not-suc-le-zero, arith, length-set, pow_pos}
use Rattle.std.proofs.Math.Option.{some}
use Rattle.std.proofs.Math.ListN.{get_or}
use Rattle.base.specs.Lists.{equal_lists}
use Rattle.base.specs.ListLaws.{equal_sound}
use Rattle.tree_sizes.specs.Sizes.{height, slots}
use Rattle.store_order.specs.CountOrder.{count_order, number_order}
use Rattle.store_order.proofs.CountOrderLaws.{length_count_order, count_number, number_count}
use Rattle.store_layout.specs.Leaf.{nonzero}
use Rattle.store_layout.specs.Decode.{Contents, decode, numbered}
use Rattle.store_layout.proofs.SheetLaws.{size_known}
use Rattle.store_layout.specs.declared.Capacity.{Capacity}
use Rattle.store_layout.specs.Room.{CapacityReady}
use Rattle.store_scoring.specs.Scoring.{none_retired}
use Rattle.store_tallies.specs.Tallies.{range_tallies}
use Rattle.store_tallies.specs.TalliesIn.{TalliesIn}
use Rattle.store_tallies.specs.LayLaws.{length_range_tallies}
use Rattle.store_tallies.specs.NoneLaws.{order_set}
use Rattle.call_outcomes.specs.Untallied.{store_of}
use Rattle.call_outcomes.specs.Slice.{slice_test}
use Rattle.call_outcomes.specs.Plain.{tally_slice}
use Rattle.call_open.specs.Opening.{OpenedSheet}
use Rattle.call_open.specs.OpenedLaws as opened
use Rattle.call_tallies.specs.Ready.{TalliesReady}
use Rattle.call_tallies.specs.TestLaws.{opened_tallies, none_test, some_test, slots_test_lem}

set_first : (xs : List ℕ) (x : ℕ) → 0 < length xs → set xs 0 x ≡ x ∷ drop 1 xs
set_first [] x pos = absurd (not-suc-le-zero pos)
set_first (y ∷ xs) x pos = refl

module _ {cap : Capacity} (ready : CapacityReady cap) {n m : ℕ} {sl counts work : List ℕ} (w : OpenedSheet cap (store_of sl counts) n m work) where
  pub slots_room : slots m ≤ length sl
  slots_room = opened.slots_room ready w

  pub counts_number : length counts ≡ cap.counts
  counts_number = opened.counts_length ready w

  pub tallies_ready : TalliesReady m sl cap.counts
  tallies_ready = record {
    most = let l = opened.laid ready w in omega (arith, l.0.room, l.0.shape.allowed.most, w.size, ready.few);
    slots_room = slots_room;
    ranges_room = opened.levels_room ready w;
  }

  -- The counts of the work array, in the order of the store.
  counts_ordered : counts ≡ count_order (height m) work
  unfolding numbered
  counts_ordered =
      let size : get_or counts 0 0 ≡ m = size_known cap (store_of sl counts) w.contents w.decoded ∙ w.size in
      let copied : work ≡ number_order (height m) counts = w.copied ∙ ap (λ (M : ℕ). number_order (height M) counts) size in
      sym (count_number (height m) counts (rw counts_number (opened.levels_room ready w))) ∙ ap (count_order (height m)) (sym copied)

  pub work_number : length work ≡ cap.counts
  work_number = sym (length_count_order (height m) work) ∙ ap length (sym counts_ordered) ∙ counts_number

  -- Where no boat is retired, the tallies by range number are the counts.
  pub numbers_copied : (tallies : List ℕ) {numbers : List ℕ} {r : Bool} → r ≡ equal_lists tallies (0 ∷ drop 1 counts) → numbers ≡ 0 ∷ drop 1 work → r ≡ true
      → numbers ≡ number_order (height m) tallies
  numbers_copied tallies {numbers} tested copied passed =
      let h = height m in
      let room : 2 * 2 ^ h ≤ length work = omega (arith, opened.levels_room ready w, work_number) in
      let some = pow_pos h in
      let set_is : numbers ≡ set work 0 0 = copied ∙ sym (set_first work 0 (omega arith)) in
      let order : count_order h numbers ≡ tallies
      = ap (count_order h) set_is
      ∙ order_set h work 0 (omega arith)
      ∙ ap (λ (xs : List ℕ). set xs 0 0) (sym counts_ordered)
      ∙ set_first counts 0 (omega (arith, opened.levels_room ready w, counts_number))
      ∙ sym (equal_sound tallies (0 ∷ drop 1 counts) (sym tested ∙ passed)) in
      sym (number_count h numbers (rw set_is (omega (arith, room, length-set work 0 0)))) ∙ ap (number_order h) order

  -- There is only one contents.
  same_contents : (c : Contents) → decode cap (store_of sl counts) ≡ some c → w.contents ≡ c
  same_contents c e = let both : some w.contents ≡ some c = sym w.decoded ∙ e in cc

  pub tested_out : (tallies : List ℕ) → get_or tallies 1 0 ≡ n → none_retired (nonzero (take (slots m) sl)) ≡ false
      → (c : Contents) → decode cap (store_of sl counts) ≡ some c → false ≡ slice_test (tally_slice cap) tallies c
  tested_out tallies root out c e =
      subst (λ (x : Contents). false ≡ slice_test (tally_slice cap) tallies x) (same_contents c e) (sym (some_test ready w tallies root out))

  module _ (tallies : List ℕ) {r : Bool} where
    pub tested_by_counts : none_retired (nonzero (take (slots m) sl)) ≡ true → r ≡ equal_lists tallies (0 ∷ drop 1 counts)
        → (c : Contents) → decode cap (store_of sl counts) ≡ some c → r ≡ slice_test (tally_slice cap) tallies c
    tested_by_counts none is c e =
        subst (λ (x : Contents). r ≡ slice_test (tally_slice cap) tallies x) (same_contents c e) (is ∙ none_test ready w tallies none)

    pub tested_by_slots : ((words : List ℕ) → TalliesIn m sl words → length words ≡ cap.counts → r ≡ equal_lists tallies (count_order (height m) words))
        → (c : Contents) → decode cap (store_of sl counts) ≡ some c → r ≡ slice_test (tally_slice cap) tallies c
    tested_by_slots is c e =
        let x = w.contents in
        let words = range_tallies cap.counts x.list x.shape in
        let found = opened_tallies ready w in
        let size : length words ≡ cap.counts = length_range_tallies cap.counts x.list x.shape in
        subst (λ (y : Contents). r ≡ slice_test (tally_slice cap) tallies y) (same_contents c e) (is words found size ∙ slots_test_lem ready w tallies words found size)
