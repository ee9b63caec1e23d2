-- What the code's look at a store comes to, for any capacity.
use Rattle.std.proofs.Math.Path.{◌≡◌, refl}
use Rattle.std.proofs.Common.{sym, ◌∙◌, arith, ne_eqb, pow_pos}
use Rattle.std.specs.Prelude.{Ok, Err, Bool, ◌&&◌, ◌≢◌, List, ℕ, ◌-◌, ◌*◌, ◌^◌, ◌≤◌, ◌<◌, eqb}
use Rattle.std.proofs.Math.Bool.{true, false}
use Rattle.std.proofs.Math.Option.{some}
use Rattle.std.proofs.Math.ListN.{length, get_or}
use Rattle.tree_sizes.specs.Sizes.{height}
use Rattle.store_layout.specs.declared.Capacity.{Capacity}
use Rattle.store_layout.specs.Layout.{Store}
use Rattle.store_order.specs.CountOrder.{count_order, number_order}
use Rattle.store_order.proofs.CountOrderLaws.{length_number_order, number_order_size, number_order_root, count_number}
use Rattle.store_layout.specs.Decode.{list_of, numbered, shape_of, sheet_test, decode}
use Rattle.store_layout.specs.Room.{CapacityReady}
use Rattle.store_layout.specs.RoomLaws.{counts_enough}
use Rattle.store_layout.proofs.SheetLaws.{decode_true, decode_false, size_refused, size_known, count_is}
use Rattle.call_outcomes.specs.declared.Cause.TheVariants.{Lengths, NotASheet}
use Rattle.call_outcomes.specs.Causes.{by_lengths, by_found, store_decision}
use Rattle.call_outcomes.specs.Untallied.{right_lengths, found_by, untallied_view, store_of}
use Rattle.call_outcomes.proofs.UntalliedLaws.{lengths_right}
use Rattle.call_open.specs.Opening.{opened_as, Opening}

module _ (cap : Capacity) (slots counts : List ℕ) where
  abbrev store : Store
  store = store_of slots counts

  -- ---- wrong lengths

  pub slots_wrong : length slots ≢ cap.slots → right_lengths cap store ≡ false
  unfolding right_lengths
  slots_wrong h = rw (ne_eqb (length slots) cap.slots h)

  pub counts_wrong : length counts ≢ cap.counts → right_lengths cap store ≡ false
  unfolding right_lengths
  counts_wrong h = rw (ne_eqb (length counts) cap.counts h) (go (eqb (length slots) cap.slots))
    where
      go : (b : Bool) → (b && false) ≡ false
      go true = refl
      go false = refl

  pub open_wrong : right_lengths cap store ≡ false → (work : List ℕ) → Opening (untallied_view cap) numbered store (Err Lengths) work
  unfolding store_decision by_lengths opened_as
  open_wrong h work = record { found = rw h; copied = λ e. let z : ◌≡◌ {A = ℕ} 0 1 = cc in absurd (omega arith) }

  module _ (slots_are : length slots ≡ cap.slots) (counts_are : length counts ≡ cap.counts) where
    right : right_lengths cap store ≡ true
    right = lengths_right cap store record { slots = slots_are; counts = counts_are }

    -- ---- no sheet

    open_none : sheet_test cap store ≡ false → (work : List ℕ) → Opening (untallied_view cap) numbered store (Err NotASheet) work
    unfolding store_decision by_lengths by_found found_by opened_as
    open_none h work = record {
      found = rw (right, decode_false cap store h);
      copied = λ e. let z : ◌≡◌ {A = ℕ} 0 1 = cc in absurd (omega arith);
    }

    -- its size parameter is one that no sheet can have
    pub open_large : {most : ℕ} → most ≡ 2 * cap.entries - 1 → most < get_or counts 0 0 → (work : List ℕ) → Opening (untallied_view cap) numbered store (Err NotASheet) work
    open_large is h work = open_none (size_refused cap store (rw is at h)) work

    module _ (ready : CapacityReady cap) where
      pub two_counts : 1 < length counts
      two_counts = omega (arith, counts_are, counts_enough cap ready.roomy 0 (omega arith), pow_pos (height 0))

      module _ {most : ℕ} (is : most ≡ 2 * cap.entries - 1) (within : get_or counts 0 0 ≤ most) where
        pub read_room : 2 * 2 ^ height (get_or counts 0 0) ≤ length counts
        read_room = rw counts_are (counts_enough cap ready.roomy (get_or counts 0 0) (rw is at within))

        -- ---- the counts are in the work array

        module _ {work : List ℕ} (copied : work ≡ number_order (height (get_or counts 0 0)) counts) where
          pub work_length : length work ≡ cap.counts
          work_length = rw copied (length_number_order (height (get_or counts 0 0)) counts) ∙ counts_are

          work_size : get_or work 0 0 ≡ get_or counts 0 0
          work_size = rw copied (number_order_size (height (get_or counts 0 0)) counts)

          back : count_order (height (get_or work 0 0)) work ≡ counts
          back = rw (work_size, copied) (count_number (height (get_or counts 0 0)) counts read_room)

          -- the test that the code makes
          module _ {test : Bool} (test_is : test ≡ sheet_test cap (record { slots = slots; counts = count_order (height (get_or work 0 0)) work })) where
            tested : sheet_test cap store ≡ test
            tested = sym (test_is ∙ rw back)

            pub open_other : test ≡ false → Opening (untallied_view cap) numbered store (Err NotASheet) work
            open_other h = open_none (tested ∙ h) work

            pub open_sheet : test ≡ true → Opening (untallied_view cap) numbered store (Ok (record { n = get_or work 1 0; m = get_or counts 0 0 })) work
            unfolding store_decision by_lengths by_found found_by opened_as numbered
            open_sheet h =
                let found : decode cap store ≡ some (record { list = list_of store; shape = shape_of store }) = decode_true cap store (tested ∙ h) in
                let entries : get_or work 1 0 ≡ length (list_of store)
                = rw copied (number_order_root (height (get_or counts 0 0)) counts) ∙ count_is cap ready.roomy store _ found in
                record { found = rw (right, found, entries, size_known cap store _ found); copied = λ e. copied }
