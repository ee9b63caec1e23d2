-- The conversion leads from the sheets in the order of the range numbers to those in the tree order, and every call on a converted store comes
-- to the converted outcome.
use Rattle.std.specs.Prelude.{true, false, ℕ, ◌-◌, ◌*◌, ◌^◌, ◌≤◌, ◌<◌}
use mathlib.Core.List.{List}
use Rattle.std.proofs.Math.Logic.{⊎_elim}
use Rattle.std.proofs.Math.Option.{some, none}
use Rattle.std.proofs.Math.Path.{◌≡◌, sym, ap}
use Rattle.std.proofs.Common.{◌∙◌, arith}
use Rattle.std.proofs.Math.ListN.{length, get_or}
use Rattle.base.specs.Lists.{equal_lists}
use Rattle.base.specs.BoolLaws.{tests_agree, true_or_false}
use Rattle.base.specs.CaseLaws.{le_or_gt}
use Rattle.base.specs.ListLaws.{equal_itself, equal_sound}
use Rattle.tree_sizes.specs.Sizes.{height}
use Rattle.tree_rules.specs.Tree.{Shape, IsShape}
use Rattle.tree_counts.specs.Counts.{shape_counts, shape_in}
use Rattle.tree_counts.specs.ShapeCountLaws.{length_shape_counts}
use Rattle.store_order.specs.CountOrder.{count_order, number_order}
use Rattle.store_order.proofs.CountOrderLaws.{length_count_order, number_count}
use Rattle.store_layout.specs.declared.Capacity.{Capacity}
use Rattle.store_layout.specs.Room.{Roomy}
use Rattle.store_layout.specs.RoomLaws.{counts_enough}
use Rattle.store_layout.specs.Layout.{Store, lay_counts, lay_out}
use Rattle.store_layout.specs.Decode.{list_of, shape_of, laid_test, sheet_test, Contents, decode}
use Rattle.store_layout.proofs.LeafLaws.{nonzero_positive}
use Rattle.store_layout.specs.NumberedLaws.{numbered_size, numbered_given}
use Rattle.store_layout.proofs.SheetLaws.{laid_sound, decode_true, decode_false, size_refused, size_lay_out, numbered_lay_out}
use Rattle.call_outcomes.specs.Kind.{holds}
use Rattle.call_outcomes.specs.Outcome.{outcome}
use Rattle.call_outcomes.specs.PlainCalls.{plain_calls, Call}
use Rattle.call_outcomes.specs.Untallied.{IsList, RightLengths, right_lengths, found_by, untallied_view, untallied}
use Rattle.call_outcomes.proofs.UntalliedLaws.{right_lengths_lem, contents_of_lem, untallied_lawful}
use Rattle.call_orders.specs.Conversion.{to_tree, Convertible, conversion, to_tree_order}
use Rattle.call_orders.proofs.ConversionLaws.{conversion_size, conversion_done, length_conversion}
use Rattle.call_orders.specs.NumberOrder.{lay_numbered, numbered_test, decode_numbered, numbered_view, in_number_order}
use Rattle.call_orders.specs.Converts.{Converts, converted}
use Rattle.call_orders.specs.ConvertsLaws.{outcome_converted}

-- ---- sheets in the order of the range numbers

module _ (cap : Capacity) (store : Store) where
  decode_yes : numbered_test cap store ≡ true → decode_numbered cap store ≡ some (record { list = list_of store; shape = shape_in store.counts })
  unfolding decode_numbered
  decode_yes h = rw (h, decode_numbered)

  decode_no : numbered_test cap store ≡ false → decode_numbered cap store ≡ none
  unfolding decode_numbered
  decode_no h = rw (h, decode_numbered)

  -- What such a store holds is a list and a shape of it.
  numbered_sound : (c : Contents) → found_by (decode_numbered cap store) ≡ holds c → IsList cap c.list × IsShape (length c.list) c.shape
  unfolding found_by numbered_test list_of
  numbered_sound c e =
      ⊎_elim
      (λ yes.
      let is : c ≡ record { list = list_of store; shape = shape_in store.counts } = cc (decode_yes yes) in
      let laid = laid_sound (lay_numbered cap) cap.entries (list_of store) (shape_in store.counts) store yes in
      rw is (record { room = laid.0; entries = nonzero_positive store.slots }, laid.1))
      (λ no. let z : ◌≡◌ {A = ℕ} 0 1 = cc (decode_no no) in absurd (omega arith))
      (true_or_false (numbered_test cap store))

  -- Its size parameter is one that a sheet can have.
  numbered_large : 2 * cap.entries - 1 < get_or store.counts 0 0 → numbered_test cap store ≡ false
  unfolding numbered_test shape_in
  numbered_large large =
      ⊎_elim
      (λ yes.
      let laid = laid_sound (lay_numbered cap) cap.entries (list_of store) (shape_in store.counts) store yes in
      absurd (omega (arith, laid.0, laid.1.allowed.most)))
      (λ no. no)
      (true_or_false (numbered_test cap store))

-- ---- converted

module _ (cap : Capacity) (roomy : Roomy cap) where
  -- Lists are equal exactly when they are in the tree order.
  equal_order : (h : ℕ) (xs ys : List ℕ) → 2 * 2 ^ h ≤ length xs → 2 * 2 ^ h ≤ length ys
      → equal_lists (count_order h xs) (count_order h ys) ≡ equal_lists xs ys
  equal_order h xs ys fx fy =
      tests_agree _ _
      (λ e.
      let same = equal_sound (count_order h xs) (count_order h ys) e in
      rw (sym (number_count h xs fx) ∙ ap (number_order h) same ∙ number_count h ys fy) (equal_itself ys))
      (λ e. rw (equal_sound xs ys e) (equal_itself (count_order h ys)))

  -- The sheet of a list with a shape becomes the sheet of this list with this shape.
  pub laid_converted : (list : List ℕ) (s : Shape) → IsList cap list → IsShape (length list) s → to_tree_order cap (lay_numbered cap list s) ≡ lay_out cap list s
  unfolding to_tree_order to_tree lay_numbered lay_out lay_counts
  laid_converted list s w shape =
      let valid = contents_of_lem cap list s w shape in
      let counts = shape_counts cap.counts (length list) s in
      let size : get_or counts 0 0 ≡ s.size
      = ap (λ (xs : List ℕ). get_or xs 0 0) (sym (numbered_lay_out cap list s valid roomy)) ∙ numbered_size (lay_out cap list s) ∙ size_lay_out cap list s valid roomy in
      let c : Convertible cap counts = record {
        lengths = length_shape_counts cap.counts (length list) s;
        size = rw size (omega (arith, w.room, shape.allowed.most));
      } in
      rw (conversion_done cap to_tree counts c, size)

  -- A store holds what it held: with an M that a sheet can have by the same list and shape, with a larger one nothing.
  module _ (store : Store) where
    abbrev counts : List ℕ
    counts = store.counts

    abbrev h : ℕ
    h = height (get_or counts 0 0)

    abbrev moved : Store
    moved = record { slots = store.slots; counts = count_order h counts }

    module _ (c : Convertible cap counts) where
      room : 2 * 2 ^ h ≤ length counts
      room = rw c.lengths (counts_enough cap roomy (get_or counts 0 0) c.size)

      moved_is : to_tree_order cap store ≡ moved
      unfolding to_tree_order to_tree
      moved_is = rw (conversion_done cap to_tree counts c)

      same_shape : shape_of moved ≡ shape_in counts
      unfolding shape_of
      same_shape = rw (numbered_given store.slots counts room)

      same_test : sheet_test cap moved ≡ numbered_test cap store
      unfolding sheet_test numbered_test laid_test lay_out lay_counts lay_numbered list_of shape_in
      same_test =
          let s = shape_in counts in
          let N = length (list_of store) in
          rw (same_shape, equal_order h counts (shape_counts cap.counts N s) room (rw (length_shape_counts cap.counts N s, ← c.lengths) room))

      same_found : decode cap moved ≡ decode_numbered cap store
      unfolding list_of
      same_found =
          ⊎_elim
          (λ (yes : numbered_test cap store ≡ true). decode_true cap moved (same_test ∙ yes) ∙ rw same_shape (sym (decode_yes cap store yes)))
          (λ (no : numbered_test cap store ≡ false). decode_false cap moved (same_test ∙ no) ∙ sym (decode_no cap store no))
          (true_or_false (numbered_test cap store))

    held : RightLengths cap store → decode cap (to_tree_order cap store) ≡ decode_numbered cap store
    unfolding to_tree_order
    held right =
        ⊎_elim
        (λ (small : get_or counts 0 0 ≤ 2 * cap.entries - 1).
        let c : Convertible cap counts = record { lengths = right.counts; size = small } in
        ap (decode cap) (moved_is c) ∙ same_found c)
        (λ (large : 2 * cap.entries - 1 < get_or counts 0 0).
        rw (conversion_size cap to_tree counts right.counts large)
        (decode_false cap store (size_refused cap store large) ∙ sym (decode_no cap store (numbered_large cap store large))))
        (le_or_gt (get_or counts 0 0) (2 * cap.entries - 1))

    lengths_kept : right_lengths cap (to_tree_order cap store) ≡ right_lengths cap store
    unfolding right_lengths to_tree_order to_tree
    lengths_kept = rw (length_conversion cap to_tree counts (λ xs. length_count_order (height (get_or xs 0 0)) xs))

  -- ---- the calls

  order_converts : Converts (numbered_view cap) (untallied_view cap) (to_tree_order cap)
  order_converts = record {
    no_entry = (untallied_lawful cap roomy).view.no_entry;
    sound = numbered_sound cap;
    lengths = lengths_kept;
    holds_same = λ store right. ap found_by (held store (right_lengths_lem cap store right));
    laid = laid_converted;
  }

  -- All calls give the list, slots, answers and output that they gave: the outcome on a converted store is the converted outcome.
  pub calls_converted : (call : Call) (tape : List ℕ) (store : Store) (output : List ℕ)
      → outcome (untallied cap) call tape (to_tree_order cap store) output ≡ converted (to_tree_order cap) (outcome (in_number_order cap) call tape store output)
  calls_converted call tape store output =
      outcome_converted (plain_calls cap.entries) (numbered_view cap) (untallied_view cap) (to_tree_order cap) order_converts (untallied_lawful cap roomy).calls tape call store output
