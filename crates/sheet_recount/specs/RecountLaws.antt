-- The look for the sheet with given slots and size parameter: what the slots give, tested, is that sheet, or there is none.
use Rattle.std.proofs.Math.Path.{◌≡◌, refl, sym}
use Rattle.std.proofs.Common.{◌∙◌}
use Rattle.std.specs.Result.{result_or}
use mathlib.Core.List.{List}
use Rattle.std.specs.Prelude.{Result, Ok, Err, ℕ, ◌-◌, ◌*◌, ◌^◌, ◌≤◌, ◌<◌, get_or}
use native.Mathlib.Omega.{arith}
use Rattle.std.proofs.Math.ListN.{length}
use Rattle.tree_sizes.specs.Sizes.{height, slots}
use Rattle.tree_rules.specs.Tree.{Shape}
use Rattle.tree_counts.specs.Counts.{shape_counts}
use Rattle.tree_counts.specs.ShapeCountLaws.{length_shape_counts}
use Rattle.store_order.specs.CountOrder.{count_order}
use Rattle.store_order.proofs.CountOrderLaws.{length_count_order, count_order_size}
use Rattle.store_layout.specs.declared.Capacity.{Capacity}
use Rattle.store_layout.specs.Room.{CapacityReady}
use Rattle.store_layout.specs.Layout.{lay_slots, lay_counts, lay_out}
use Rattle.store_layout.specs.Sheet.{IsContents}
use Rattle.store_layout.specs.Decode.{numbered}
use Rattle.store_layout.proofs.SheetLaws.{size_known}
use Rattle.store_layout.specs.RoomLaws.{counts_enough, slots_enough}
use Rattle.store_sums.specs.Numbers.{NumbersIn}
use Rattle.store_sums.specs.LaidLaws.{counts_laid, numbers_only}
use Rattle.call_outcomes.specs.declared.Cause.{Cause}
use Rattle.call_outcomes.specs.declared.Cause.TheVariants.{NotMendable}
use Rattle.call_outcomes.specs.DecisionLaws.{store_decided}
use Rattle.call_outcomes.specs.Untallied.{IsList, untallied_view, store_of}
use Rattle.call_outcomes.proofs.UntalliedLaws.{untallied_lawful}
use Rattle.call_open.specs.declared.Opened.{Opened}
use Rattle.call_open.specs.Opening.{opened_as, Opening}
use Rattle.call_open.specs.AdmittedLaws.{opened_sheet}
use Rattle.sheet_recount.specs.Recount.{Recounted}

-- No sheet has a size parameter above the greatest.
pub recounted_large : (cap : Capacity) (sl : List ℕ) (m : ℕ) → 2 * cap.entries - 1 < m → (work fresh : List ℕ) → Recounted cap sl m (Err NotMendable) work fresh
recounted_large cap sl m large work fresh = record {
  found = λ sheet e. let z : ◌≡◌ {A = ℕ} 0 1 = cc in absurd (omega arith);
  none = λ cause e. (cc, λ list s w laid size. omega (arith, w.room, w.shape.allowed.most, size));
}

module _ {cap : Capacity} (ready : CapacityReady cap) (sl : List ℕ) (m : ℕ) (slots_are : length sl ≡ cap.slots) (within : m ≤ 2 * cap.entries - 1) where
  pub slots_room : slots m ≤ length sl
  slots_room = rw slots_are (slots_enough cap ready.roomy m within)

  pub counts_room : 2 * 2 ^ height m ≤ cap.counts
  counts_room = counts_enough cap ready.roomy m within

  module _ (work : List ℕ) (numbers : NumbersIn length m m sl work) (room : length work ≡ cap.counts) where
    module _ (fresh : List ℕ) (is : fresh ≡ count_order (height m) work) where
      pub fresh_length : length fresh ≡ cap.counts
      fresh_length = rw is (length_count_order (height m) work) ∙ room

      fresh_size : get_or fresh 0 0 ≡ m
      fresh_size = rw is (count_order_size (height m) work) ∙ numbers.zero

      -- A sheet with these slots and this size parameter is laid out by these counts.
      sheet_counted : (list : List ℕ) (s : Shape) → IsContents cap list s → lay_slots cap.slots list s ≡ sl → s.size ≡ m → store_of sl fresh ≡ lay_out cap list s
      unfolding lay_out lay_counts
      sheet_counted list s w laid size =
          let known : work ≡ shape_counts cap.counts (length list) s
          = numbers_only length m m sl work (shape_counts cap.counts (length list) s) numbers
          (rw (← laid, ← size) (counts_laid cap ready.roomy list s w)) (room ∙ sym (length_shape_counts cap.counts (length list) s)) in
          rw (is, known, ← laid, ← size)

      module _ (found : Result Opened Cause) (copied : List ℕ) (w : Opening (untallied_view cap) numbered (store_of sl fresh) found copied) where
        recounted_sheet : (sheet : Opened) → found ≡ Ok sheet → Recounted cap sl m (Ok sheet) copied fresh
        recounted_sheet sheet e =
            let o = opened_sheet cap (store_of sl fresh) w sheet e in
            let same : sheet.m ≡ m = sym o.size ∙ sym (size_known cap (store_of sl fresh) o.contents o.decoded) ∙ fresh_size in
            record {
              found = λ other e'. let both : sheet ≡ other = cc in rw (← both) (o, same);
              none = λ cause e'. let z : ◌≡◌ {A = ℕ} 0 1 = cc in absurd (omega arith);
            }

        recounted_none : (cause : Cause) → found ≡ Err cause → Recounted cap sl m (Err NotMendable) copied fresh
        unfolding opened_as
        recounted_none cause e = record {
          found = λ sheet e'. let z : ◌≡◌ {A = ℕ} 0 1 = cc in absurd (omega arith);
          none = λ cause' e'. (cc, λ list s contents laid size. no_sheet list s contents (sheet_counted list s contents laid size));
        }
          where
            no_sheet : (list : List ℕ) (s : Shape) → IsContents cap list s → store_of sl fresh ≡ lay_out cap list s → ⊥
            no_sheet list s contents laid =
                let lawful = (untallied_lawful cap ready.roomy).view in
                let is_list : IsList cap list = record { room = contents.room; entries = contents.entries } in
                let decided = store_decided (untallied_view cap) (lay_out cap list s) (record { list = list; shape = s })
                (lawful.lengths list s is_list contents.shape) (lawful.complete list s is_list contents.shape) in
                let held = rw (laid, decided) at w.found in
                let z : ◌≡◌ {A = ℕ} 0 1 = cc in omega arith

        pub recounted : {answer : Result Opened Cause} → answer ≡ result_or found (Err NotMendable) → Recounted cap sl m answer copied fresh
        recounted is = rw is (go found refl)
          where
            go : (o : Result Opened Cause) → found ≡ o → Recounted cap sl m (result_or o (Err NotMendable)) copied fresh
            go (Ok sheet) e = recounted_sheet sheet e
            go (Err cause) e = recounted_none cause e
