-- A change of a plain sheet: that of its slots and counts, and then the tallies of the sheet that is left.
use Rattle.std.specs.Prelude.{◌≡◌, refl, true, ◌&&◌, not, ◌≢◌, List, [], ◌∷◌, ℕ, ◌*◌, ◌^◌, ◌≤◌, eqb, get_or, drop, Option, Some, None, Ok, Err}
use Rattle.std.proofs.Common.{sym, ◌∙◌, subst, arith, eqb-true}
use Rattle.std.proofs.Math.Path.{ap}
use Rattle.std.proofs.Math.Option.{none}
use Rattle.std.proofs.lemmas.Bool.{not-true}
use Rattle.std.proofs.Math.ListN.{length}
use Rattle.base.specs.BoolLaws.{and_both}
use Rattle.draw_shares.specs.Tape.{run_at}
use Rattle.tree_sizes.specs.Sizes.{height}
use Rattle.tree_rules.specs.declared.Change.{Change}
use Rattle.tree_rules.specs.Compare.{count_after}
use Rattle.tree_rules.specs.Rules.{update}
use Rattle.tree_rules.specs.Tree.{Shape}
use Rattle.tree_counts.specs.declared.Part.{Part}
use Rattle.tree_counts.specs.Counts.{shape_in}
use Rattle.tree_walk.specs.declared.Updated.{Updated}
use Rattle.tree_walk.specs.Updated.{UpdatedAs}
use Rattle.store_order.specs.CountOrder.{count_order, number_order}
use Rattle.store_order.proofs.CountOrderLaws.{count_number}
use Rattle.store_layout.specs.declared.Capacity.{Capacity}
use Rattle.store_layout.specs.Room.{CapacityReady}
use Rattle.store_layout.specs.Layout.{Store, lay_slots, lay_counts, lay_out}
use Rattle.store_layout.specs.Decode.{Contents, numbered}
use Rattle.store_layout.specs.Sheet.{IsContents}
use Rattle.store_layout.proofs.SheetLaws.{size_lay_out, length_slots, length_counts, numbered_lay_out}
use Rattle.store_scoring.specs.Scoring.{retired_bit, tally, none_retired}
use Rattle.store_tallies.specs.Tallies.{range_tallies, lay_tallies}
use Rattle.store_tallies.specs.TalliesIn.{TalliesIn}
use Rattle.store_tallies.specs.LayLaws.{numbered_tallies}
use Rattle.store_tallies.specs.LaidLaws.{tallies_laid}
use Rattle.call_outcomes.specs.declared.Answer.TheVariants.{Changed}
use Rattle.call_outcomes.specs.declared.Cause.TheVariants.{TapeEnded}
use Rattle.call_outcomes.specs.Kind.{applied}
use Rattle.call_outcomes.specs.Causes.{accept, store_decision, looked_at, argument_cause, decision}
use Rattle.call_outcomes.specs.Outcome.{outcome}
use Rattle.call_outcomes.specs.DecisionLaws.{accepted, accepted_by}
use Rattle.call_outcomes.specs.PlainCalls.{plain_change, change_cause, edit_of, plain_calls, changing}
use Rattle.call_outcomes.specs.PlainCallLaws.{edit_list}
use Rattle.call_outcomes.specs.Untallied.{untallied_view, untallied, store_of, outcome_of}
use Rattle.call_outcomes.proofs.UntalliedLaws.{contents_of_lem, untallied_lawful}
use Rattle.call_outcomes.proofs.SliceLaws.{SliceHolds, slice_holds, SliceChanged, slice_changed, slice_ended}
use Rattle.call_outcomes.specs.Plain.{tally_slice, plain_view, plain, PlainStore, plain_store_of, plain_outcome_of}
use Rattle.call_change.specs.declared.DrawnChange.{DrawnChange}
use Rattle.call_change.specs.SheetChange.{ChangeReady, written}
use Rattle.call_change.specs.SheetChangeLaws as changed
use Rattle.store_part.specs.LayPart.{lay_part}
use Rattle.store_part.specs.LeavesLaws.{kept_numbers}
use Rattle.call_tallies.specs.WriteLaws.{none_changed, none_known, counts_ready, none_written, slots_written}
use Rattle.sheet_change.specs.Made.{PartMade}
use Rattle.sheet_change.specs.PlainReady.{PlainReady, TalliesAfter, LeftSheet}

module _ {cap : Capacity} (ready : CapacityReady cap) {change : Change} {e n m : ℕ} {slots counts tallies work : List ℕ}
    (p : PlainReady cap change e n m (plain_store_of slots counts tallies) work) where
  abbrev store : PlainStore
  store = plain_store_of slots counts tallies

  abbrev c : Contents
  c = p.admitted.contents

  -- ---- the sheet before the change

  looked : (store_decision (plain_view cap) store ≡ accept c) × (change_cause cap.entries (plain_change change e) (length c.list) ≡ none)
  unfolding looked_at argument_cause
  looked = accepted (plain cap) (changing change e) store c p.admitted.decided

  held : SliceHolds (untallied_view cap) (tally_slice cap) store c
  held = slice_holds (untallied_view cap) (tally_slice cap) store c looked.0

  -- The change of slots and counts goes on too.
  pub sheet_decided : decision (untallied cap) (changing change e) (store_of slots counts) ≡ accept c
  unfolding looked_at argument_cause
  sheet_decided = accepted_by (untallied cap) (changing change e) (store_of slots counts) c held.decided looked.1

  abbrev pub sheet_ready : ChangeReady cap change e n m (store_of slots counts) work
  sheet_ready = record {
    admitted = record { contents = c; decided = sheet_decided; count = p.admitted.count; size = p.admitted.size };
    copied = p.copied;
  }

  pub tallies_number : length tallies ≡ cap.counts
  tallies_number = held.length_is

  contents : IsContents cap c.list c.shape
  contents = (changed.sound ready sheet_ready).0

  pub counts_before : length counts ≡ cap.counts
  unfolding lay_out
  counts_before = ap (λ (t : Store). length t.counts) (changed.sound ready sheet_ready).1 ∙ length_counts cap c.list c.shape contents

  pub old_room : 2 * 2 ^ height m ≤ cap.counts
  old_room = rw (← p.admitted.size) (ready.roomy.counts_fit _ _ contents.room contents.shape.allowed)

  -- ---- what the change leaves

  module _ (tape : List ℕ) where
    pub plain_ended : {slots' counts' : List ℕ}
        → outcome_of (Err TapeEnded) slots' counts' [] ≡ outcome (untallied cap) (changing change e) tape (store_of slots counts) []
        → plain_outcome_of (Err TapeEnded) slots' counts' tallies [] ≡ outcome (plain cap) (changing change e) tape store []
    plain_ended is =
        slice_ended (untallied cap) (tally_slice cap) (plain_calls cap.entries) (plain_change change e) (plain_change change e) tape store c
        sheet_decided p.admitted.decided refl _ is

    module _ (answer : Option Updated) (work' : List ℕ)
        (w : UpdatedAs change n (shape_in work) (run_at (update change n (shape_in work)) tape 0) answer (length work) work')
        (m' : ℕ) (part : Part) (next : ℕ) (done : answer ≡ Some (record { m = m'; part = part; next = next })) where
      abbrev d : DrawnChange
      d = record { old = m; new = m'; part = part; change = change; entry = e }

      abbrev list' : List ℕ
      list' = applied (edit_of (plain_change change e)) c.list

      -- By range number, the tallies before the change are those that the slots gave.
      before_in : part.range ≢ 1 → TalliesIn m' slots (number_order (height m') tallies)
      before_in other =
          let size : m' ≡ c.shape.size = changed.size_kept ready sheet_ready tape answer work' w m' part next done other ∙ sym p.admitted.size in
          let words : number_order (height c.shape.size) tallies ≡ range_tallies cap.counts c.list c.shape
          = ap (number_order (height c.shape.size)) held.laid ∙ numbered_tallies cap ready.roomy c.list c.shape contents in
          let found : TalliesIn c.shape.size slots (range_tallies cap.counts c.list c.shape)
          = subst (λ (xs : List ℕ). TalliesIn c.shape.size xs (range_tallies cap.counts c.list c.shape)) (sym (changed.slots_are ready sheet_ready))
          (tallies_laid cap ready.roomy c.list c.shape contents) in
          rw (size, words) found

      module _ {slots' counts' : List ℕ} (Store-is : store_of slots' counts' ≡ written d work' (store_of slots counts)) where
        left : SliceChanged (untallied cap) (tally_slice cap) (plain_calls cap.entries) (plain_change change e) (plain_change change e) tape store c
            sheet_decided p.admitted.decided refl (count_after change n) next (store_of slots' counts')
        left =
            slice_changed (untallied cap) (tally_slice cap) (plain_calls cap.entries) (plain_change change e) (plain_change change e) tape store c
            sheet_decided p.admitted.decided refl (untallied_lawful cap ready.roomy) (count_after change n) next (store_of slots' counts')
            (changed.change_done ready sheet_ready tape answer work' w m' part next done (count_after change n) slots' counts' refl Store-is)

        abbrev shape' : Shape
        shape' = left.made.shape

        contents' : IsContents cap list' shape'
        contents' = contents_of_lem cap list' shape' left.made.is_list left.made.is_shape

        size' : shape'.size ≡ m'
        size' =
            sym (size_lay_out cap list' shape' contents' ready.roomy)
            ∙ ap (λ (t : Store). get_or t.counts 0 0) (sym left.made.laid)
            ∙ changed.size_written ready sheet_ready tape answer work' w m' part next done Store-is

        slots_are' : slots' ≡ lay_slots cap.slots list' shape'
        unfolding lay_out
        slots_are' = ap (λ (t : Store). t.slots) left.made.laid

        counts_are' : counts' ≡ lay_counts cap.counts (length list') shape'
        unfolding lay_out
        counts_are' = ap (λ (t : Store). t.counts) left.made.laid

        slots_number : length slots' ≡ cap.slots
        unfolding lay_out
        slots_number = ap length slots_are' ∙ length_slots cap list' shape' contents' ready.roomy

        -- ---- the tallies are written

        laid : slots' ≡ lay_part m m' part change e work' slots
        unfolding written
        laid = ap (λ (t : Store). t.slots) Store-is

        -- What writing them asks, where `numbers` are those before the change by range number: the size parameter is kept but for a change of the whole sheet.
        pub tallies_after : {numbers : List ℕ} → numbers ≡ number_order (height m) tallies → TalliesAfter d slots' tallies work' numbers
        tallies_after {numbers} before = record {
          ready = record {
            most = omega (arith, size', contents'.room, contents'.shape.allowed.most, ready.few);
            slots_room = rw (← size', slots_number) (ready.roomy.slots_fit _ _ contents'.room contents'.shape.allowed);
            ranges_room = rw (← size', tallies_number) (ready.roomy.counts_fit _ _ contents'.room contents'.shape.allowed);
          };
          part = let inside = changed.part_inside ready sheet_ready tape answer work' w m' part next done in
              let numbers-are : part.range ≢ 1 → numbers ≡ number_order (height m') tallies
              = λ other. before ∙ rw (changed.size_kept ready sheet_ready tape answer work' w m' part next done other) in
              record {
                inside = inside;
                same = λ other.
                    rw (numbers-are other)
                    (sym (count_number (height m') tallies (rw (← size', tallies_number) (ready.roomy.counts_fit _ _ contents'.room contents'.shape.allowed))));
                kept = λ other.
                    rw (numbers-are other)
                    (kept_numbers inside tally 0 (changed.kept_before ready sheet_ready tape answer work' w m' part next done other laid)
                    (changed.kept_behind ready sheet_ready tape answer work' w m' part next done other laid) (before_in other));
              };
          counted =
              counts_ready cap ready.roomy list' shape' contents' size' slots_are'
              (changed.work_numbered ready sheet_ready tape answer work' w m' part next done Store-is
              ∙ ap numbered left.made.laid
              ∙ numbered_lay_out cap list' shape' contents' ready.roomy);
        }

        pub counts_number : length counts' ≡ cap.counts
        counts_number = ap (λ (t : Store). length t.counts) left.made.laid ∙ length_counts cap list' shape' contents'

        -- Outside of the part it is what it was.
        pub part_made : PartMade m m' part slots slots' counts'
        part_made = record {
          size = changed.size_written ready sheet_ready tape answer work' w m' part next done Store-is;
          inside = changed.part_inside ready sheet_ready tape answer work' w m' part next done;
          size_kept = changed.size_kept ready sheet_ready tape answer work' w m' part next done;
          before = λ other. changed.kept_before ready sheet_ready tape answer work' w m' part next done other laid;
          behind = λ other. changed.kept_behind ready sheet_ready tape answer work' w m' part next done other laid;
        }

        -- ---- with these tallies the change is that of the plain sheet

        by_slots : {tallies' : List ℕ} → ((words : List ℕ) → TalliesIn m' slots' words → length words ≡ length tallies → tallies' ≡ count_order (height m') words)
            → tallies' ≡ lay_tallies cap.counts list' shape'
        by_slots is-tallies =
            slots_written cap ready.roomy list' shape' contents' size' slots_are' (λ words found size. is-tallies words found (size ∙ sym tallies_number))

        pub plain_made_by_slots : (after : ℕ) → after ≡ count_after change n → {tallies' : List ℕ}
            → ((words : List ℕ) → TalliesIn m' slots' words → length words ≡ length tallies → tallies' ≡ count_order (height m') words)
            → plain_outcome_of (Ok (Changed after next)) slots' counts' tallies' [] ≡ outcome (plain cap) (changing change e) tape store []
        plain_made_by_slots after number is-tallies = rw number (left.sliced_outcome _ (by_slots is-tallies))

        -- no boat was retired, and none comes in
        pub plain_made_by_counts : (eqb (get_or tallies 1 0) n && not (retired_bit e)) ≡ true → (after : ℕ) → after ≡ count_after change n → {tallies' : List ℕ}
            → tallies' ≡ 0 ∷ drop 1 counts' → plain_outcome_of (Ok (Changed after next)) slots' counts' tallies' [] ≡ outcome (plain cap) (changing change e) tape store []
        plain_made_by_counts scoring after number is-tallies =
            let both = and_both (eqb (get_or tallies 1 0) n) (not (retired_bit e)) scoring in
            let all : get_or (lay_tallies cap.counts c.list c.shape) 1 0 ≡ length c.list
            = ap (λ (xs : List ℕ). get_or xs 1 0) (sym held.laid) ∙ eqb-true _ _ both.0 ∙ sym p.admitted.count in
            let none : none_retired list' ≡ true
            = ap none_retired (edit_list change e c.list)
            ∙ none_changed change e c.list (none_known cap ready.roomy c.list c.shape contents all) (not-true (retired_bit e) both.1) in
            rw number (left.sliced_outcome _ (none_written cap ready.roomy list' shape' contents' none counts_are' is-tallies))

        -- The sheet that is left.
        pub left_sheet : LeftSheet cap m' slots' counts' tallies
        left_sheet = record { list = list'; shape = shape'; contents = contents'; laid = left.made.laid; tallied = by_slots }
