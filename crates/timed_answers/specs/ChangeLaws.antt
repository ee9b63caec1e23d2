-- A change of a timed sheet: that of the plain sheet in it, and then the third slice of the sheet that is left.
use Rattle.std.specs.Prelude.{Option, Some, None, Ok, Err, ◌≡◌, refl, List, [], ◌≢◌, ℕ, ◌+◌, length, get_or, take, drop}
use Rattle.std.proofs.Common.{sym, ◌∙◌, subst, arith}
use Rattle.std.proofs.Math.Path.{ap}
use Rattle.std.proofs.Math.Option.{none}
use Rattle.tree_rules.specs.declared.Change.{Change}
use Rattle.tree_rules.specs.Tree.{Shape}
use Rattle.tree_counts.specs.declared.Part.{Part}
use Rattle.store_layout.specs.declared.Capacity.{Capacity}
use Rattle.store_layout.specs.Room.{CapacityReady}
use Rattle.store_layout.specs.Layout.{lay_slots, lay_out}
use Rattle.store_layout.specs.Decode.{Contents}
use Rattle.store_layout.specs.Sheet.{IsContents}
use Rattle.store_layout.proofs.SheetLaws.{size_lay_out}
use Rattle.store_part.specs.Plan.{part_from, part_length, first_leaf, last_leaf}
use Rattle.store_balance.specs.BalanceIn.{balance_in}
use Rattle.store_balance.specs.BalanceInLaws.{balance_laid}
use Rattle.store_balance_part.specs.Update.{BalanceBut, BalanceReady}
use Rattle.store_balance_part.specs.SheetLaws.{sheet_kept}
use Rattle.call_outcomes.specs.declared.Cause.TheVariants.{TapeEnded}
use Rattle.call_outcomes.specs.declared.Answer.TheVariants.{Changed}
use Rattle.call_outcomes.specs.Kind.{applied}
use Rattle.call_outcomes.specs.Causes.{accept, store_decision, looked_at, argument_cause, decision}
use Rattle.call_outcomes.specs.Outcome.{outcome}
use Rattle.call_outcomes.specs.DecisionLaws.{accepted, accepted_by}
use Rattle.call_outcomes.specs.PlainCalls.{plain_change, change_cause, edit_of, plain_calls, changing}
use Rattle.call_outcomes.proofs.UntalliedLaws.{contents_of_lem}
use Rattle.call_outcomes.proofs.SliceLaws.{SliceHolds, slice_holds, SliceChanged, slice_changed, slice_ended}
use Rattle.call_outcomes.specs.Plain.{plain_view, plain, PlainStore, plain_store_of, plain_outcome_of}
use Rattle.call_outcomes.proofs.PlainLaws.{plain_lawful}
use Rattle.call_change.specs.SheetChangeLaws as changed
use Rattle.call_timed.specs.Timed.{balance_slice, timed_view, TimedStore, ranked, timed_store_of, timed_outcome_of}
use Rattle.sheet_change.specs.declared.Made.{Made}
use Rattle.sheet_change.specs.Made.{answer_to, PartMade, MadeIn}
use Rattle.sheet_change.specs.PlainReady.{PlainReady}
use Rattle.sheet_change.specs.TallyLaws.{sheet_ready}
use Rattle.timed_answers.specs.RankedReady.{RankedReady}

module _ {cap : Capacity} (ready : CapacityReady cap) {change : Change} {e n m : ℕ} {slots counts tallies balance work : List ℕ}
    (p : RankedReady cap change e n m (timed_store_of slots counts tallies balance) work) where
  abbrev store : TimedStore
  store = timed_store_of slots counts tallies balance

  abbrev c : Contents
  c = p.admitted.contents

  looked : (store_decision (timed_view cap) store ≡ accept c) × (change_cause cap.entries (plain_change change e) (length c.list) ≡ none)
  unfolding looked_at argument_cause
  looked = accepted (ranked cap) (changing change e) store c p.admitted.decided

  held : SliceHolds (plain_view cap) (balance_slice cap) store c
  held = slice_holds (plain_view cap) (balance_slice cap) store c looked.0

  -- The change of the plain sheet goes on too.
  pub plain_decided : decision (plain cap) (changing change e) (plain_store_of slots counts tallies) ≡ accept c
  unfolding looked_at argument_cause
  plain_decided = accepted_by (plain cap) (changing change e) (plain_store_of slots counts tallies) c held.decided looked.1

  abbrev pub plain_ready : PlainReady cap change e n m (plain_store_of slots counts tallies) work
  plain_ready = record {
    admitted = record { contents = c; decided = plain_decided; count = p.admitted.count; size = p.admitted.size };
    copied = p.copied;
  }

  -- The sheet before the change.
  contents : IsContents cap c.list c.shape
  contents = (changed.sound ready (sheet_ready ready plain_ready)).0

  slots_before : slots ≡ lay_slots cap.slots c.list c.shape
  slots_before = changed.slots_are ready (sheet_ready ready plain_ready)

  pub balance_number : length balance ≡ cap.counts
  balance_number = held.length_is

  module _ (tape : List ℕ) (made : Option Made) {slots' counts' tallies' : List ℕ}
      (is : plain_outcome_of (answer_to made) slots' counts' tallies' [] ≡ outcome (plain cap) (changing change e) tape (plain_store_of slots counts tallies) []) where
    pub timed_ended : made ≡ None → timed_outcome_of (Err TapeEnded) slots' counts' tallies' balance [] ≡ outcome (ranked cap) (changing change e) tape store []
    timed_ended ended =
        slice_ended (plain cap) (balance_slice cap) (plain_calls cap.entries) (plain_change change e) (plain_change change e) tape store c plain_decided
        p.admitted.decided refl _ (ap (λ (x : Option Made). plain_outcome_of (answer_to x) slots' counts' tallies' []) (sym ended) ∙ is)

    module _ (confined : MadeIn m slots made slots' counts') {done : Made} (is_done : made ≡ Some done) where
      abbrev m' : ℕ
      m' = done.m

      abbrev part : Part
      part = done.part

      abbrev list' : List ℕ
      list' = applied (edit_of (plain_change change e)) c.list

      left : SliceChanged (plain cap) (balance_slice cap) (plain_calls cap.entries) (plain_change change e) (plain_change change e) tape store c plain_decided
          p.admitted.decided refl done.n done.words (plain_store_of slots' counts' tallies')
      left =
          slice_changed (plain cap) (balance_slice cap) (plain_calls cap.entries) (plain_change change e) (plain_change change e) tape store c plain_decided
          p.admitted.decided refl (plain_lawful cap ready.roomy) done.n done.words (plain_store_of slots' counts' tallies')
          (ap (λ (x : Option Made). plain_outcome_of (answer_to x) slots' counts' tallies' []) (sym is_done) ∙ is)

      abbrev shape' : Shape
      shape' = left.made.shape

      contents' : IsContents cap list' shape'
      contents' = contents_of_lem cap list' shape' left.made.is_list left.made.is_shape

      size_is : get_or counts' 0 0 ≡ shape'.size
      size_is = ap (λ (t : PlainStore). get_or t.sheet.counts 0 0) left.made.laid ∙ size_lay_out cap list' shape' contents' ready.roomy

      slots_are : slots' ≡ lay_slots cap.slots list' shape'
      unfolding lay_out
      slots_are = ap (λ (t : PlainStore). t.sheet.slots) left.made.laid

      -- The part of the change, and what stands outside of it.
      within : PartMade m m' part slots slots' counts'
      within = subst (λ (x : Option Made). MadeIn m slots x slots' counts') is_done confined

      size' : m' ≡ shape'.size
      size' = sym within.size ∙ size_is

      -- ---- the third slice is written

      kept : part.range ≢ 1 → BalanceBut m' slots' (first_leaf m' part) (last_leaf m' part + 1) balance
      kept other =
          let same : m' ≡ c.shape.size = within.size_kept other ∙ sym p.admitted.size in
          let before = subst (λ (xs : List ℕ). take (part_from m' part) xs ≡ take (part_from m' part) slots') slots_before (within.before other) in
          let behind = subst (λ (xs : List ℕ). drop (part_from m' part + part_length m' part) xs ≡ drop (part_from m' part + part_length m' part) slots') slots_before (within.behind other) in
          rw same (sheet_kept cap ready.roomy c.list c.shape contents (rw same at within.inside) (rw same at before) (rw same at behind) held.laid)

      pub balance_ready : BalanceReady m' part slots' balance
      balance_ready = record {
        most = omega (arith, size', contents'.room, contents'.shape.allowed.most, ready.few);
        room = rw (size', balance_number) (omega (arith, ready.roomy.counts_fit _ _ contents'.room contents'.shape.allowed));
        inside = within.inside;
        kept = kept;
      }

      -- With the third slice that the slots give it is the change of the timed sheet.
      pub timed_made : {balance' : List ℕ} → balance' ≡ balance_in m' (length balance) slots'
          → timed_outcome_of (Ok (Changed done.n done.words)) slots' counts' tallies' balance' [] ≡ outcome (ranked cap) (changing change e) tape store []
      timed_made third =
          left.sliced_outcome _
          (third
          ∙ ap (λ (k : ℕ). balance_in k (length balance) slots') size'
          ∙ ap (λ (k : ℕ). balance_in shape'.size k slots') balance_number
          ∙ ap (balance_in shape'.size cap.counts) slots_are
          ∙ balance_laid cap ready.roomy list' shape' contents')
