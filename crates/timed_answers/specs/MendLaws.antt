-- What the code leaves of a timed store is what mending comes to.
use Rattle.std.specs.Prelude.{Ok, Err, ◌≡◌, true, false, List, [], ℕ, length, get_or, take}
use Rattle.std.proofs.Math.Path.{sym, ap}
use Rattle.std.proofs.Common.{ap₂, ◌∙◌, arith}
use Rattle.tree_sizes.specs.Sizes as sizes
use Rattle.store_layout.specs.declared.Capacity.{Capacity}
use Rattle.store_layout.specs.Room.{CapacityReady}
use Rattle.store_layout.specs.Leaf.{nonzero}
use Rattle.store_layout.specs.Layout.{lay_out}
use Rattle.store_layout.specs.Decode.{list_of}
use Rattle.store_layout.proofs.SheetLaws.{list_of_lay_out}
use Rattle.store_keys.specs.Key.{rises}
use Rattle.store_keys.specs.KeyLaws.{rises_true, true_rises}
use Rattle.store_balance.specs.BalanceIn.{balance_in}
use Rattle.store_balance.specs.BalanceInLaws.{balance_laid}
use Rattle.call_outcomes.specs.declared.Cause.TheVariants.{Lengths, NotMendable}
use Rattle.call_outcomes.specs.declared.Answer.TheVariants.{Mended}
use Rattle.call_outcomes.specs.Outcome.{refused}
use Rattle.call_outcomes.specs.Untallied.{store_of}
use Rattle.call_outcomes.proofs.UntalliedLaws.{contents_of_lem}
use Rattle.call_outcomes.specs.Plain.{PlainStore}
use Rattle.call_open.specs.Opening.{OpenedSheet}
use Rattle.call_open.specs.OpenedLaws as opened
use Rattle.call_timed.specs.Timed.{timed_view, TimedStore, timed_store_of, timed_outcome_of}
use Rattle.call_timed.proofs.TimedLaws.{timed_lawful, right_timed}
use Rattle.call_mend.specs.Mending.{Mendable, mended}
use Rattle.call_mend.specs.Views.{timed_store}
use Rattle.call_mend.proofs.MendingLaws.{mended_lengths, mended_none, mended_made}
use Rattle.sheet_recount.specs.Recount.{NoSheet, TalliesOf}
use Rattle.sheet_recount.specs.MendLaws.{same_kept_lem, put_laid, no_kept}

module _ {cap : Capacity} (ready : CapacityReady cap) (slots counts tallies balance : List ℕ) where
  abbrev store : TimedStore
  store = timed_store_of slots counts tallies balance

  pub mend_lengths : (timed_view cap).right_lengths store ≡ false
      → timed_outcome_of (Err Lengths) slots counts tallies balance [] ≡ mended (timed_view cap) (timed_store cap) store
  unfolding refused
  mend_lengths h = sym (mended_lengths ready.roomy (timed_view cap) (timed_store cap) (timed_lawful cap ready.roomy).view store h)

  module _ (right : (timed_view cap).right_lengths store ≡ true) where
    none_mended : (Mendable (timed_view cap) (timed_store cap) store → ⊥)
        → timed_outcome_of (Err NotMendable) slots counts tallies balance [] ≡ mended (timed_view cap) (timed_store cap) store
    unfolding refused
    none_mended none = sym (mended_none ready.roomy (timed_view cap) (timed_store cap) (timed_lawful cap ready.roomy).view store right none)

    pub mend_none : NoSheet cap slots (get_or counts 0 0)
        → timed_outcome_of (Err NotMendable) slots counts tallies balance [] ≡ mended (timed_view cap) (timed_store cap) store
    mend_none none = none_mended (λ m. no_kept ready slots counts none m.list m.shape m.is_list.plain m.is_shape m.same)

    module _ {fresh work : List ℕ} {n m : ℕ} (w : OpenedSheet cap (store_of slots fresh) n m work) where
      -- Its list is that of every sheet with these slots.
      same_list : (v : Mendable (timed_view cap) (timed_store cap) store) → v.list ≡ nonzero (take (sizes.slots m) slots)
      unfolding list_of lay_out
      same_list v =
          let contents = contents_of_lem cap v.list v.shape v.is_list.plain v.is_shape in
          sym (list_of_lay_out cap v.list v.shape contents)
          ∙ ap nonzero (v.same.slots ∙ opened.slots_are ready w)
          ∙ list_of_lay_out cap w.contents.list w.contents.shape (opened.laid ready w).0
          ∙ sym (opened.front_entries ready w)

      -- A list that does not rise.
      pub mend_fallen : rises (nonzero (take (sizes.slots m) slots)) ≡ false
          → timed_outcome_of (Err NotMendable) slots counts tallies balance [] ≡ mended (timed_view cap) (timed_store cap) store
      mend_fallen fallen =
          none_mended
          (λ v.
          let rising = rises_true 0 v.list v.is_list.rising in
          let falls = rw (← same_list v) at fallen in
          let z : ◌≡◌ {A = ℕ} 0 1 = cc in omega arith)

      module _ (kept : m ≡ get_or counts 0 0) (rise : rises (nonzero (take (sizes.slots m) slots)) ≡ true) where
        abbrev found_mendable : Mendable (timed_view cap) (timed_store cap) store
        found_mendable =
            let contents = (opened.laid ready w).0 in
            record {
              list = w.contents.list;
              shape = w.contents.shape;
              is_list = record {
                plain = record { room = contents.room; entries = contents.entries };
                rising = true_rises 0 w.contents.list (rw (opened.front_entries ready w) at rise);
              };
              is_shape = contents.shape;
              same = same_kept_lem ready w counts kept;
            }

        pub mend_made : {counts' tallies' balance' : List ℕ} → counts' ≡ fresh → TalliesOf cap slots fresh tallies' → balance' ≡ balance_in m (length balance) slots
            → timed_outcome_of (Ok (Mended n)) slots counts' tallies' balance' [] ≡ mended (timed_view cap) (timed_store cap) store
        mend_made counts_are put written =
            let c = w.contents in
            let made = mended_made ready.roomy (timed_view cap) (timed_store cap) (timed_lawful cap ready.roomy).view store right found_mendable in
            let number = (right_timed cap store right).balance in
            let third = written
            ∙ ap (λ (k : ℕ). balance_in m k slots) number
            ∙ ap₂ (λ (k : ℕ) (xs : List ℕ). balance_in k cap.counts xs) (sym w.size) (opened.slots_are ready w)
            ∙ balance_laid cap ready.roomy c.list c.shape (opened.laid ready w).0 in
            ap₂ (λ (t : PlainStore) (xs : List ℕ). record { answer = Ok (Mended n); store = record { sheet = t; slice = xs }; output = [] }) (put_laid ready w counts_are put) third
            ∙ sym (rw w.count at made)
