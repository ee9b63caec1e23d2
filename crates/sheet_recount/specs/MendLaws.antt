-- What the code leaves is what mending comes to.
use Rattle.std.specs.Prelude.{Ok, Err, ◌≡◌, true, false, List, [], ℕ, length, get_or}
use Rattle.std.proofs.Math.Path.{sym}
use Rattle.std.proofs.Common.{ap, ◌∙◌}
use Rattle.tree_rules.specs.Tree.{Shape, IsShape}
use Rattle.store_layout.specs.declared.Capacity.{Capacity}
use Rattle.store_layout.specs.Room.{CapacityReady}
use Rattle.store_layout.specs.Layout.{lay_out}
use Rattle.store_layout.proofs.SheetLaws.{size_lay_out}
use Rattle.call_outcomes.specs.declared.Cause.TheVariants.{Lengths, NotMendable}
use Rattle.call_outcomes.specs.declared.Answer.TheVariants.{Mended}
use Rattle.call_outcomes.specs.Outcome.{refused}
use Rattle.call_outcomes.specs.Untallied.{IsList, store_of}
use Rattle.call_outcomes.proofs.UntalliedLaws.{contents_of_lem}
use Rattle.call_outcomes.specs.Plain.{plain_view, PlainStore, lay_plain, plain_store_of, plain_outcome_of}
use Rattle.call_outcomes.proofs.PlainLaws.{plain_lawful}
use Rattle.call_open.specs.Opening.{OpenedSheet}
use Rattle.call_open.specs.OpenedLaws as opened
use Rattle.call_mend.specs.Mending.{SameKept, Mendable, mended}
use Rattle.call_mend.specs.Views.{plain_store}
use Rattle.call_mend.proofs.MendingLaws.{mended_lengths, mended_none, mended_made}
use Rattle.sheet_recount.specs.Recount.{NoSheet, TalliesOf}

-- ---- the sheet that was found

module _ {cap : Capacity} (ready : CapacityReady cap) {slots fresh work : List ℕ} {n m : ℕ} (w : OpenedSheet cap (store_of slots fresh) n m work) where
  -- It has these slots, and the size parameter of any counts with it at number 0.
  pub same_kept_lem : (counts : List ℕ) → m ≡ get_or counts 0 0 → SameKept (lay_out cap w.contents.list w.contents.shape) (store_of slots counts)
  unfolding lay_out
  same_kept_lem counts kept = record {
    slots = sym (opened.slots_are ready w);
    size = size_lay_out cap w.contents.list w.contents.shape (opened.laid ready w).0 ready.roomy ∙ w.size ∙ kept;
  }

  -- What is put in makes the store this sheet.
  pub put_laid : {counts tallies : List ℕ} → counts ≡ fresh → TalliesOf cap slots fresh tallies
      → plain_store_of slots counts tallies ≡ lay_plain cap w.contents.list w.contents.shape
  put_laid counts_are put = rw (counts_are, put.tallies_are w.contents w.decoded, ← (opened.laid ready w).1)

-- A sheet that has the slots and the size parameter of a store is ruled out where there is none.
pub no_kept : {cap : Capacity} → CapacityReady cap → (slots counts : List ℕ) → NoSheet cap slots (get_or counts 0 0) → (list : List ℕ) (s : Shape) → IsList cap list → IsShape (length list) s
    → SameKept (lay_out cap list s) (store_of slots counts) → ⊥
unfolding lay_out
no_kept {cap} ready slots counts none list s is_list is_shape same =
    let contents = contents_of_lem cap list s is_list is_shape in
    none list s contents same.slots (sym (size_lay_out cap list s contents ready.roomy) ∙ same.size)

-- ---- what mending comes to

module _ {cap : Capacity} (ready : CapacityReady cap) (slots counts tallies : List ℕ) where
  abbrev store : PlainStore
  store = plain_store_of slots counts tallies

  pub mend_lengths : (plain_view cap).right_lengths store ≡ false
      → plain_outcome_of (Err Lengths) slots counts tallies [] ≡ mended (plain_view cap) (plain_store cap) store
  unfolding refused
  mend_lengths h = sym (mended_lengths ready.roomy (plain_view cap) (plain_store cap) (plain_lawful cap ready.roomy).view store h)

  module _ (right : (plain_view cap).right_lengths store ≡ true) where
    pub mend_none : NoSheet cap slots (get_or counts 0 0)
        → plain_outcome_of (Err NotMendable) slots counts tallies [] ≡ mended (plain_view cap) (plain_store cap) store
    unfolding refused
    mend_none none =
        sym
        (mended_none ready.roomy (plain_view cap) (plain_store cap) (plain_lawful cap ready.roomy).view store right
        (λ m. no_kept ready slots counts none m.list m.shape m.is_list m.is_shape m.same))

    module _ {fresh work : List ℕ} {n m : ℕ} (w : OpenedSheet cap (store_of slots fresh) n m work) (kept : m ≡ get_or counts 0 0) where
      abbrev found_mendable : Mendable (plain_view cap) (plain_store cap) store
      found_mendable =
          let contents = (opened.laid ready w).0 in
          record {
            list = w.contents.list;
            shape = w.contents.shape;
            is_list = record { room = contents.room; entries = contents.entries };
            is_shape = contents.shape;
            same = same_kept_lem ready w counts kept;
          }

      pub mend_made : {counts' tallies' : List ℕ} → counts' ≡ fresh → TalliesOf cap slots fresh tallies'
          → plain_outcome_of (Ok (Mended n)) slots counts' tallies' [] ≡ mended (plain_view cap) (plain_store cap) store
      mend_made counts_are put =
          let made = mended_made ready.roomy (plain_view cap) (plain_store cap) (plain_lawful cap ready.roomy).view store right found_mendable in
          ap (λ (t : PlainStore). record { answer = Ok (Mended n); store = t; output = [] }) (put_laid ready w counts_are put) ∙ sym (rw w.count at made)
