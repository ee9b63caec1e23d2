-- There is at most one sheet with given slots and size parameter, and mending finds it.
use Rattle.std.proofs.Math.Path.{◌≡◌, refl, ap}
use Rattle.std.proofs.Common.{sym, ◌∙◌, eq-eqb, eqb-true}
use Rattle.std.specs.Prelude.{Ok, Err, Bool, ◌↔◌, ℕ, length, replicate}
use Rattle.std.proofs.Math.Bool.{true, false}
use mathlib.Core.List.{List, [], ◌∷◌}
use native.Mathlib.Omega.{arith}
use Rattle.base.specs.Lists.{equal_lists}
use Rattle.base.specs.BoolLaws.{and_both, not_true_false}
use Rattle.base.specs.ListLaws.{equal_itself, equal_sound}
use Rattle.tree_rules.specs.Tree.{Shape, IsShape}
use Rattle.store_layout.specs.declared.Capacity.{Capacity}
use Rattle.store_layout.specs.Layout.{Store, lay_out}
use Rattle.store_layout.specs.Sheet.{IsContents}
use Rattle.store_layout.specs.Decode.{Contents}
use Rattle.store_layout.specs.Room.{Roomy}
use Rattle.store_layout.specs.EmptyLaws.{empty_shape_lem, one_empty, empty_slots}
use Rattle.store_layout.proofs.SheetLaws.{size_lay_out}
use Rattle.store_sums.proofs.TreeInLaws.{contents_laid}
use Rattle.call_outcomes.specs.declared.Cause.TheVariants.{Lengths, NotMendable}
use Rattle.call_outcomes.specs.declared.Answer.TheVariants.{Mended}
use Rattle.call_outcomes.specs.Kind.{Found, holds, wrong, View, LawfulView, empty, SheetOf}
use Rattle.call_outcomes.specs.Outcome.{refused}
use Rattle.call_mend.specs.Mending.{size_of, SameKept, same_kept, HasStore, is_held, mended_by, Mendable, contents_of, restored, is_restored, mended}

-- ---- the test of what is kept

pub kept_true : (a b : Store) → SameKept a b → same_kept a b ≡ true
unfolding same_kept
kept_true a b same = rw (same.slots, same.size, equal_itself b.slots) (eq-eqb (size_of b) (size_of b) refl)

pub true_kept : (a b : Store) → same_kept a b ≡ true → SameKept a b
unfolding same_kept
true_kept a b h =
    let both = and_both (equal_lists a.slots b.slots) _ h in
    record { slots = equal_sound a.slots b.slots both.0; size = eqb-true (size_of a) (size_of b) both.1 }

-- ---- at most one sheet

module _ {cap : Capacity} (roomy : Roomy cap) (view : View) (has : HasStore cap view) where
  module _ (store : view.Store) (m : Mendable view has store) where
    is_contents : IsContents cap m.list m.shape
    is_contents = let plain = has.narrower m.list m.is_list in record { room = plain.room; entries = plain.entries; shape = m.is_shape }

    -- Slots and size parameter give the contents of the sheet that has them.
    contents_are : contents_of view has store ≡ record { list = m.list; shape = m.shape }
    unfolding lay_out
    contents_are =
        let laid = has.laid m.list m.shape in
        let size = size_lay_out cap m.list m.shape is_contents roomy in
        rw (← m.same.slots, ← m.same.size, laid, size) (contents_laid cap m.list m.shape is_contents)

    restored_is : restored view has store ≡ view.lay m.list m.shape
    unfolding restored
    restored_is = ap (λ (c : Contents). view.lay c.list c.shape) contents_are

  -- There is at most one sheet with these slots and this size parameter.
  pub at_most_one : (store : view.Store) (v w : Mendable view has store) → view.lay v.list v.shape ≡ view.lay w.list w.shape
  at_most_one store v w = sym (restored_is store v) ∙ restored_is store w

  -- ---- and mending finds it

  module _ (lawful : LawfulView view) (store : view.Store) where
    found_mendable : Mendable view has store → is_restored view has store ≡ true
    unfolding is_restored is_held
    found_mendable m =
        rw (restored_is store m, lawful.complete m.list m.shape m.is_list m.is_shape) (kept_true _ _ m.same)

    mendable_found : is_restored view has store ≡ true → Mendable view has store
    unfolding is_restored is_held
    mendable_found h =
        let both = and_both (is_held (view.decode (restored view has store))) _ h in
        go (view.decode (restored view has store)) refl both.0 (true_kept _ _ both.1)
      where
        go : (found : Found) → view.decode (restored view has store) ≡ found → is_held found ≡ true
            → SameKept (has.within (restored view has store)) (has.within store) → Mendable view has store
        go (holds c) is held same =
            let sheet = lawful.sound (restored view has store) c is in
            record { list = c.list; shape = c.shape; is_list = sheet.0; is_shape = sheet.1; same = rw sheet.2 at same }
        go (wrong cause) is held same = let z : ◌≡◌ {A = ℕ} 0 1 = cc in absurd (omega arith)

    -- Cause 1 where the lengths are wrong, and nothing changes.
    pub mended_lengths : view.right_lengths store ≡ false → mended view has store ≡ refused Lengths store []
    unfolding mended mended_by
    mended_lengths lengths_wrong = rw lengths_wrong

    module _ (right : view.right_lengths store ≡ true) where
      -- The sheet is put in, and the number of its entries returned.
      pub mended_made : (m : Mendable view has store)
          → mended view has store ≡ record { answer = Ok (Mended (length m.list)); store = view.lay m.list m.shape; output = [] }
      unfolding mended mended_by
      mended_made m = rw (right, found_mendable m, restored_is store m, contents_are store m)

      -- Where there is none, cause 18, and nothing changes.
      pub mended_none : (Mendable view has store → ⊥) → mended view has store ≡ refused NotMendable store []
      unfolding mended mended_by
      mended_none none = rw (right, not_true_false (is_restored view has store) (λ found. none (mendable_found found)))

      -- So cause 18 exactly when there is none.
      pub mended_refused : ((mended view has store).answer ≡ Err NotMendable) ↔ (Mendable view has store → ⊥)
      unfolding refused
      mended_refused = (λ refusal m. let made = mended_made m in let z : ◌≡◌ {A = ℕ} 0 1 = cc in omega arith, λ none. rw (mended_none none))

    -- What mending leaves is a sheet of as many entries as it returned.
    pub mended_sheet : (n : ℕ) → (mended view has store).answer ≡ Ok (Mended n)
        → (list : List ℕ) × SheetOf view list (mended view has store).store × (length list ≡ n)
    unfolding mended mended_by refused
    mended_sheet n made = by_lengths (view.right_lengths store) refl
      where
        by_found : (b : Bool) → is_restored view has store ≡ b → view.right_lengths store ≡ true
            → (list : List ℕ) × SheetOf view list (mended view has store).store × (length list ≡ n)
        by_found true found right =
            let m = mendable_found found in
            let is = mended_made right m in
            (m.list, rw is record { shape = m.shape; is_list = m.is_list; is_shape = m.is_shape; laid = refl }, cc)
        by_found false found right =
            let no : (mended view has store).answer ≡ Err NotMendable = rw (right, found) in
            let z : ◌≡◌ {A = ℕ} 0 1 = cc in absurd (omega arith)

        by_lengths : (b : Bool) → view.right_lengths store ≡ b → (list : List ℕ) × SheetOf view list (mended view has store).store × (length list ≡ n)
        by_lengths true right = by_found (is_restored view has store) refl right
        by_lengths false wrong-lengths =
            let no : (mended view has store).answer ≡ Err Lengths = rw wrong-lengths in
            let z : ◌≡◌ {A = ℕ} 0 1 = cc in absurd (omega arith)

    -- A store of the size parameter 0 is mendable exactly when every slot is 0.
    pub mendable_zero : size_of (has.within store) ≡ 0 → Mendable view has store ↔ ((has.within store).slots ≡ replicate cap.slots 0)
    mendable_zero zero-size = (only_zeros, of_zeros)
      where
        no_entries : (list : List ℕ) (s : Shape) → IsShape (length list) s → s.size ≡ 0 → (lay_out cap list s).slots ≡ replicate cap.slots 0
        no_entries [] s is size = rw (one_empty s is) (empty_slots cap)
        no_entries (x ∷ list) s is size = absurd (omega (arith, is.allowed.least))

        only_zeros : Mendable view has store → (has.within store).slots ≡ replicate cap.slots 0
        only_zeros m =
            let laid = has.laid m.list m.shape in
            let size = size_lay_out cap m.list m.shape (is_contents store m) roomy in
            let kept : size_of (lay_out cap m.list m.shape) ≡ 0 = rw laid at m.same.size ∙ zero-size in
            sym (rw laid at m.same.slots) ∙ no_entries m.list m.shape m.is_shape (sym size ∙ kept)

        of_zeros : (has.within store).slots ≡ replicate cap.slots 0 → Mendable view has store
        of_zeros zeros = let plain = has.narrower [] lawful.no_entry in record {
          list = [];
          shape = empty.shape;
          is_list = lawful.no_entry;
          is_shape = empty_shape_lem;
          same = rw (has.laid [] empty.shape) record {
            slots = empty_slots cap ∙ sym zeros;
            size = size_lay_out cap [] empty.shape record { room = plain.room; entries = plain.entries; shape = empty_shape_lem } roomy ∙ sym zero-size;
          };
        }

    -- A sheet comes through unaltered.
    pub sheet_unaltered : (list : List ℕ) → SheetOf view list store → mended view has store ≡ record { answer = Ok (Mended (length list)); store = store; output = [] }
    sheet_unaltered list w =
        let right : view.right_lengths store ≡ true = rw w.laid (lawful.lengths list w.shape w.is_list w.is_shape) in
        let m : Mendable view has store = record {
          list = list;
          shape = w.shape;
          is_list = w.is_list;
          is_shape = w.is_shape;
          same = rw (← w.laid) record { slots = refl; size = refl };
        } in
        mended_made right m ∙ rw (← w.laid)
