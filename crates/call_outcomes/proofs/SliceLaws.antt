-- A view with a further slice is lawful where the view is; what is decided of its stores, and what a change of its sheets comes to.
use Rattle.std.proofs.Math.Path.{◌≡◌, refl, ap}
use Rattle.std.proofs.Common.{sym, ◌∙◌, ap₂, arith}
use Rattle.std.specs.Prelude.{Ok, Err, Bool, ◌≢◌, ℕ, length}
use Rattle.std.proofs.Math.Bool.{true, false}
use mathlib.Core.List.{List, []}
use borrow.Author.Tests.{eq-eqb, eqb-true, ne_eqb}
use Rattle.base.specs.BoolLaws.{and_both, and_false, and_true}
use Rattle.base.specs.ListLaws.{equal_itself, equal_sound}
use Rattle.draw_shares.specs.Apart.{EqualityTest}
use Rattle.draw_shares.specs.Tape.{Ran, ran, ended, run_at}
use Rattle.tree_rules.specs.Tree.{Shape}
use Rattle.tree_rules.specs.Rules.{update}
use Rattle.store_layout.specs.Decode.{Contents}
use Rattle.call_outcomes.specs.declared.Cause.{Cause}
use Rattle.call_outcomes.specs.declared.Cause.TheVariants.{Lengths, TapeEnded}
use Rattle.call_outcomes.specs.declared.Answer.TheVariants.{Changed}
use Rattle.call_outcomes.specs.Kind.{Found, holds, wrong, View, LawfulView, Edit, applied, Calls, change, Kind, Lawful}
use Rattle.call_outcomes.specs.Causes.{refuse, accept, by_lengths, by_found, store_decision, decision}
use Rattle.call_outcomes.specs.Outcome.{Outcome, refused, outcome}
use Rattle.call_outcomes.specs.DecisionLaws.{store_accepted, store_decided}
use Rattle.call_outcomes.specs.ChangeLaws.{outcome_drawn, outcome_ended, ChangeMade, change_made}
use Rattle.call_outcomes.specs.Slice.{Slice, Sliced, slice_test, found_if, found_with, lengths_with, equal_with, with_slice, LawfulSlice}

-- ---- what is found

-- A sheet with the slice is found where one of the view is, its list can stand on it, and the slice is that of the contents.
pub record SliceParts (further : Slice) (slice : List ℕ) (found : Found) (c : Contents) : Type 0 where
  pub sheet : found ≡ holds c
  pub listed : further.is_list c.list ≡ true
  pub laid : slice ≡ further.lay c.list c.shape

module _ (further : Slice) (slice : List ℕ) where
  by_test : (b : Bool) (c c' : Contents) → found_if further.cause b c ≡ holds c' → (b ≡ true) × (c ≡ c')
  unfolding found_if
  by_test true c c' e = (refl, cc)
  by_test false c c' e = let z : ◌≡◌ {A = ℕ} 0 1 = cc in absurd (omega arith)

  pub found_parts : (found : Found) (c : Contents) → found_with further slice found ≡ holds c → SliceParts further slice found c
  unfolding found_with slice_test
  found_parts (wrong cause) c e = let z : ◌≡◌ {A = ℕ} 0 1 = cc in absurd (omega arith)
  found_parts (holds d) c e =
      let t = by_test (slice_test further slice d) d c e in
      let both = and_both (further.is_list d.list) _ t.0 in
      rw (← t.1) record { sheet = refl; listed = both.0; laid = equal_sound slice _ both.1 }

  pub parts_found : (found : Found) (c : Contents) → SliceParts further slice found c → found_with further slice found ≡ holds c
  unfolding found_with slice_test found_if
  parts_found found c w = rw (w.sheet, w.laid, w.listed, equal_itself (further.lay c.list c.shape))

-- ---- the view

module _ {S : Type 0} (right : S → Bool) (room : ℕ) (store : Sliced S) where
  pub lengths_with_lem : right store.sheet ≡ true → length store.slice ≡ room → lengths_with right room store ≡ true
  unfolding lengths_with
  lengths_with_lem a b = rw (a, eq-eqb _ _ b)

  pub with_lengths : lengths_with right room store ≡ true → (right store.sheet ≡ true) × (length store.slice ≡ room)
  unfolding lengths_with
  with_lengths h = let both = and_both (right store.sheet) _ h in (both.0, eqb-true _ _ both.1)

  pub lengths_by_sheet : length store.slice ≡ room → lengths_with right room store ≡ right store.sheet
  unfolding lengths_with
  lengths_by_sheet b = rw (eq-eqb _ _ b) (and_true (right store.sheet))

  pub lengths_wrong : length store.slice ≢ room → lengths_with right room store ≡ false
  unfolding lengths_with
  lengths_wrong b = rw (ne_eqb _ _ b) (and_false (right store.sheet))

test_with : {S : Type 0} (equal : S → S → Bool) → EqualityTest equal → EqualityTest (equal_with equal)
unfolding equal_with
test_with {S} equal test = record {
  itself = λ a. rw (test.itself a.sheet, equal_itself a.slice);
  sound = λ a b e.
      let both = and_both (equal a.sheet b.sheet) _ e in
      ap₂ {C = Sliced S} (λ (s : S) (xs : List ℕ). record { sheet = s; slice = xs })
      (test.sound a.sheet b.sheet both.0) (equal_sound a.slice b.slice both.1);
}

module _ (view : View) (further : Slice) where
  pub slice_lawful : LawfulView view → LawfulSlice view further → LawfulView (with_slice view further)
  slice_lawful laws slice-laws = record {
    no_entry = slice-laws.no_entry;
    lengths = λ list s w shape.
        lengths_with_lem view.right_lengths further.room _ (laws.lengths list s (slice-laws.narrower list w) shape) (slice-laws.length_is list s);
    complete = λ list s w shape.
        parts_found further (further.lay list s) _ _
        record { sheet = laws.complete list s (slice-laws.narrower list w) shape; listed = slice-laws.listed list w; laid = refl };
    sound = λ store c e.
        let t = found_parts further store.slice _ c e in
        let w = laws.sound store.sheet c t.sheet in (
          slice-laws.tested c.list w.0 t.listed,
          w.1,
          ap₂ (λ (s : view.Store) (xs : List ℕ). record { sheet = s; slice = xs }) w.2 t.laid,
        );
    test = test_with view.equal laws.test;
  }

  -- ---- what is decided of a store, by what is decided of it without the slice

  module _ (store : Sliced view.Store) where
    -- A store that decides nothing.
    pub record SliceHolds (c : Contents) : Type 0 where
      pub right : view.right_lengths store.sheet ≡ true
      pub length_is : length store.slice ≡ further.room
      pub decided : store_decision view store.sheet ≡ accept c
      pub listed : further.is_list c.list ≡ true
      pub laid : store.slice ≡ further.lay c.list c.shape

    pub slice_holds : (c : Contents) → store_decision (with_slice view further) store ≡ accept c → SliceHolds c
    slice_holds c h =
        let s = store_accepted (with_slice view further) store c h in
        let w = with_lengths view.right_lengths further.room store s.0 in
        let t = found_parts further store.slice _ c s.1 in
        record {
          right = w.0;
          length_is = w.1;
          decided = store_decided view store.sheet c w.0 t.sheet;
          listed = t.listed;
          laid = t.laid;
        }

    pub slice_lengths : length store.slice ≢ further.room → store_decision (with_slice view further) store ≡ refuse Lengths
    unfolding store_decision by_lengths
    slice_lengths h = rw (lengths_wrong view.right_lengths further.room store h)

    module _ (right : length store.slice ≡ further.room) where
      pub sheet_refused : (cause : Cause) → store_decision view store.sheet ≡ refuse cause → store_decision (with_slice view further) store ≡ refuse cause
      unfolding store_decision by_lengths by_found found_with
      sheet_refused cause e =
          rw (lengths_by_sheet view.right_lengths further.room store right) (go (view.right_lengths store.sheet) (view.decode store.sheet) e)
        where
          go : (b : Bool) (f : Found) → by_lengths b (by_found f) ≡ refuse cause → by_lengths b (by_found (found_with further store.slice f)) ≡ refuse cause
          go false f h = h
          go true (wrong k) h = h
          go true (holds c) h = let z : ◌≡◌ {A = ℕ} 0 1 = cc in absurd (omega arith)

      pub sheet_accepted : (c : Contents) → store_decision view store.sheet ≡ accept c
          → store_decision (with_slice view further) store ≡ by_found (found_if further.cause (slice_test further store.slice c) c)
      unfolding store_decision by_lengths by_found found_with
      sheet_accepted c e =
          let s = store_accepted view store.sheet c e in
          rw (lengths_by_sheet view.right_lengths further.room store right, s.0, s.1)

-- ---- a change, by the same change of the sheet without the slice

module _ (kind : Kind) (further : Slice) (calls : Calls) where
  abbrev sliced : Kind
  sliced = record { view = with_slice kind.view further; calls = calls }

  module _ (c : kind.calls.ChangeCall) (c' : calls.ChangeCall) (tape : List ℕ) (store : Sliced kind.view.Store) (before : Contents)
      (decided : decision kind (change c) store.sheet ≡ accept before) (decided' : decision sliced (change c') store ≡ accept before)
      (same : kind.calls.edit c before.list ≡ calls.edit c' before.list) where
    abbrev edit : Edit
    edit = kind.calls.edit c before.list

    -- With the slice of the sheet that is left, it is the change of the sheet with the slice.
    pub record SliceChanged (n words : ℕ) (sheet : kind.view.Store) : Type 0 where
      pub made : ChangeMade kind c tape store.sheet before decided words sheet
      pub sliced_outcome : (slice : List ℕ) → slice ≡ further.lay (applied edit before.list) made.shape
          → ◌≡◌ {A = Outcome (Sliced kind.view.Store)} (record { answer = Ok (Changed n words); store = record { sheet = sheet; slice = slice }; output = [] })
          (outcome sliced (change c') tape store [])

    pub slice_changed : Lawful kind → (n words : ℕ) (sheet : kind.view.Store)
        → ◌≡◌ {A = Outcome kind.view.Store} (record { answer = Ok (Changed n words); store = sheet; output = [] }) (outcome kind (change c) tape store.sheet [])
        → SliceChanged n words sheet
    slice_changed lawful n words sheet is = with_made (change_made kind c tape store.sheet before decided lawful n words sheet is)
      where
        with_made : ChangeMade kind c tape store.sheet before decided words sheet → SliceChanged n words sheet
        with_made m =
            let o = is ∙ outcome_drawn kind c tape store.sheet before decided m.shape words m.drawn in
            let o' = outcome_drawn sliced c' tape store before decided' m.shape words (rw same at m.drawn) in
            record {
              made = m;
              sliced_outcome = λ slice h.
                  (λ i. record { answer = (o i).answer; store = record { sheet = (o i).store; slice = h i }; output = [] }) ∙ rw same (sym o');
            }

    -- A change whose tape ends keeps both.
    pub slice_ended : (sheet : kind.view.Store)
        → ◌≡◌ {A = Outcome kind.view.Store} (record { answer = Err TapeEnded; store = sheet; output = [] }) (outcome kind (change c) tape store.sheet [])
        → ◌≡◌ {A = Outcome (Sliced kind.view.Store)}
        (record { answer = Err TapeEnded; store = record { sheet = sheet; slice = store.slice }; output = [] }) (outcome sliced (change c') tape store [])
    unfolding refused
    slice_ended sheet is = by_run (run_at (update edit.change (length before.list) before.shape) tape 0) refl
      where
        by_run : (r : Ran Shape) → run_at (update edit.change (length before.list) before.shape) tape 0 ≡ r
            → ◌≡◌ {A = Outcome (Sliced kind.view.Store)}
            (record { answer = Err TapeEnded; store = record { sheet = sheet; slice = store.slice }; output = [] }) (outcome sliced (change c') tape store [])
        by_run (ran s next) e =
            let o = ap (λ (x : Outcome kind.view.Store). x.answer) (is ∙ outcome_drawn kind c tape store.sheet before decided s next e) in
            let z : ◌≡◌ {A = ℕ} 0 1 = cc in absurd (omega arith)
        by_run ended e =
            let o = is ∙ outcome_ended kind c tape store.sheet before decided e in
            rw (ap (λ (x : Outcome kind.view.Store). x.store) o) (sym (outcome_ended sliced c' tape store before decided' (rw same at e)))
