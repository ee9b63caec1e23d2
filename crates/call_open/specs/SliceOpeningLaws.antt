-- A store with a further slice looked at: the slice is tested where the store without it is a sheet.
use Rattle.std.specs.Prelude.{Result, Ok, Err, ◌≡◌, Bool, ◌≢◌, List, ℕ, length}
use Rattle.std.proofs.Math.Path.{refl, ap}
use Rattle.std.proofs.Common.{sym, ◌∙◌, arith}
use Rattle.std.proofs.Math.Bool.{true, false}
use Rattle.call_outcomes.specs.declared.Cause.{Cause}
use Rattle.call_outcomes.specs.declared.Cause.TheVariants.{Lengths}
use Rattle.call_outcomes.specs.Kind.{View}
use Rattle.call_outcomes.specs.Causes.{Decision, refuse, accept, by_found, store_decision}
use Rattle.call_outcomes.specs.Slice.{Slice, Sliced, slice_test, found_if, with_slice}
use Rattle.call_outcomes.proofs.SliceLaws.{slice_lengths, sheet_refused, sheet_accepted}
use Rattle.call_open.specs.declared.Opened.{Opened}
use Rattle.call_open.specs.Opening.{opened_as, Opening, OpenedStore}

not_sheet : {cause : Cause} {sheet : Opened} → ◌≡◌ {A = Result Opened Cause} (Err cause) (Ok sheet) → ⊥
not_sheet e = let z : ◌≡◌ {A = ℕ} 0 1 = cc in omega arith

module _ (view : View) (further : Slice) (numbers : view.Store → List ℕ) (store : Sliced view.Store) (work : List ℕ) where
  -- What the look at the store with the slice comes to.
  abbrev Looks : Result Opened Cause → Type 0
  Looks answer = Opening (with_slice view further) (λ (s : Sliced view.Store). numbers s.sheet) store answer work

  -- A cause that decides.
  refused_look : (cause : Cause) → store_decision (with_slice view further) store ≡ refuse cause → Looks (Err cause)
  unfolding opened_as
  refused_look cause e = record { found = rw e; copied = λ h. absurd (not_sheet h) }

  pub look_lengths : length store.slice ≢ further.room → Looks (Err Lengths)
  look_lengths h = refused_look Lengths (slice_lengths view further store h)

  module _ (right : length store.slice ≡ further.room) where
    -- The store without the slice is no sheet.
    pub look_refused : {found : Result Opened Cause} → Opening view numbers store.sheet found work → {cause : Cause} → found ≡ Err cause
        → Looks (Err cause)
    unfolding opened_as
    look_refused w {cause} e = go (store_decision view store.sheet) refl (sym w.found ∙ e)
      where
        go : (d : Decision) → store_decision view store.sheet ≡ d → opened_as d ≡ Err cause → Looks (Err cause)
        go (refuse k) looked h =
            let same : k ≡ cause = cc in refused_look cause (sheet_refused view further store right cause (looked ∙ ap refuse same))
        go (accept c) looked h = absurd (not_sheet (sym h))

    -- It is one, and the test of the slice decides.
    module _ {sheet : Opened} (o : OpenedStore view numbers store.sheet sheet.n sheet.m work) where
      tested : (b : Bool) → slice_test further store.slice o.contents ≡ b
          → store_decision (with_slice view further) store ≡ by_found (found_if further.cause b o.contents)
      tested b t = sheet_accepted view further store right o.contents o.decided ∙ ap (λ (x : Bool). by_found (found_if further.cause x o.contents)) t

      pub look_not : slice_test further store.slice o.contents ≡ false → Looks (Err further.cause)
      unfolding by_found found_if
      look_not t = refused_look further.cause (tested false t)

      pub look_sheet : slice_test further store.slice o.contents ≡ true → Looks (Ok sheet)
      unfolding by_found found_if opened_as
      look_sheet t = record { found = rw (tested true t, o.count, o.size); copied = λ h. o.copied }
