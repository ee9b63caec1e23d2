-- Plain sheets are a kind of sheet, for every capacity with room enough.
use Rattle.std.proofs.Math.Path.{◌≡◌}
use Rattle.std.specs.Prelude.{refl, Bool, ℕ}
use Rattle.std.proofs.Math.Bool.{true, false}
use Rattle.std.proofs.Math.Option.{Option, some, none}
use Rattle.std.proofs.Common.{arith}
use Rattle.store_layout.specs.declared.Capacity.{Capacity}
use Rattle.store_layout.specs.Decode.{Contents, decode}
use Rattle.store_layout.specs.Room.{Roomy}
use Rattle.store_tallies.specs.LayLaws.{length_lay_tallies}
use Rattle.call_outcomes.specs.declared.Cause.{Cause}
use Rattle.call_outcomes.specs.declared.Cause.TheVariants.{NotASheet}
use Rattle.call_outcomes.specs.Kind.{wrong, Lawful}
use Rattle.call_outcomes.specs.Untallied.{right_lengths, found_by, untallied_view}
use Rattle.call_outcomes.proofs.UntalliedLaws.{lengths_right, right_lengths_lem, untallied_view_lem, plain_calls_lem}
use Rattle.call_outcomes.specs.Slice.{slice_test, found_if, found_with, LawfulSlice}
use Rattle.call_outcomes.proofs.SliceLaws.{lengths_with_lem, with_lengths, slice_lawful}
use Rattle.call_outcomes.specs.Plain.{tally_slice, plain_view, plain, PlainStore, PlainLengths}

-- ---- the store

module _ (cap : Capacity) (store : PlainStore) where
  pub plain_right : PlainLengths cap store → (plain_view cap).right_lengths store ≡ true
  plain_right w = lengths_with_lem (right_lengths cap) cap.counts store (lengths_right cap store.sheet w.sheet) w.tallies

  pub right_plain : (plain_view cap).right_lengths store ≡ true → PlainLengths cap store
  right_plain h =
      let both = with_lengths (right_lengths cap) cap.counts store h in
      record { sheet = right_lengths_lem cap store.sheet both.0; tallies = both.1 }

  -- A store of the right lengths that is no sheet has cause 2, whether its slots, its counts or its tallies are wrong.
  pub no_sheet : {cause : Cause} → (plain_view cap).decode store ≡ wrong cause → cause ≡ NotASheet
  unfolding found_by found_with found_if
  no_sheet {cause} e = by_sheet (decode cap store.sheet) e
    where
      by_tallies : (b : Bool) (c : Contents) → found_if NotASheet b c ≡ wrong cause → cause ≡ NotASheet
      by_tallies true c h = let z : ◌≡◌ {A = ℕ} 0 1 = cc in absurd (omega arith)
      by_tallies false c h = cc

      by_sheet : (o : Option Contents) → found_with (tally_slice cap) store.slice (found_by o) ≡ wrong cause → cause ≡ NotASheet
      by_sheet none h = cc
      by_sheet (some c) h = by_tallies (slice_test (tally_slice cap) store.slice c) c h

-- ---- the kind

module _ (cap : Capacity) (roomy : Roomy cap) where
  tallies_lawful : LawfulSlice (untallied_view cap) (tally_slice cap)
  tallies_lawful = record {
    no_entry = (untallied_view_lem cap roomy).no_entry;
    narrower = λ list w. w;
    listed = λ list w. refl;
    tested = λ list w t. w;
    length_is = length_lay_tallies cap.counts;
  }

  pub plain_lawful : Lawful (plain cap)
  plain_lawful = record {
    view = slice_lawful (untallied_view cap) (tally_slice cap) (untallied_view_lem cap roomy) tallies_lawful;
    calls = plain_calls_lem cap;
  }
