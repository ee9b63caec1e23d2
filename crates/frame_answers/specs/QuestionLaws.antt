-- A question about a plain sheet, asked of its slots and counts alone.
use Rattle.std.specs.Prelude.{◌≡◌}
use Rattle.store_layout.specs.Decode.{Contents}
use Rattle.call_outcomes.specs.Kind.{ask}
use Rattle.call_outcomes.specs.Causes.{accept, looked_at, argument_cause, decision}
use Rattle.call_outcomes.specs.DecisionLaws.{accepted, accepted_by}
use Rattle.call_outcomes.specs.PlainCalls.{Question}
use Rattle.call_outcomes.specs.Untallied.{untallied_view, untallied}
use Rattle.call_outcomes.proofs.SliceLaws.{slice_holds}
use Rattle.call_outcomes.specs.Plain.{tally_slice, plain, PlainStore}
use Rattle.call_outcomes.specs.Clubs.{clubs}

-- One that no cause refuses is not refused there either, and finds the same contents.
pub sheet_asked : (store : PlainStore) (before : Contents) (q : Question) → decision (plain clubs) (ask q) store ≡ accept before
    → decision (untallied clubs) (ask q) store.sheet ≡ accept before
unfolding looked_at argument_cause
sheet_asked store before q w =
    let a = accepted (plain clubs) (ask q) store before w in
    accepted_by (untallied clubs) (ask q) store.sheet before (slice_holds (untallied_view clubs) (tally_slice clubs) store before a.0).decided a.1
