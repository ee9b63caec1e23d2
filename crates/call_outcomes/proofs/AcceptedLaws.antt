-- A call on a sheet without tallies that none of the causes before 7 refuses: what is known of its store and of its arguments.
use Rattle.std.specs.Prelude.{◌≡◌, refl, ◌≤◌, length}
use Rattle.std.proofs.Common.{sym, ◌∙◌}
use Rattle.std.proofs.Math.Option.{some, none}
use Rattle.store_layout.specs.declared.Capacity.{Capacity}
use Rattle.store_layout.specs.Layout.{Store}
use Rattle.store_layout.specs.Decode.{Contents, decode}
use Rattle.store_layout.proofs.SheetLaws.{decode_sound}
use Rattle.call_outcomes.specs.Kind.{change, ask}
use Rattle.call_outcomes.specs.Causes.{accept, store_decision, looked_at, argument_cause, decision}
use Rattle.call_outcomes.specs.DecisionLaws.{store_accepted, accepted}
use Rattle.call_outcomes.specs.PlainCalls.{PlainChange, change_cause, Question, question_cause, Call}
use Rattle.call_outcomes.specs.Untallied.{RightLengths, untallied_view, untallied}
use Rattle.call_outcomes.proofs.UntalliedLaws.{right_lengths_lem, found_decode}

module _ (cap : Capacity) (store : Store) (before : Contents) where
  looked : (call : Call) → decision (untallied cap) call store ≡ accept before → looked_at (untallied cap) call store ≡ store_decision (untallied_view cap) store
      → RightLengths cap store × (decode cap store ≡ some before)
  looked call w looks =
      let s = store_accepted (untallied_view cap) store before (sym looks ∙ (accepted (untallied cap) call store before w).0) in
      (right_lengths_lem cap store s.0, found_decode cap store before s.1)

  module _ (c : PlainChange) (w : decision (untallied cap) (change c) store ≡ accept before) where
    pub change_decoded : decode cap store ≡ some before
    unfolding looked_at
    change_decoded = (looked (change c) w refl).1

    pub change_free : change_cause cap.entries c (length before.list) ≡ none
    unfolding argument_cause
    change_free = (accepted (untallied cap) (change c) store before w).1

  module _ (q : Question) (w : decision (untallied cap) (ask q) store ≡ accept before) where
    pub question_lengths : RightLengths cap store
    unfolding looked_at
    question_lengths = (looked (ask q) w refl).0

    pub question_decoded : decode cap store ≡ some before
    unfolding looked_at
    question_decoded = (looked (ask q) w refl).1

    pub question_free : question_cause q (length before.list) ≡ none
    unfolding argument_cause
    question_free = (accepted (untallied cap) (ask q) store before w).1

    -- A sheet has no more entries than the store has room for.
    pub entries_most : length before.list ≤ cap.entries
    entries_most = (decode_sound cap store before question_decoded).0.room
