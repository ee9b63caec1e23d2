-- The questions about timed sheets of any capacity that are those of a plain sheet, by what their stores were found to hold.
use Rattle.std.specs.Prelude.{Result, Ok, ◌≡◌, List, [], ℕ}
use Rattle.store_layout.specs.declared.Capacity.{Capacity}
use Rattle.store_layout.specs.Room.{CapacityReady}
use Rattle.store_layout.specs.Leaf.{nonzero}
use Rattle.call_outcomes.specs.declared.Answer.{Answer}
use Rattle.call_outcomes.specs.Kind.{ask}
use Rattle.call_outcomes.specs.Outcome.{outcome}
use Rattle.call_outcomes.specs.PlainCalls.{Question, written_for}
use Rattle.call_outcomes.specs.Plain.{plain_view, plain_store_of}
use Rattle.call_outcomes.specs.declared.Cause.{Cause}
use Rattle.call_open.specs.declared.Opened.{Opened}
use Rattle.call_open.specs.Opening.{plain_numbers, Opening, OpenedStore}
use Rattle.call_open.specs.AdmittedLaws.{opened_store, plain_sheet}
use Rattle.call_questions.specs.Asked.{asked, Answers, Readable, Tallied}
use Rattle.call_questions.proofs.AskedLaws as questions
use Rattle.call_timed.specs.Timed.{timed_view, TimedStore, as_plain, timed, timed_store_of, timed_numbers, timed_outcome_of}
use Rattle.call_timed.proofs.TimedLaws.{timed_as_plain}
use Rattle.sheet_answers.specs.QuestionLaws.{numbers_tallied}
use Rattle.timed_open.specs.TimedLook.{TimedOpening}
use Rattle.timed_answers.specs.SheetLaws.{timed_list, plain_store_lem}

module _ {cap : Capacity} (ready : CapacityReady cap) {slots counts tallies balance work : List ℕ} {found : Result Opened Cause} (w : Opening (timed_view cap) timed_numbers (timed_store_of slots counts tallies balance) found work) where
  abbrev store : TimedStore
  store = timed_store_of slots counts tallies balance

  pub plainly_found : (sheet : Opened) → found ≡ Ok sheet → OpenedStore (plain_view cap) plain_numbers (plain_store_of slots counts tallies) sheet.n sheet.m work
  plainly_found sheet e = plain_store_lem ready (opened_store (timed_view cap) timed_numbers store w sheet e)

  abbrev pub readable : Readable found slots work
  readable = record { cap = cap; counts = counts; ready = ready; sheet = λ sheet e. plain_sheet (plainly_found sheet e) }

  module _ (q : Question) where
    pub asked_outcome : (tape output : List ℕ) (answer : Result Answer Cause) (output' : List ℕ)
        → record { answer = answer; output = output' } ≡ asked q found (nonzero slots) output
        → timed_outcome_of answer slots counts tallies balance output' ≡ outcome (timed cap) (ask (as_plain q)) tape store output
    asked_outcome = questions.asked_outcome (timed cap) store w.found (timed_list cap slots counts tallies balance) (timed_as_plain (timed_view cap) cap.entries q)

    pub answered_outcome : (answer : Result Answer Cause) → Answers q found answer → written_for q (nonzero slots) ≡ [] → (tape : List ℕ)
        → timed_outcome_of answer slots counts tallies balance [] ≡ outcome (timed cap) (ask (as_plain q)) tape store []
    answered_outcome answer a nothing =
        questions.answered_outcome (timed cap) store w.found (timed_list cap slots counts tallies balance) (timed_as_plain (timed_view cap) cap.entries q) nothing answer a

-- The tallies by range number, for a place.
pub tallied : {cap : Capacity} → (ready : CapacityReady cap) → {slots counts tallies balance work numbers : List ℕ} {found : Result Opened Cause}
    → TimedOpening cap (timed_store_of slots counts tallies balance) found work numbers → Tallied found slots work numbers
tallied ready w = record {
  readable = readable ready w.opening;
  tallies = λ sheet e. numbers_tallied ready (plainly_found ready w.opening sheet e) (w.tallied e);
}
