-- A question asked by what its store was found to hold comes to its outcome, for any kind of sheet.
use Rattle.std.proofs.Math.Path.{◌≡◌, refl, sym, ap}
use Rattle.std.proofs.Common.{◌∙◌, ap₂, arith}
use mathlib.Core.List.{List, []}
use Rattle.std.specs.Prelude.{Result, Ok, Err, ℕ}
use Rattle.std.proofs.Math.ListN.{length}
use Rattle.store_layout.specs.Decode.{Contents}
use Rattle.call_outcomes.specs.declared.Answer.{Answer}
use Rattle.call_outcomes.specs.Kind.{ask, Kind, StoreFor}
use Rattle.call_outcomes.specs.Causes.{Decision, refuse, accept, store_decision, looked_at, decision}
use Rattle.call_outcomes.specs.Outcome.{Outcome, outcome}
use Rattle.call_outcomes.specs.DecisionLaws.{accepted, question_outcome}
use Rattle.call_outcomes.specs.PlainCalls.{Question, question_cause, written_for, AsPlain}
use Rattle.call_outcomes.specs.declared.Cause.{Cause}
use Rattle.call_open.specs.declared.Opened.{Opened}
use Rattle.call_open.specs.Opening.{opened_as, admitted}
use Rattle.call_open.specs.AdmittedLaws.{question_opened, call_admitted, call_refused}
use Rattle.call_questions.specs.Asked.{Reply, asked_by, asked, HasNumber, Answers}

module _ (kind : Kind) (store : StoreFor kind) {found : Result Opened Cause} (is : found ≡ opened_as (store_decision kind.view store)) {list : List ℕ}
    (lists : (c : Contents) → store_decision kind.view store ≡ accept c → c.list ≡ list) where
  -- What is found of a sheet is the number of its entries.
  number_found : HasNumber found list
  unfolding opened_as
  number_found sheet e = go (store_decision kind.view store) refl (sym is ∙ e)
    where
      go : (d : Decision) → store_decision kind.view store ≡ d → opened_as d ≡ Ok sheet → length list ≡ sheet.n
      go (refuse cause) looked h = let z : ◌≡◌ {A = ℕ} 0 1 = cc in absurd (omega arith)
      go (accept c) looked h = let same : length c.list ≡ sheet.n = cc in ap length (sym (lists c looked)) ∙ same

  module _ {q : kind.calls.Question} {p : Question} (same : AsPlain kind q p) where
    decided : admitted (question_cause p) found ≡ opened_as (decision kind (ask q) store)
    decided = question_opened kind store is (question_cause p) q same.causes refl

    module _ (tape output : List ℕ) where
      -- The call leaves the store, with this reply.
      abbrev leaves : Reply → Outcome (StoreFor kind)
      leaves r = record { answer = r.answer; store = store; output = r.output }

      by_found : (o : Result Opened Cause) → admitted (question_cause p) found ≡ o → leaves (asked_by p list output o) ≡ outcome kind (ask q) tape store output
      unfolding asked_by looked_at
      by_found (Err cause) e = call_refused kind (ask q) store decided tape output e
      by_found (Ok sheet) e =
          let w = call_admitted kind (ask q) store decided e in
          let of-list = lists w.contents (accepted kind (ask q) store w.contents w.decided).0 in
          sym (question_outcome kind q tape store output w.contents w.decided ∙ rw (of-list, same.reply list, same.written list))

      -- The reply is that of the outcome.
      pub asked_outcome : (answer : Result Answer Cause) (output' : List ℕ) → record { answer = answer; output = output' } ≡ asked p found list output
          → record { answer = answer; store = store; output = output' } ≡ outcome kind (ask q) tape store output
      unfolding asked
      asked_outcome answer output' e = ap leaves e ∙ by_found (admitted (question_cause p) found) refl

    -- So is an answer that goes by the number of entries alone, where nothing is written.
    module _ (nothing : written_for p list ≡ []) where
      no_output : (o : Result Opened Cause) → [] ≡ (asked_by p list [] o).output
      unfolding asked_by
      no_output (Err cause) = refl
      no_output (Ok sheet) = rw nothing

      pub answered_outcome : (answer : Result Answer Cause) → Answers p found answer → (tape : List ℕ)
          → record { answer = answer; store = store; output = [] } ≡ outcome kind (ask q) tape store []
      unfolding Answers asked
      answered_outcome answer w tape =
          asked_outcome tape [] answer []
          (ap₂ (λ (a : Result Answer Cause) (xs : List ℕ). record { answer = a; output = xs }) (w list number_found) (no_output (admitted (question_cause p) found)))
