-- What single calls do to a sheet, for any kind of sheet.
use Rattle.std.proofs.Math.Path.{◌≡◌}
use Rattle.std.specs.Prelude.{Ok, Err, refl, List, ◌++◌, ℕ, length, drop}
use Rattle.std.proofs.Math.Option.{Option, some, none}
use Rattle.std.proofs.Common.{arith}
use Rattle.store_layout.specs.Decode.{Contents}
use Rattle.call_outcomes.specs.declared.Cause.{Cause}
use Rattle.call_outcomes.specs.declared.Answer.TheVariants.{Changed}
use Rattle.call_outcomes.specs.Kind.{SheetOf, applied, change, ask, Kind, Lawful, CallFor, StoreFor}
use Rattle.call_outcomes.specs.Causes.{accept, looked_at, argument_cause, decision}
use Rattle.call_outcomes.specs.Outcome.{list_after, outcome}
use Rattle.call_outcomes.specs.DecisionLaws.{store_decided, accepted_by, question_outcome}
use Rattle.call_history.specs.History.{next_list}
use Rattle.call_history.proofs.NextSheet.{next_sheet}
use Rattle.call_history.specs.Refusals.{refused_by}

module _ (kind : Kind) (lawful : Lawful kind) (list : List ℕ) (store : StoreFor kind) (w : SheetOf kind.view list store) where
  -- A question that no cause refuses is answered by the list, and writes what the list gives to the front of its output.
  pub question_by : (q : kind.calls.Question) → kind.calls.question_cause q list ≡ none → (tape output : List ℕ)
      → outcome kind (ask q) tape store output
      ≡ record {
        answer = Ok (kind.calls.reply q list);
        store = store;
        output = kind.calls.written q list ++ drop (length (kind.calls.written q list)) output;
      }
  unfolding looked_at argument_cause
  question_by q free tape output =
      let before : Contents = record { list = list; shape = w.shape } in
      let right = lawful.view.lengths list w.shape w.is_list w.is_shape in
      let found = lawful.view.complete list w.shape w.is_list w.is_shape in
      let decided : decision kind (ask q) store ≡ accept before
      = rw w.laid (accepted_by kind (ask q) (kind.view.lay list w.shape) before (store_decided kind.view _ before right found) free) in
      question_outcome kind q tape store output before decided

  pub answered_by_lem : (q : kind.calls.Question) → kind.calls.question_cause q list ≡ none → (tape output : List ℕ)
      → (outcome kind (ask q) tape store output).answer ≡ Ok (kind.calls.reply q list)
  answered_by_lem q free tape output = rw (question_by q free tape output)

  -- A call whose answer is no refusal is refused by no cause of its arguments.
  pub not_refused : (call : CallFor kind) (tape output : List ℕ) → ((cause : Cause) → (outcome kind call tape store output).answer ≡ Err cause → ⊥)
      → argument_cause kind call list ≡ none
  not_refused call tape output answered = go (argument_cause kind call list) refl
    where
      go : (found : Option Cause) → argument_cause kind call list ≡ found → found ≡ none
      go none e = refl
      go (some cause) e = absurd (answered cause (refused_by kind lawful list store w call cause e tape output))

  -- So is a change that is made, and it leaves a sheet of the changed list.
  module _ (c : kind.calls.ChangeCall) (tape output : List ℕ) (n words : ℕ) (made : (outcome kind (change c) tape store output).answer ≡ Ok (Changed n words)) where
    pub made_free : kind.calls.change_cause c list ≡ none
    unfolding argument_cause
    made_free = not_refused (change c) tape output (λ cause refusal. let z : ◌≡◌ {A = ℕ} 0 1 = cc in omega arith)

    pub changed_by_lem : SheetOf kind.view (applied (kind.calls.edit c list) list) (outcome kind (change c) tape store output).store
    unfolding next_list list_after argument_cause
    changed_by_lem =
        rw (made_free, next_list) at (next_sheet kind lawful list store w (change c) tape output (λ e. let z : ◌≡◌ {A = ℕ} 0 1 = cc in omega arith))
