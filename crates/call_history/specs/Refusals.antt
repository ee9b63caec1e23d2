-- On a sheet of a list, which cause before 7 refuses a call follows from its arguments and the list.
use Rattle.std.specs.Prelude.{Err, ◌≡◌, refl, List, ℕ}
use Rattle.std.proofs.Common.{ap, ◌∙◌, arith}
use Rattle.std.proofs.Math.Option.{some, none}
use Rattle.store_layout.specs.Decode.{Contents}
use Rattle.call_outcomes.specs.declared.Cause.{Cause}
use Rattle.call_outcomes.specs.Kind.{SheetOf, Kind, Lawful, CallFor, StoreFor}
use Rattle.call_outcomes.specs.Causes.{Decision, refuse, accept, argument_cause, decision}
use Rattle.call_outcomes.specs.Outcome.{refused, outcome_by, outcome}
use Rattle.call_history.specs.History.{refusal_of}
use Rattle.call_history.specs.CallKeeps.{sheet_refusal}

-- A call that a cause of its arguments refuses answers with this cause, whatever the words.
pub refused_by : (kind : Kind) → Lawful kind → (list : List ℕ) (store : StoreFor kind) → SheetOf kind.view list store
    → (call : CallFor kind) (cause : Cause) → argument_cause kind call list ≡ some cause
    → (tape output : List ℕ) → (outcome kind call tape store output).answer ≡ Err cause
unfolding outcome outcome_by refused
refused_by kind lawful list store w call cause e tape output =
    go (decision kind call store) (rw w.laid (sheet_refusal kind lawful list w.shape w.is_list w.is_shape call) ∙ e)
  where
    go : (d : Decision) → refusal_of d ≡ some cause → (outcome_by kind call tape store output d).answer ≡ Err cause
    go (refuse c) h = let same : c ≡ cause = cc in ap Err same
    go (accept before) h = let z : ◌≡◌ {A = ℕ} 0 1 = cc in absurd (omega arith)

-- A call that no cause of its arguments refuses goes on with the contents of the sheet.
pub goes_on : (kind : Kind) → Lawful kind → (list : List ℕ) (store : StoreFor kind) → SheetOf kind.view list store
    → (call : CallFor kind) → argument_cause kind call list ≡ none → (before : Contents) × (decision kind call store ≡ accept before)
goes_on kind lawful list store w call e =
    go (decision kind call store) refl (rw w.laid (sheet_refusal kind lawful list w.shape w.is_list w.is_shape call) ∙ e)
  where
    go : (d : Decision) → decision kind call store ≡ d → refusal_of d ≡ none → (before : Contents) × (decision kind call store ≡ accept before)
    go (refuse c) is h = let z : ◌≡◌ {A = ℕ} 0 1 = cc in absurd (omega arith)
    go (accept before) is h = (before, is)
