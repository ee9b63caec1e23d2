-- The causes before 7, tested in document 01's order: the first one decides. Definitions only.
use Rattle.std.specs.Prelude.{Bool, true, false, List, ℕ}
use Rattle.std.proofs.Math.Option.{Option, some, none}
use Rattle.store_layout.specs.Decode.{Contents}
use Rattle.call_outcomes.specs.declared.Cause.{Cause}
use Rattle.call_outcomes.specs.declared.Cause.TheVariants.{Lengths}
use Rattle.call_outcomes.specs.Kind.{Found, holds, wrong, View, empty, clear, change, ask, Kind, CallFor, StoreFor}

-- This cause where the test holds, otherwise the first of the later ones.
unfoldable pub first_of : Bool → Cause → Option Cause → Option Cause
first_of true cause later = some cause
first_of false cause later = later

-- A call is refused by the first cause, or goes on with the contents of the store.
pub data Decision : Type 0 where
  refuse : Cause → Decision
  accept : Contents → Decision

-- Cause 1, and then what is decided of a store of the right lengths.
unfoldable pub by_lengths : Bool → Decision → Decision
by_lengths true next = next
by_lengths false next = refuse Lengths

-- The causes that say that a store of the right lengths holds no sheet.
unfoldable pub by_found : Found → Decision
by_found (holds before) = accept before
by_found (wrong cause) = refuse cause

-- What the store decides, for a call that looks at its contents.
unfoldable pub store_decision : (view : View) → view.Store → Decision
store_decision view store = by_lengths (view.right_lengths store) (by_found (view.decode store))

-- Clear does not look at the contents: it starts from the empty sheet.
unfoldable pub looked_at : (kind : Kind) → CallFor kind → StoreFor kind → Decision
looked_at kind clear store = by_lengths (kind.view.right_lengths store) (accept empty)
looked_at kind (change c) store = store_decision kind.view store
looked_at kind (ask q) store = store_decision kind.view store

-- The causes of the arguments, by the list.
unfoldable pub argument_cause : (kind : Kind) → CallFor kind → List ℕ → Option Cause
argument_cause kind clear list = none
argument_cause kind (change c) list = kind.calls.change_cause c list
argument_cause kind (ask q) list = kind.calls.question_cause q list

-- What is decided by then, unless a cause of the arguments decides.
unfoldable pub by_arguments : (List ℕ → Option Cause) → Decision → Decision
by_arguments causes (refuse cause) = refuse cause
by_arguments causes (accept before) = elim (causes before.list) [ some cause ↦ refuse cause | none ↦ accept before ]

unfoldable pub decision : (kind : Kind) → CallFor kind → StoreFor kind → Decision
decision kind call store = by_arguments (argument_cause kind call) (looked_at kind call store)
