-- Histories of any kind of sheet, and their tables of shares (document 01, "Histories and shares"). Definitions only.
use Rattle.std.specs.Prelude.{Err, ◌≢◌, List, [], ◌∷◌, ◌++◌, ℕ}
use Rattle.std.proofs.Math.Option.{Option, some, none}
use Rattle.draw_shares.specs.Program.{Program, done, ◌>>=◌}
use Rattle.draw_shares.specs.Tape.{faces_on}
use Rattle.draw_shares.specs.Fraction.{◌≐◌}
use Rattle.draw_shares.specs.Course.{share}
use Rattle.call_outcomes.specs.declared.Cause.{Cause}
use Rattle.call_outcomes.specs.declared.Cause.TheVariants.{TapeEnded}
use Rattle.call_outcomes.specs.Kind.{View, clear, Kind, CallFor, StoreFor}
use Rattle.call_outcomes.specs.Causes.{argument_cause, Decision, refuse, accept}
use Rattle.call_outcomes.specs.Outcome.{list_after, outcome, call_program}

-- ---- histories

-- The calls one after the other, from a store on, as one program that draws.
unfoldable pub run_calls : (kind : Kind) → List (CallFor kind) → StoreFor kind → Program (StoreFor kind)
run_calls kind [] store = done store
run_calls kind (call ∷ calls) store = call_program kind call store >>= run_calls kind calls

-- A history: a list of calls on one store, cleared at the start, whatever it held.
unfoldable pub history : (kind : Kind) → List (CallFor kind) → StoreFor kind → Program (StoreFor kind)
history kind calls store = run_calls kind (clear ∷ calls) store

-- ---- the list of a history, from the arguments alone

-- A refused call keeps the list; an accepted one does to it what the call says.
unfoldable pub next_list : (kind : Kind) → CallFor kind → List ℕ → List ℕ
next_list kind call list = elim (argument_cause kind call list) [ some cause ↦ list | none ↦ list_after kind call list ]

unfoldable pub final_list : (kind : Kind) → List (CallFor kind) → List ℕ → List ℕ
final_list kind [] list = list
final_list kind (call ∷ calls) list = final_list kind calls (next_list kind call list)

-- The list at the end of a history: empty at first.
unfoldable pub list_at_end : (kind : Kind) → List (CallFor kind) → List ℕ
list_at_end kind calls = final_list kind calls []

-- The cause of a refusal.
abbrev pub refusal_of : Decision → Option Cause
refusal_of (refuse cause) = some cause
refusal_of (accept before) = none

-- ---- tables of shares

-- Every store has the same share in both.
unfoldable pub SameTable : (view : View) → Program view.Store → Program view.Store → Type 0
SameTable view p q = (store : view.Store) → share (view.equal store) p ≐ share (view.equal store) q

-- ---- calls with their tapes

-- A call as it is made: with its tape, and with the output that it is lent.
pub record Sent (Call : Type 0) : Type 0 where
  pub call : Call
  pub tape : List ℕ
  pub output : List ℕ

abbrev pub SentTo : Kind → Type 0
SentTo kind = Sent (CallFor kind)

-- Clearing, as the first call of a history.
unfoldable pub clearing : (kind : Kind) → SentTo kind
clearing kind = record { call = clear; tape = []; output = [] }

-- The store after a call, by the outcome of its contract; and after all of them.
unfoldable pub store_after : (kind : Kind) → SentTo kind → StoreFor kind → StoreFor kind
store_after kind sent store = (outcome kind sent.call sent.tape store sent.output).store

unfoldable pub last_store : (kind : Kind) → List (SentTo kind) → StoreFor kind → StoreFor kind
last_store kind [] store = store
last_store kind (sent ∷ rest) store = last_store kind rest (store_after kind sent store)

-- No call returns 7.
unfoldable pub NoneEnds : (kind : Kind) → List (SentTo kind) → StoreFor kind → Type 0
NoneEnds kind [] store = Unit {0}
NoneEnds kind (sent ∷ rest) store =
    ((outcome kind sent.call sent.tape store sent.output).answer ≢ Err TapeEnded) × NoneEnds kind rest (store_after kind sent store)

-- The faces that the words of the tapes decide, in order.
unfoldable pub faces_sent : (kind : Kind) → List (SentTo kind) → StoreFor kind → List ℕ
faces_sent kind [] store = []
faces_sent kind (sent ∷ rest) store =
    faces_on (call_program kind sent.call store) sent.tape 0 ++ faces_sent kind rest (store_after kind sent store)

unfoldable pub calls_of : {Call : Type 0} → List (Sent Call) → List Call
calls_of [] = []
calls_of (sent ∷ rest) = sent.call ∷ calls_of rest
