-- What each call comes to, for all inputs: the causes first, then the rules. Definitions only.
use Rattle.std.specs.Prelude.{Result, Ok, Err, List, [], ◌++◌, ℕ, length, drop}
use Rattle.draw_shares.specs.Program.{Program, done, ◌>>=◌}
use Rattle.draw_shares.specs.Tape.{Ran, ran, ended, run_at}
use Rattle.tree_rules.specs.Compare.{count_after}
use Rattle.tree_rules.specs.Rules.{update}
use Rattle.store_layout.specs.Decode.{Contents}
use Rattle.call_outcomes.specs.declared.Cause.{Cause}
use Rattle.call_outcomes.specs.declared.Cause.TheVariants.{TapeEnded}
use Rattle.call_outcomes.specs.declared.Answer.{Answer}
use Rattle.call_outcomes.specs.declared.Answer.TheVariants.{Cleared, Changed}
use Rattle.call_outcomes.specs.Kind.{View, empty, Edit, applied, clear, change, ask, Kind, CallFor, StoreFor}
use Rattle.call_outcomes.specs.Causes.{Decision, refuse, accept, decision}

-- ---- what an accepted call does, with these contents before

-- The list after the call.
unfoldable pub list_after : (kind : Kind) → CallFor kind → List ℕ → List ℕ
list_after kind clear list = []
list_after kind (change c) list = applied (kind.calls.edit c list) list
list_after kind (ask q) list = list

-- The sheet of the edited list, with a shape drawn by the rules of insert and delete.
unfoldable pub edited : (view : View) → Edit → Contents → Program view.Store
edited view edit before =
    update edit.change (length before.list) before.shape >>= λ shape. done (view.lay (applied edit before.list) shape)

-- The store after the call, as a program that draws.
unfoldable pub effect : (kind : Kind) → CallFor kind → Contents → StoreFor kind → Program (StoreFor kind)
effect kind clear before store = done (kind.view.lay empty.list empty.shape)
effect kind (change c) before store = edited kind.view (kind.calls.edit c before.list) before
effect kind (ask q) before store = done store

-- The answer of an accepted call, by the list before and the number of words read: a change returns the new N and these.
unfoldable pub answer_of : (kind : Kind) → CallFor kind → List ℕ → ℕ → Answer
answer_of kind clear list words = Cleared
answer_of kind (change c) list words = Changed (count_after (kind.calls.edit c list).change (length list)) words
answer_of kind (ask q) list words = kind.calls.reply q list

-- The entries that the call writes to the front of its output.
unfoldable pub entries_of : (kind : Kind) → CallFor kind → List ℕ → List ℕ
entries_of kind clear list = []
entries_of kind (change c) list = []
entries_of kind (ask q) list = kind.calls.written q list

-- ---- what a call comes to

-- The answer, or the cause that refuses the call; the store after the call, and the output after it.
pub record Outcome (S : Type 0) : Type 0 where
  pub answer : Result Answer Cause
  pub store : S
  pub output : List ℕ

-- A refused call changes nothing.
unfoldable pub refused : {S : Type 0} → Cause → S → List ℕ → Outcome S
refused cause store output = record { answer = Err cause; store = store; output = output }

-- By the run on the tape: cause 7 where the tape ended, otherwise accepted.
unfoldable pub finished : (kind : Kind) → CallFor kind → List ℕ → StoreFor kind → List ℕ → Ran (StoreFor kind) → Outcome (StoreFor kind)
finished kind call list store output (ran store' words) = record {
  answer = Ok (answer_of kind call list words);
  store = store';
  output = entries_of kind call list ++ drop (length (entries_of kind call list)) output;
}
finished kind call list store output ended = refused TapeEnded store output

unfoldable pub outcome_by : (kind : Kind) → CallFor kind → List ℕ → StoreFor kind → List ℕ → Decision → Outcome (StoreFor kind)
outcome_by kind call tape store output (refuse cause) = refused cause store output
outcome_by kind call tape store output (accept before) =
    finished kind call before.list store output (run_at (effect kind call before store) tape 0)

-- The outcome of a call: refused by the first of the causes before 7, or run on the tape from its start.
unfoldable pub outcome : (kind : Kind) → CallFor kind → List ℕ → StoreFor kind → List ℕ → Outcome (StoreFor kind)
outcome kind call tape store output = outcome_by kind call tape store output (decision kind call store)

-- The store after the call, as a program that draws: a refused call draws nothing and keeps it.
unfoldable pub call_program_by : (kind : Kind) → CallFor kind → StoreFor kind → Decision → Program (StoreFor kind)
call_program_by kind call store (refuse cause) = done store
call_program_by kind call store (accept before) = effect kind call before store

unfoldable pub call_program : (kind : Kind) → CallFor kind → StoreFor kind → Program (StoreFor kind)
call_program kind call store = call_program_by kind call store (decision kind call store)
