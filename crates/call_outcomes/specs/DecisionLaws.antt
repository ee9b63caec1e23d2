-- What is decided of a call, and what the call then comes to.
use Rattle.std.proofs.Math.Path.{◌≡◌, refl, sym}
use Rattle.std.specs.Prelude.{Ok, Err, Bool, ℕ, length, drop}
use Rattle.std.proofs.Math.Bool.{true, false}
use mathlib.Core.List.{List, [], ◌++◌}
use Rattle.std.proofs.Math.Option.{Option, some, none}
use Rattle.std.proofs.Common.{arith}
use Rattle.draw_shares.specs.Tape.{run_at}
use Rattle.store_layout.specs.Decode.{Contents}
use Rattle.call_outcomes.specs.declared.Cause.{Cause}
use Rattle.call_outcomes.specs.declared.Cause.TheVariants.{Lengths}
use Rattle.call_outcomes.specs.declared.Answer.TheVariants.{Cleared}
use Rattle.call_outcomes.specs.Kind.{Found, holds, wrong, View, empty, clear, ask, Kind, CallFor, StoreFor}
use Rattle.call_outcomes.specs.Causes.{first_of, Decision, refuse, accept, by_lengths, by_found, store_decision, looked_at, argument_cause, by_arguments, decision}
use Rattle.call_outcomes.specs.Outcome.{effect, answer_of, entries_of, refused, finished, outcome_by, outcome}

-- Where no cause decides, the first one does not, and none of the later ones.
pub first_none : (test : Bool) (cause : Cause) (later : Option Cause) → first_of test cause later ≡ none → (test ≡ false) × (later ≡ none)
unfolding first_of
first_none true cause later h = let z : ◌≡◌ {A = ℕ} 0 1 = cc in absurd (omega arith)
first_none false cause later h = (refl, h)

-- ---- a store that decides nothing

module _ (view : View) (store : view.Store) (before : Contents) where
  -- It has the right lengths, and holds these contents.
  pub store_accepted : store_decision view store ≡ accept before → (view.right_lengths store ≡ true) × (view.decode store ≡ holds before)
  unfolding store_decision by_lengths by_found
  store_accepted = go (view.right_lengths store) (view.decode store)
    where
      go : (right : Bool) (found : Found) → by_lengths right (by_found found) ≡ accept before → (right ≡ true) × (found ≡ holds before)
      go true (holds c) e = (refl, cc)
      go true (wrong cause) e = let z : ◌≡◌ {A = ℕ} 0 1 = cc in absurd (omega arith)
      go false found e = let z : ◌≡◌ {A = ℕ} 0 1 = cc in absurd (omega arith)

  pub store_decided : view.right_lengths store ≡ true → view.decode store ≡ holds before → store_decision view store ≡ accept before
  unfolding store_decision by_lengths by_found
  store_decided right found = rw (right, found)

-- ---- a call

-- What the causes of the arguments leave of what was decided by then.
module _ (causes : List ℕ → Option Cause) where
  pub arguments_accepted : (looked : Decision) (before : Contents) → by_arguments causes looked ≡ accept before
      → (looked ≡ accept before) × (causes before.list ≡ none)
  unfolding by_arguments
  arguments_accepted (refuse cause) before e = let z : ◌≡◌ {A = ℕ} 0 1 = cc in absurd (omega arith)
  arguments_accepted (accept c) before e = go (causes c.list) refl e
    where
      go : (o : Option Cause) → causes c.list ≡ o → elim o [ some cause ↦ refuse cause | none ↦ accept c ] ≡ accept before
          → (accept c ≡ accept before) × (causes before.list ≡ none)
      go (some cause) found e = let z : ◌≡◌ {A = ℕ} 0 1 = cc in absurd (omega arith)
      go none found e = let same : c ≡ before = cc in (e, rw same at found)

  pub arguments_none : (before : Contents) → causes before.list ≡ none → by_arguments causes (accept before) ≡ accept before
  unfolding by_arguments
  arguments_none before e = rw (e, by_arguments)

  pub arguments_some : (before : Contents) (cause : Cause) → causes before.list ≡ some cause → by_arguments causes (accept before) ≡ refuse cause
  unfolding by_arguments
  arguments_some before cause e = rw (e, by_arguments)

module _ (kind : Kind) (call : CallFor kind) (store : StoreFor kind) where
  -- A call goes on with these contents: what it looked at decides nothing, and none of its arguments does.
  pub accepted : (before : Contents) → decision kind call store ≡ accept before
      → (looked_at kind call store ≡ accept before) × (argument_cause kind call before.list ≡ none)
  unfolding decision
  accepted before e = arguments_accepted (argument_cause kind call) (looked_at kind call store) before e

  pub accepted_by : (before : Contents) → looked_at kind call store ≡ accept before → argument_cause kind call before.list ≡ none
      → decision kind call store ≡ accept before
  unfolding decision
  accepted_by before looked free = rw looked (arguments_none (argument_cause kind call) before free)

  module _ (tape output : List ℕ) where
    pub outcome_refused : (cause : Cause) → decision kind call store ≡ refuse cause → outcome kind call tape store output ≡ refused cause store output
    unfolding outcome outcome_by
    outcome_refused cause e = rw e

    pub outcome_accepted : (before : Contents) → decision kind call store ≡ accept before
        → outcome kind call tape store output
        ≡ finished kind call before.list store output (run_at (effect kind call before store) tape 0)
    unfolding outcome outcome_by
    outcome_accepted before e = rw e

-- A question that is accepted keeps the store, and is answered by the list.
pub question_outcome : (kind : Kind) (q : kind.calls.Question) (tape : List ℕ) (store : StoreFor kind) (output : List ℕ) (before : Contents)
    → decision kind (ask q) store ≡ accept before
    → outcome kind (ask q) tape store output
    ≡ record {
      answer = Ok (kind.calls.reply q before.list);
      store = store;
      output = kind.calls.written q before.list ++ drop (length (kind.calls.written q before.list)) output;
    }
unfolding effect answer_of entries_of finished run_at
question_outcome kind q tape store output before decided = outcome_accepted kind (ask q) store tape output before decided

-- A question keeps the store, whether it is accepted or refused.
pub question_keeps : (kind : Kind) (q : kind.calls.Question) (tape : List ℕ) (store : StoreFor kind) (output : List ℕ)
    → (outcome kind (ask q) tape store output).store ≡ store
unfolding outcome outcome_by refused effect finished run_at
question_keeps kind q tape store output = go (decision kind (ask q) store)
  where
    go : (d : Decision) → (outcome_by kind (ask q) tape store output d).store ≡ store
    go (refuse cause) = refl
    go (accept before) = refl

-- ---- clear

module _ (kind : Kind) (store : StoreFor kind) (tape : List ℕ) where
  -- A store of the right lengths is made the empty sheet, whatever it holds.
  pub clear_outcome : kind.view.right_lengths store ≡ true
      → record { answer = Ok Cleared; store = kind.view.lay empty.list empty.shape; output = [] } ≡ outcome kind clear tape store []
  unfolding decision looked_at by_lengths by_arguments argument_cause finished effect run_at answer_of entries_of
  clear_outcome right = sym (outcome_accepted kind clear store tape [] empty (rw right))

  -- Any other is refused by cause 1.
  pub clear_refused : kind.view.right_lengths store ≡ false
      → record { answer = Err Lengths; store = store; output = [] } ≡ outcome kind clear tape store []
  unfolding refused decision looked_at by_lengths by_arguments
  clear_refused other = sym (outcome_refused kind clear store tape [] Lengths (rw other))
