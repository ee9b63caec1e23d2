-- What an answer tells of a call: one that returns 0 met none of the causes, and a change reads no more words than the tape has.
use Rattle.std.specs.Prelude.{Result, Ok, Err, ◌≡◌, refl, List, ℕ, ◌≤◌, ◌<◌, ◌^◌, length}
use Rattle.std.proofs.Common.{arith}
use Rattle.draw_shares.specs.Tape.{Ran, ran, ended, run_at}
use Rattle.draw_shares.proofs.TapeLaws.{run_within}
use Rattle.store_layout.specs.Decode.{Contents}
use Rattle.call_outcomes.specs.declared.Cause.{Cause}
use Rattle.call_outcomes.specs.declared.Cause.TheVariants as cause
use Rattle.call_outcomes.specs.declared.Answer.{Answer}
use Rattle.call_outcomes.specs.declared.Answer.TheVariants as answer
use Rattle.call_outcomes.specs.Returns.{cause_number, returned}
use Rattle.call_outcomes.specs.Kind.{change, Kind, CallFor, StoreFor}
use Rattle.call_outcomes.specs.Causes.{Decision, refuse, accept, decision}
use Rattle.call_outcomes.specs.Outcome.{effect, answer_of, refused, finished, outcome_by, outcome}

-- The number of a cause is not 0, and fits a byte.
pub cause_bounds : (c : Cause) → (0 < cause_number c) × (cause_number c < 2 ^ 8)
cause_bounds cause.Lengths = (omega arith, omega arith)
cause_bounds cause.NotMendable = (omega arith, omega arith)
cause_bounds cause.NotASheet = (omega arith, omega arith)
cause_bounds cause.NotTimed = (omega arith, omega arith)
cause_bounds cause.BoardRanks = (omega arith, omega arith)
cause_bounds cause.EntryZero = (omega arith, omega arith)
cause_bounds cause.EntryPresent = (omega arith, omega arith)
cause_bounds cause.Rank = (omega arith, omega arith)
cause_bounds cause.Full = (omega arith, omega arith)
cause_bounds cause.OutputShort = (omega arith, omega arith)
cause_bounds cause.TapeEnded = (omega arith, omega arith)
cause_bounds cause.NoFrame = (omega arith, omega arith)
cause_bounds cause.TapeFull = (omega arith, omega arith)

-- What is returned has 0 for its number, or a cause's.
pub number_fits : (a : Result Answer Cause) → (returned a).number < 2 ^ 8
number_fits (Ok answer.Cleared) = omega arith
number_fits (Ok (answer.Changed n words)) = omega arith
number_fits (Ok (answer.Entries count)) = omega arith
number_fits (Ok (answer.Placed place sum boats)) = omega arith
number_fits (Ok (answer.Checked n)) = omega arith
number_fits (Ok (answer.Present rank)) = omega arith
number_fits (Ok (answer.Absent rank)) = omega arith
number_fits (Ok (answer.Converted m)) = omega arith
number_fits (Ok (answer.Mended n)) = omega arith
number_fits (Err c) = (cause_bounds c).1

-- A call that returns 0 was accepted.
pub number_accepted : (kind : Kind) (call : CallFor kind) (tape : List ℕ) (store : StoreFor kind) (output : List ℕ)
    → (returned (outcome kind call tape store output).answer).number ≡ 0 → (before : Contents) × (decision kind call store ≡ accept before)
unfolding outcome outcome_by refused
number_accepted kind call tape store output = go (decision kind call store)
  where
    go : (d : Decision) → (returned (outcome_by kind call tape store output d).answer).number ≡ 0 → (before : Contents) × (d ≡ accept before)
    go (refuse c) zero_is = absurd (omega (arith, zero_is, (cause_bounds c).0))
    go (accept before) zero_is = (before, refl)

-- The second value of a change is the number of words read.
pub words_within : (kind : Kind) (c : kind.calls.ChangeCall) (tape : List ℕ) (store : StoreFor kind) (output : List ℕ)
    → (returned (outcome kind (change c) tape store output).answer).second ≤ length tape
unfolding outcome outcome_by refused finished answer_of
words_within kind c tape store output = by_decision (decision kind (change c) store)
  where
    by_run : (list : List ℕ) (r : Ran (StoreFor kind)) → ((s : StoreFor kind) (next : ℕ) → r ≡ ran s next → next ≤ length tape)
        → (returned (finished kind (change c) list store output r).answer).second ≤ length tape
    by_run list (ran s words) within = within s words refl
    by_run list ended within = omega arith

    by_decision : (d : Decision) → (returned (outcome_by kind (change c) tape store output d).answer).second ≤ length tape
    by_decision (refuse cause) = omega arith
    by_decision (accept before) =
        by_run before.list (run_at (effect kind (change c) before store) tape 0)
        (λ s next e. run_within (effect kind (change c) before store) tape 0 (omega arith) s next e)
