-- A call that is not refused by 7 has the same outcome on every longer tape that begins with the same words.
use Rattle.std.specs.Prelude.{Err, ◌≡◌, refl, ◌≢◌, List, ◌++◌, ℕ}
use Rattle.draw_shares.specs.Tape.{Ran, ran, ended, run_at}
use Rattle.draw_shares.proofs.LongerTapeLaws.{run_longer}
use Rattle.call_outcomes.specs.declared.Cause.TheVariants.{TapeEnded}
use Rattle.call_outcomes.specs.Kind.{Kind, CallFor, StoreFor}
use Rattle.call_outcomes.specs.Causes.{Decision, refuse, accept, decision}
use Rattle.call_outcomes.specs.Outcome.{effect, refused, finished, outcome_by, outcome}

pub more_tape : (kind : Kind) (call : CallFor kind) (tape more : List ℕ) (store : StoreFor kind) (output : List ℕ)
    → (outcome kind call tape store output).answer ≢ Err TapeEnded
    → outcome kind call (tape ++ more) store output ≡ outcome kind call tape store output
unfolding outcome outcome_by refused finished
more_tape kind call tape more store output = by_decision (decision kind call store)
  where
    by_run : (list : List ℕ) (longer shorter : Ran (StoreFor kind))
        → ((s : StoreFor kind) (next : ℕ) → shorter ≡ ran s next → longer ≡ ran s next)
        → (finished kind call list store output shorter).answer ≢ Err TapeEnded
        → finished kind call list store output longer ≡ finished kind call list store output shorter
    by_run list longer (ran s next) same go_on = rw (same s next refl)
    by_run list longer ended same go_on = absurd (go_on refl)

    by_decision : (d : Decision) → (outcome_by kind call tape store output d).answer ≢ Err TapeEnded
        → outcome_by kind call (tape ++ more) store output d ≡ outcome_by kind call tape store output d
    by_decision (refuse cause) go_on = refl
    by_decision (accept before) go_on =
        let p = effect kind call before store in
        by_run before.list (run_at p (tape ++ more) 0) (run_at p tape 0) (run_longer p tape more 0) go_on
