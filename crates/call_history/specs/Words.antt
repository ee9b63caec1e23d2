-- Whatever words the tapes hold, if no call returns 7, the calls leave the store at the end of the course whose faces those words decide.
use Rattle.std.specs.Prelude.{Err, ◌≡◌, ◌≢◌, ◌↔◌, ℕ}
use Rattle.std.proofs.Math.Path.{refl}
use mathlib.Core.List.{List, [], ◌∷◌}
use Rattle.draw_shares.specs.Program.{Program}
use Rattle.draw_shares.specs.Tape.{Ran, ran, ended, run_at, faces_on}
use Rattle.draw_shares.proofs.TapeLaws.{run_done, run_follows}
use Rattle.draw_shares.specs.Course.{Follows}
use Rattle.draw_shares.specs.CourseLaws.{follows_bind, follows_unique}
use Rattle.call_outcomes.specs.declared.Cause.TheVariants.{TapeEnded}
use Rattle.call_outcomes.specs.Kind.{Kind, CallFor, StoreFor}
use Rattle.call_outcomes.specs.Causes.{Decision, refuse, accept, decision}
use Rattle.call_outcomes.specs.Outcome.{refused, finished, effect, outcome_by, outcome, call_program_by, call_program}
use Rattle.call_history.specs.History.{run_calls, history, SentTo, clearing, store_after, last_store, NoneEnds, faces_sent, calls_of}

module _ (kind : Kind) where
  -- One call: its program run on its tape ends with the store of its outcome, unless it returns 7.
  pub call_ends : (call : CallFor kind) (tape : List ℕ) (store : StoreFor kind) (output : List ℕ)
      → (outcome kind call tape store output).answer ≢ Err TapeEnded
      → (next : ℕ) × (run_at (call_program kind call store) tape 0 ≡ ran (outcome kind call tape store output).store next)
  unfolding outcome call_program finished refused call_program_by outcome_by
  call_ends call tape store output = go (decision kind call store)
    where
      ran_ends : (p : Program (StoreFor kind)) (list : List ℕ) (r : Ran (StoreFor kind)) → run_at p tape 0 ≡ r
          → (finished kind call list store output r).answer ≢ Err TapeEnded
          → (next : ℕ) × (run_at p tape 0 ≡ ran (finished kind call list store output r).store next)
      ran_ends p list (ran store' words) e ne = (words, e)
      ran_ends p list ended e ne = absurd (ne refl)

      go : (d : Decision) → (outcome_by kind call tape store output d).answer ≢ Err TapeEnded
          → (next : ℕ) × (run_at (call_program_by kind call store d) tape 0 ≡ ran (outcome_by kind call tape store output d).store next)
      go (refuse cause) ne = (0, run_done store tape 0)
      go (accept before) ne = ran_ends (effect kind call before store) before.list (run_at (effect kind call before store) tape 0) refl ne

  pub call_follows : (call : CallFor kind) (tape : List ℕ) (store : StoreFor kind) (output : List ℕ)
      → (outcome kind call tape store output).answer ≢ Err TapeEnded
      → Follows (call_program kind call store) (faces_on (call_program kind call store) tape 0) (outcome kind call tape store output).store
  call_follows call tape store output ne =
      let ends = call_ends call tape store output ne in
      run_follows (call_program kind call store) tape 0 (outcome kind call tape store output).store ends.0 ends.1

  -- All calls, one after the other.
  pub words_decide : (sent : List (SentTo kind)) (store : StoreFor kind) → NoneEnds kind sent store
      → Follows (run_calls kind (calls_of sent) store) (faces_sent kind sent store) (last_store kind sent store)
  unfolding run_calls calls_of faces_sent last_store NoneEnds Follows store_after
  words_decide [] store ne = refl
  words_decide (s ∷ rest) store ne =
      follows_bind (call_program kind s.call store) (run_calls kind (calls_of rest)) _ _ _ _
      (call_follows s.call s.tape store s.output ne.0)
      (words_decide rest (store_after kind s store) ne.1)

-- So for a history: its course with those faces ends with that store, and with no other.
pub words_of : (kind : Kind) (sent : List (SentTo kind)) (store : StoreFor kind) → NoneEnds kind (clearing kind ∷ sent) store → (final : StoreFor kind)
    → Follows (history kind (calls_of sent) store) (faces_sent kind (clearing kind ∷ sent) store) final
    ↔ (final ≡ last_store kind (clearing kind ∷ sent) store)
unfolding history calls_of clearing
words_of kind sent store none final =
    let course = words_decide kind (clearing kind ∷ sent) store none in
    (λ other. follows_unique _ _ final _ other course, λ e. rw e course)
