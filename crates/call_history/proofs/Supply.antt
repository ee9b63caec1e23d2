-- Coins can be supplied: for every course of a history there are tapes such that no call returns 7 and the words decide this very course.
use Rattle.std.proofs.Math.Path.{◌≡◌, refl, sym, ap, ap₂}
use Rattle.std.proofs.Common.{◌∙◌}
use Rattle.std.specs.Prelude.{Ok, Err, Bool, true, false, ◌≢◌, ℕ, ◌+◌, ◌*◌, ◌≤◌, ◌^◌, length}
use mathlib.Core.List.{List, [], ◌∷◌, ◌++◌}
use Rattle.std.proofs.Math.Option.{Option, some, none}
use native.Mathlib.Omega.{arith}
use Rattle.draw_shares.specs.Program.{◌>>=◌, Among, Draws, Ends}
use Rattle.draw_shares.specs.ProgramLaws.{draws_bind, draws_done}
use Rattle.draw_shares.specs.Tape.{ran, run_at, faces_on}
use Rattle.draw_shares.proofs.TapeLaws.{run_done}
use Rattle.draw_shares.specs.Course.{Follows}
use Rattle.draw_shares.specs.CourseLaws.{follows_apart}
use Rattle.draw_shares.specs.CourseTape.{course_tape}
use Rattle.draw_shares.proofs.CourseTapeLaws.{Reads, course_supplied}
use Rattle.tree_rules.specs.Tree.{Shape, IsShape}
use Rattle.tree_rules.specs.Rules.{update}
use Rattle.tree_rules.proofs.DrawBounds.{update_draws}
use Rattle.call_outcomes.specs.declared.Cause.{Cause}
use Rattle.call_outcomes.specs.declared.Cause.TheVariants.{TapeEnded}
use Rattle.call_outcomes.specs.declared.Answer.TheVariants.{Cleared}
use Rattle.call_outcomes.specs.Returns.{cause_number}
use Rattle.call_outcomes.specs.Kind.{SheetOf, empty, Edit, clear, change, ask, Kind, Lawful, CallFor, StoreFor}
use Rattle.call_outcomes.specs.Causes.{first_of, Decision, refuse, accept, by_lengths, looked_at, argument_cause, by_arguments, decision}
use Rattle.call_outcomes.specs.Outcome.{edited, effect, answer_of, refused, finished, outcome_by, outcome, call_program_by, call_program}
use Rattle.call_history.specs.History.{run_calls, history, next_list, refusal_of, SentTo, clearing, store_after, last_store, NoneEnds, faces_sent, calls_of}
use Rattle.call_history.specs.CallKeeps.{empty_sheets, sheets_end, program_on, sheet_program, sheet_refusal}
use Rattle.call_history.proofs.Independence.{clear_program}
use Rattle.call_history.proofs.NextSheet.{next_sheet}

-- What is asked of a kind: its lists are short enough that 32-bit words decide every draw, and 7 is no cause of the arguments.
pub record Suppliable (kind : Kind) : Type 0 where
  pub few : (list : List ℕ) → kind.view.IsList list → 2 * length list + 2 ≤ 2 ^ 32
  pub no_cause : (call : CallFor kind) (list : List ℕ) → argument_cause kind call list ≢ some TapeEnded

-- A cause other than 7 decides, or none of the later ones is 7.
pub first_other : (test : Bool) (cause : Cause) (later : Option Cause) → cause_number cause ≢ 7 → later ≢ some TapeEnded → first_of test cause later ≢ some TapeEnded
unfolding first_of
first_other true cause later other there e = let same : cause ≡ TapeEnded = cc in other (ap cause_number same)
first_other false cause later other there e = there e

pub none_ended : ◌≢◌ {A = Option Cause} none (some TapeEnded)
none_ended e = let z : ◌≡◌ {A = ℕ} 0 1 = cc in omega arith

-- Tapes for the calls, from a store on: none returns 7, their words decide these faces, and the last store is this one.
pub record Supplied (kind : Kind) (calls : List (CallFor kind)) (store : StoreFor kind) (faces : List ℕ) (v : StoreFor kind) : Type 0 where
  pub sent : List (SentTo kind)
  pub calls_are : calls_of sent ≡ calls
  pub none_ends : NoneEnds kind sent store
  pub faces_are : faces_sent kind sent store ≡ faces
  pub last_is : last_store kind sent store ≡ v

-- The same of one call.
record Decided (kind : Kind) (call : CallFor kind) (store : StoreFor kind) (tape faces : List ℕ) (v : StoreFor kind) : Type 0 where
  goes_on : (outcome kind call tape store []).answer ≢ Err TapeEnded
  faces_are : faces_on (call_program kind call store) tape 0 ≡ faces
  store_is : (outcome kind call tape store []).store ≡ v

-- A store of the right lengths is cleared, whatever it holds, and no word is read.
pub clear_leaves : (kind : Kind) (store : StoreFor kind) → kind.view.right_lengths store ≡ true
    → ((outcome kind clear [] store []).answer ≡ Ok Cleared) × ((outcome kind clear [] store []).store ≡ kind.view.lay empty.list empty.shape)
    × (faces_on (call_program kind clear store) [] 0 ≡ [])
unfolding outcome call_program decision looked_at by_lengths by_arguments argument_cause outcome_by call_program_by effect finished run_at answer_of faces_on
clear_leaves kind store right = (rw right, rw right, rw right)

module _ (kind : Kind) (lawful : Lawful kind) (can : Suppliable kind) where
  -- ---- one call

  edited_draws : (edit : Edit) (list : List ℕ) (s : Shape) → kind.view.IsList list → IsShape (length list) s
      → Draws (Among (2 ^ 32)) (update edit.change (length list) s) → Draws (Among (2 ^ 32)) (edited kind.view edit (record { list = list; shape = s }))
  unfolding edited
  edited_draws edit list s w shape d = draws_bind _ (update edit.change (length list) s) _ d (λ t. draws_done _ _)

  effect_draws : (list : List ℕ) (s : Shape) (store : StoreFor kind) → kind.view.IsList list → IsShape (length list) s → (call : CallFor kind)
      → argument_cause kind call list ≡ none → Draws (Among (2 ^ 32)) (effect kind call (record { list = list; shape = s }) store)
  unfolding effect argument_cause
  effect_draws list s store w shape clear free = draws_done _ _
  effect_draws list s store w shape (change c) free =
      edited_draws (kind.calls.edit c list) list s w shape
      (update_draws (2 ^ 32) (kind.calls.edit c list).change (length list) s (lawful.calls.reach c list w free) shape (can.few list w))
  effect_draws list s store w shape (ask q) free = draws_done _ _

  -- Every draw that a call makes on a sheet is among 1 to 2^32.
  pub program_draws : (list : List ℕ) (store : StoreFor kind) → SheetOf kind.view list store → (call : CallFor kind)
      → Draws (Among (2 ^ 32)) (call_program kind call store)
  unfolding program_on
  program_draws list store w call =
      rw (w.laid, sheet_program kind lawful list w.shape w.is_list w.is_shape call)
      (go (argument_cause kind call list) (effect_draws list w.shape _ w.is_list w.is_shape call))
    where
      go : (found : Option Cause)
          → (found ≡ none → Draws (Among (2 ^ 32)) (effect kind call (record { list = list; shape = w.shape }) (kind.view.lay list w.shape)))
          → Draws (Among (2 ^ 32)) (program_on kind list w.shape call found)
      go none h = h refl
      go (some cause) h = draws_done _ _

  -- A course of a call on a sheet is decided by its tape.
  call_supplied : (list : List ℕ) (store : StoreFor kind) → SheetOf kind.view list store → (call : CallFor kind) (faces : List ℕ) (v : StoreFor kind)
      → Follows (call_program kind call store) faces v → Decided kind call store (course_tape (call_program kind call store) faces) faces v
  unfolding outcome call_program outcome_by call_program_by refused finished
  call_supplied list store w call faces v follows =
      let r = course_supplied (call_program kind call store) faces v (program_draws list store w call) follows in
      let refusal : refusal_of (decision kind call store) ≡ argument_cause kind call list
      = rw w.laid (sheet_refusal kind lawful list w.shape w.is_list w.is_shape call) in
      let g = go (decision kind call store) refusal (course_tape (call_program kind call store) faces) r in
      record { goes_on = g.0; faces_are = g.1; store_is = g.2 }
    where
      go : (d : Decision) → refusal_of d ≡ argument_cause kind call list → (tape : List ℕ) → Reads (call_program_by kind call store d) tape 0 faces v
          → ((outcome_by kind call tape store [] d).answer ≢ Err TapeEnded) × (faces_on (call_program_by kind call store d) tape 0 ≡ faces)
          × ((outcome_by kind call tape store [] d).store ≡ v)
      go (refuse cause) e tape r = (
        λ h. can.no_cause call list (sym e ∙ ap some (let same : cause ≡ TapeEnded = cc in same)),
        r.faces_are,
        let there : ran store 0 ≡ ran v (length tape) = sym (run_done store tape 0) ∙ r.ends in
            let same : store ≡ v = cc in same,
      )
      go (accept before) e tape r = (
        λ h. let made = rw r.ends at h in let z : ◌≡◌ {A = ℕ} 0 1 = cc in omega arith,
        r.faces_are,
        rw r.ends,
      )

  -- ---- all calls

  supplied : (calls : List (CallFor kind)) (list : List ℕ) (store : StoreFor kind) → SheetOf kind.view list store → (faces : List ℕ) (v : StoreFor kind)
      → Follows (run_calls kind calls store) faces v → Supplied kind calls store faces v
  unfolding run_calls calls_of NoneEnds faces_sent last_store store_after Follows
  supplied [] list store w [] v follows = record { sent = []; calls_are = refl; none_ends = tt; faces_are = refl; last_is = follows }
  supplied [] list store w (f ∷ fs) v follows = absurd follows
  supplied (call ∷ calls) list store w faces v follows =
      let apart = follows_apart (call_program kind call store) (run_calls kind calls) faces v follows in
      let tape = course_tape (call_program kind call store) apart.first in
      let one = call_supplied list store w call apart.first apart.middle apart.follows_first in
      let sheet = next_sheet kind lawful list store w call tape [] one.goes_on in
      let more = supplied calls (next_list kind call list) (outcome kind call tape store []).store sheet apart.rest v (rw one.store_is apart.follows_rest) in
      record {
        sent = record { call = call; tape = tape; output = [] } ∷ more.sent;
        calls_are = ap (λ (cs : List (CallFor kind)). call ∷ cs) more.calls_are;
        none_ends = (one.goes_on, more.none_ends);
        faces_are = ap₂ (λ (xs ys : List ℕ). xs ++ ys) one.faces_are more.faces_are ∙ apart.joined;
        last_is = more.last_is;
      }

  -- ---- a history

  empty_sheet : SheetOf kind.view [] (kind.view.lay empty.list empty.shape)
  unfolding Ends
  empty_sheet = rw (empty_sheets kind.view) at (sheets_end kind.view [] lawful.view.no_entry)

  -- For every course of a history there are tapes such that no call returns 7 and the words decide this course.
  pub history_supplied : (calls : List (CallFor kind)) (store : StoreFor kind) → kind.view.right_lengths store ≡ true → (faces : List ℕ) (v : StoreFor kind)
      → Follows (history kind calls store) faces v
      → (sent : List (SentTo kind)) × (calls_of sent ≡ calls) × NoneEnds kind (clearing kind ∷ sent) store
      × (faces_sent kind (clearing kind ∷ sent) store ≡ faces) × (last_store kind (clearing kind ∷ sent) store ≡ v)
  unfolding history run_calls NoneEnds faces_sent last_store store_after clearing ◌>>=◌
  history_supplied calls store right faces v follows =
      let c = clear_leaves kind store right in
      let start = kind.view.lay empty.list empty.shape in
      let after : Follows (run_calls kind calls start) faces v = rw (clear_program kind lawful store right, empty_sheets kind.view) at follows in
      let s = supplied calls [] start empty_sheet faces v after in (
        s.sent,
        s.calls_are,
        ((λ h. let z : ◌≡◌ {A = ℕ} 0 1 = cc in omega arith), rw c.1 s.none_ends),
        rw (c.2, c.1) s.faces_are,
        ap (last_store kind s.sent) c.1 ∙ s.last_is,
      )
