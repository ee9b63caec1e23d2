-- The ways to fill the tapes of calls that decide a course of them are as many for every course that draws among the same numbers.
use Rattle.std.proofs.Math.Path.{◌≡◌, refl, ap, ap₂}
use Rattle.std.proofs.Common.{sym, ◌∙◌, arith, take_at}
use Rattle.std.specs.Prelude.{Bool, true, false}
use Rattle.std.proofs.Math.Bool.{◌&&◌}
use mathlib.Core.List.{List, [], ◌∷◌, ◌++◌, map, flatten}
use Prim.Native.Nat.{ℕ, ◌+◌, ◌*◌, ◌^◌}
use Rattle.std.proofs.Math.ListN.{length}
use Rattle.std.proofs.Math.Seq.{drop_at}
use Rattle.base.specs.Lists.{total}
use Rattle.base.specs.BoolLaws.{and_both}
use Rattle.draw.specs.Runs.{one, runs}
use Rattle.draw.specs.RunsLaws.{runs_none, runs_times}
use Rattle.draw_shares.specs.Tape.{ran, run_at, faces_on}
use Rattle.draw_shares.proofs.TapeLaws.{run_follows}
use Rattle.draw_shares.specs.Course.{Follows}
use Rattle.draw_shares.specs.CourseRuns.{decided, deciding_runs, among_of, among_runs}
use Rattle.draw_shares.proofs.CourseRunsLaws.{course_runs_lem, course_value}
use Rattle.draw_shares.proofs.DecidedLaws.{decided_run, run_decided}
use Rattle.call_outcomes.specs.Kind.{Kind, CallFor, StoreFor}
use Rattle.call_outcomes.specs.Outcome.{outcome, call_program}
use Rattle.call_history.specs.History.{SentTo, store_after, faces_sent, calls_of}
use Rattle.call_history.specs.HistoryRuns.{tapes_of, AllRead, numbers_sent}
use Rattle.call_history.specs.HistoryRunsLaws.{call_ran}
use Rattle.call_history.specs.TapeRuns.{cut, tape_runs, on_tape, tapes_decide, CallsAmong, calls_runs, sent_with, faces_by_call, numbers_by_call}

-- a second test matters only where the first one passes
and_where : (b x y : Bool) → (b ≡ true → x ≡ y) → (b && x) ≡ (b && y)
and_where true x y h = h refl
and_where false x y h = refl

module _ (kind : Kind) where
  -- The tape of a call that has these faces leaves the store with which they end.
  store_decided : (call : CallFor kind) (store after : StoreFor kind) (fs ks tape : List ℕ) → Follows (call_program kind call store) fs after
      → decided (2 ^ 32) (call_program kind call store) fs ks tape 0 ≡ true → store_after kind (on_tape kind call tape) store ≡ after
  unfolding store_after on_tape
  store_decided call store after fs ks tape h e =
      call_ran kind call tape store [] after _ (decided_run (call_program kind call store) fs ks tape 0 after h e).runs

  -- The ways to fill the tapes that decide a course, with these numbers of words, are the product over the calls.
  pub tape_runs_lem : (calls : List (CallFor kind)) (store : StoreFor kind) (faces among numbers : List (List ℕ)) → CallsAmong kind calls store faces among
      → tape_runs (map total numbers) (tapes_decide kind calls store faces numbers) ≡ calls_runs among numbers
  unfolding tape_runs tapes_decide CallsAmong calls_runs cut total runs one deciding_runs
  tape_runs_lem [] store [] [] [] h = refl
  tape_runs_lem [] store [] [] (ks ∷ numbers) h = runs_none (2 ^ 32) (total ks + total (map total numbers))
  tape_runs_lem [] store [] (ms ∷ among) numbers h = absurd h
  tape_runs_lem [] store (fs ∷ faces) among numbers h = absurd h
  tape_runs_lem (call ∷ calls) store [] among numbers h = absurd h
  tape_runs_lem (call ∷ calls) store (fs ∷ faces) [] numbers h = absurd h
  tape_runs_lem (call ∷ calls) store (fs ∷ faces) (ms ∷ among) [] h = runs_none (2 ^ 32) 0
  tape_runs_lem (call ∷ calls) store (fs ∷ faces) (ms ∷ among) (ks ∷ numbers) h =
      runs_times (2 ^ 32) (total ks) (total (map total numbers)) _ (λ tape. decided (2 ^ 32) (call_program kind call store) fs ks tape 0)
      (λ more. tapes_decide kind calls h.0 faces numbers (cut (map total numbers) more)) parts
      ∙ ap₂ ◌*◌
      (course_runs_lem (2 ^ 32) (call_program kind call store) fs ks ∙ course_value (2 ^ 32) (call_program kind call store) fs ks h.0 h.1
      ∙ ap (λ (xs : List ℕ). among_runs (2 ^ 32) xs ks) h.2)
      (tape_runs_lem calls h.0 faces among numbers h.3)
    where
      parts : (tape more : List ℕ) → length tape ≡ total ks
          → tapes_decide kind (call ∷ calls) store (fs ∷ faces) (ks ∷ numbers) (cut (total ks ∷ map total numbers) (tape ++ more))
          ≡ (decided (2 ^ 32) (call_program kind call store) fs ks tape 0 && tapes_decide kind calls h.0 faces numbers (cut (map total numbers) more))
      parts tape more l =
          rw (take_at tape more (total ks) l, drop_at tape more (total ks) l)
          (and_where (decided (2 ^ 32) (call_program kind call store) fs ks tape 0) _ _
          (λ e. ap (λ (s : StoreFor kind). tapes_decide kind calls s faces numbers (cut (map total numbers) more))
          (store_decided call store h.0 fs ks tape h.1 e)))

  -- Tapes of these lengths that decide a course: the calls read them to their ends, and their words decide its faces with these numbers.
  pub tapes_decided : (calls : List (CallFor kind)) (store : StoreFor kind) (faces among numbers tapes : List (List ℕ))
      → CallsAmong kind calls store faces among → map length tapes ≡ map total numbers → tapes_decide kind calls store faces numbers tapes ≡ true
      → AllRead kind (sent_with kind calls tapes) store × (faces_sent kind (sent_with kind calls tapes) store ≡ flatten faces)
      × (numbers_sent kind (sent_with kind calls tapes) store ≡ flatten numbers)
  unfolding tapes_decide CallsAmong sent_with AllRead faces_sent numbers_sent flatten on_tape
  tapes_decided [] store [] [] [] tapes h l e = (tt, refl, refl)
  tapes_decided [] store [] [] (ks ∷ numbers) tapes h l e = let z : ◌≡◌ {A = ℕ} 0 1 = cc in absurd (omega arith)
  tapes_decided [] store [] (ms ∷ among) numbers tapes h l e = absurd h
  tapes_decided [] store (fs ∷ faces) among numbers tapes h l e = absurd h
  tapes_decided (call ∷ calls) store [] among numbers tapes h l e = absurd h
  tapes_decided (call ∷ calls) store (fs ∷ faces) [] numbers tapes h l e = absurd h
  tapes_decided (call ∷ calls) store (fs ∷ faces) (ms ∷ among) [] tapes h l e = let z : ◌≡◌ {A = ℕ} 0 1 = cc in absurd (omega arith)
  tapes_decided (call ∷ calls) store (fs ∷ faces) (ms ∷ among) (ks ∷ numbers) [] h l e = let z : ◌≡◌ {A = ℕ} 0 1 = cc in absurd (omega arith)
  tapes_decided (call ∷ calls) store (fs ∷ faces) (ms ∷ among) (ks ∷ numbers) (tape ∷ tapes) h l e =
      let size : length tape ≡ total ks = cc in
      let sizes : map length tapes ≡ map total numbers = cc in
      let both = and_both (decided (2 ^ 32) (call_program kind call store) fs ks tape 0) _ e in
      let d = decided_run (call_program kind call store) fs ks tape 0 h.0 h.1 both.0 in
      let after : store_after kind (on_tape kind call tape) store ≡ h.0 = store_decided call store h.0 fs ks tape h.1 both.0 in
      let others = tapes_decided calls h.0 faces among numbers tapes h.3 sizes (rw after at both.1) in (
        rw after (d.runs ∙ ap (ran h.0) (omega arith), others.0),
        rw after (ap₂ ◌++◌ d.faced others.1),
        rw after (ap₂ ◌++◌ d.numbered others.2),
      )

  -- The output that a call is lent does not change the store after it.
  store_on_tape : (s : SentTo kind) (store : StoreFor kind) (next : ℕ)
      → run_at (call_program kind s.call store) s.tape 0 ≡ ran (store_after kind s store) next
      → store_after kind (on_tape kind s.call s.tape) store ≡ store_after kind s store
  unfolding store_after on_tape
  store_on_tape s store next e = call_ran kind s.call s.tape store [] (outcome kind s.call s.tape store s.output).store next e

  -- What tapes are that the calls read to their ends: one of the ways to fill tapes of their lengths that decide a course of the calls.
  pub record Counted (sent : List (SentTo kind)) (store : StoreFor kind) : Type 0 where
    pub among : List (List ℕ)
    pub course : CallsAmong kind (calls_of sent) store (faces_by_call kind sent store) among
    pub lengths : map length (tapes_of sent) ≡ map total (numbers_by_call kind sent store)
    pub decides : tapes_decide kind (calls_of sent) store (faces_by_call kind sent store) (numbers_by_call kind sent store) (tapes_of sent) ≡ true

  pub read_counted : (sent : List (SentTo kind)) (store : StoreFor kind) → AllRead kind sent store → Counted sent store
  unfolding tapes_decide CallsAmong calls_of tapes_of AllRead faces_by_call numbers_by_call
  read_counted [] store read = record { among = []; course = tt; lengths = refl; decides = refl }
  read_counted (s ∷ rest) store read =
      let p = call_program kind s.call store in
      let after = store_after kind s store in
      let known = run_decided p s.tape 0 after (length s.tape) read.0 in
      let others = read_counted rest after read.1 in
      record {
        among = among_of p (faces_on p s.tape 0) ∷ others.among;
        course = (after, run_follows p s.tape 0 after (length s.tape) read.0, refl, others.course);
        lengths = ap₂ ◌∷◌ (omega (arith, known.1)) others.lengths;
        decides = rw (store_on_tape s store (length s.tape) read.0) (ap₂ ◌&&◌ known.0 others.decides);
      }

-- So there are equally many for every two courses of calls whose draws are among the same numbers: whatever the faces.
pub tapes_fair : (kind kind' : Kind) (calls : List (CallFor kind)) (calls' : List (CallFor kind')) (store : StoreFor kind) (store' : StoreFor kind')
    (faces faces' among numbers : List (List ℕ)) → CallsAmong kind calls store faces among → CallsAmong kind' calls' store' faces' among
    → tape_runs (map total numbers) (tapes_decide kind calls store faces numbers) ≡ tape_runs (map total numbers) (tapes_decide kind' calls' store' faces' numbers)
tapes_fair kind kind' calls calls' store store' faces faces' among numbers h h' =
    tape_runs_lem kind calls store faces among numbers h ∙ sym (tape_runs_lem kind' calls' store' faces' among numbers h')
