-- Of a history, the tapes whose calls read them to their ends are the runs of words that decide its courses; and there are equally many of
-- them for every course of draws among the same numbers.
use Rattle.std.proofs.Math.Path.{◌≡◌, refl, ap, ap₂, sym}
use Rattle.std.proofs.Common.{◌∙◌, zero-add, length-append, take-append-drop}
use Rattle.std.proofs.Math.Bool.{true}
use mathlib.Core.List.{List, [], ◌∷◌, ◌++◌}
use Prim.Native.Nat.{ℕ, ◌+◌, ◌≤◌, ◌^◌}
use native.Mathlib.Omega.{arith}
use Rattle.std.proofs.Math.ListN.{length, length-drop}
use Rattle.std.specs.Prelude.{take, drop}
use Rattle.std.proofs.Math.Seq.{length-take-le}
use Rattle.base.specs.Lists.{total}
use Rattle.base.specs.ListLaws.{total_append}
use Rattle.draw_shares.specs.Program.{done}
use Rattle.draw_shares.specs.Tape.{ran, run_at, faces_on}
use Rattle.draw_shares.proofs.TapeLaws.{run_follows, run_within}
use Rattle.draw_shares.proofs.LongerTapeLaws.{tape_unique}
use Rattle.draw_shares.specs.Course.{Follows}
use Rattle.draw_shares.specs.CourseLaws.{follows_bind}
use Rattle.draw_shares.specs.CourseRuns.{decided, deciding_runs, among_of, numbers_on}
use Rattle.draw_shares.proofs.CourseRunsLaws.{decided_front, decided_back, course_fair}
use Rattle.draw_shares.proofs.DecidedLaws.{Decides, decided_run, run_decided, run_read}
use Rattle.draw_shares.proofs.BindRunsLaws.{decided_bind, Parts, decided_apart}
use Rattle.call_outcomes.specs.Kind.{Kind, CallFor, StoreFor}
use Rattle.call_outcomes.specs.Causes.{Decision, refuse, accept, decision}
use Rattle.call_outcomes.specs.Outcome.{refused, finished, outcome_by, outcome, call_program_by, call_program}
use Rattle.call_history.specs.History.{run_calls, history, SentTo, store_after, last_store, NoneEnds, faces_sent, calls_of}
use Rattle.call_history.specs.Words.{call_ends}
use Rattle.call_history.specs.HistoryRuns.{tapes_of, words_of, AllRead, numbers_sent, words_read}

module _ (kind : Kind) where
  -- A call whose program ends on its tape leaves the store that it ends with.
  pub call_ran : (call : CallFor kind) (tape : List ℕ) (store : StoreFor kind) (output : List ℕ) (after : StoreFor kind) (next : ℕ)
      → run_at (call_program kind call store) tape 0 ≡ ran after next → (outcome kind call tape store output).store ≡ after
  unfolding outcome outcome_by call_program call_program_by finished refused run_at
  call_ran call tape store output after next = go (decision kind call store)
    where
      go : (d : Decision) → run_at (call_program_by kind call store d) tape 0 ≡ ran after next → (outcome_by kind call tape store output d).store ≡ after
      go (refuse cause) e = cc
      go (accept before) e = rw e

  -- Tapes that the calls read to their ends: the faces that they decide are a course of the calls.
  pub sent_follows : (sent : List (SentTo kind)) (store : StoreFor kind) → AllRead kind sent store
      → Follows (run_calls kind (calls_of sent) store) (faces_sent kind sent store) (last_store kind sent store)
  unfolding run_calls calls_of faces_sent last_store AllRead Follows
  sent_follows [] store read = refl
  sent_follows (s ∷ rest) store read =
      follows_bind (call_program kind s.call store) (run_calls kind (calls_of rest)) _ _ (store_after kind s store) _
      (run_follows (call_program kind s.call store) s.tape 0 (store_after kind s store) (length s.tape) read.0)
      (sent_follows rest (store_after kind s store) read.1)

  -- And their words, one after the other, decide this course, with the numbers of words that the draws read; no word is left.
  pub sent_decided : (sent : List (SentTo kind)) (store : StoreFor kind) → AllRead kind sent store
      → (decided (2 ^ 32) (run_calls kind (calls_of sent) store) (faces_sent kind sent store) (numbers_sent kind sent store) (words_of sent) 0 ≡ true)
      × (total (numbers_sent kind sent store) ≡ length (words_of sent))
  unfolding run_calls calls_of faces_sent numbers_sent words_of AllRead decided total
  sent_decided [] store read = (refl, refl)
  sent_decided (s ∷ rest) store read =
      let p = call_program kind s.call store in
      let after = store_after kind s store in
      let one = run_decided p s.tape 0 after (length s.tape) read.0 in
      let size : total (numbers_on p s.tape 0) ≡ length s.tape = omega (arith, one.1) in
      let others = sent_decided rest after read.1 in (
        decided_bind (2 ^ 32) p (run_calls kind (calls_of rest)) (faces_on p s.tape 0) (faces_sent kind rest after) (numbers_on p s.tape 0)
            (numbers_sent kind rest after) s.tape (words_of rest) after (run_follows p s.tape 0 after (length s.tape) read.0) size one.0
            ∙ others.0,
        total_append (numbers_on p s.tape 0) (numbers_sent kind rest after) ∙ ap₂ ◌+◌ size others.1 ∙ sym (length-append s.tape (words_of rest)),
      )

  -- Tapes for these calls that they read to their ends, whose words are these, with the faces and the numbers of words of a course.
  pub record Tapes (calls : List (CallFor kind)) (store : StoreFor kind) (faces numbers words : List ℕ) : Type 0 where
    pub sent : List (SentTo kind)
    pub same_calls : calls_of sent ≡ calls
    pub same_words : words_of sent ≡ words
    pub read : AllRead kind sent store
    pub same_faces : faces_sent kind sent store ≡ faces
    pub same_numbers : numbers_sent kind sent store ≡ numbers

  no_tapes : (store : StoreFor kind) (faces numbers words : List ℕ) (final : StoreFor kind) → Follows (done store) faces final
      → decided (2 ^ 32) (done store) faces numbers words 0 ≡ true → total numbers ≡ length words → Tapes [] store faces numbers words
  unfolding Follows decided total calls_of words_of AllRead faces_sent numbers_sent
  no_tapes store [] [] [] final h e l =
      record { sent = []; same_calls = refl; same_words = refl; read = tt; same_faces = refl; same_numbers = refl }
  no_tapes store [] [] (w ∷ ws) final h e l = absurd (omega arith)
  no_tapes store [] (m ∷ ms) words final h e l = let z : ◌≡◌ {A = ℕ} 0 1 = cc in absurd (omega arith)
  no_tapes store (f ∷ fs) numbers words final h e l = absurd h

  -- one tape more in front
  tape_before : (call : CallFor kind) (calls : List (CallFor kind)) (store middle : StoreFor kind) (fs gs faces ms ns numbers tape more words : List ℕ)
      → fs ++ gs ≡ faces → ms ++ ns ≡ numbers → tape ++ more ≡ words → total ms ≡ length tape
      → Decides (call_program kind call store) fs ms tape 0 middle → Tapes calls middle gs ns more → Tapes (call ∷ calls) store faces numbers words
  unfolding calls_of words_of AllRead faces_sent numbers_sent store_after
  tape_before call calls store middle fs gs faces ms ns numbers tape more words ef en ew l d rest =
      let after : (outcome kind call tape store []).store ≡ middle = call_ran call tape store [] middle (0 + total ms) d.runs in
      let ends : run_at (call_program kind call store) tape 0 ≡ ran middle (length tape) = d.runs ∙ ap (ran middle) (omega arith) in
      record {
        sent = record { call = call; tape = tape; output = [] } ∷ rest.sent;
        same_calls = ap (λ (cs : List (CallFor kind)). call ∷ cs) rest.same_calls;
        same_words = ap (λ (ws : List ℕ). tape ++ ws) rest.same_words ∙ ew;
        read = rw after (ends, rest.read);
        same_faces = rw after (ap₂ ◌++◌ d.faced rest.same_faces ∙ ef);
        same_numbers = rw after (ap₂ ◌++◌ d.numbered rest.same_numbers ∙ en);
      }

  -- Words that decide a course of the calls with these numbers, and of which none is left, are those of such tapes.
  pub decided_sent : (calls : List (CallFor kind)) (store : StoreFor kind) (faces numbers words : List ℕ) (final : StoreFor kind)
      → Follows (run_calls kind calls store) faces final → decided (2 ^ 32) (run_calls kind calls store) faces numbers words 0 ≡ true
      → total numbers ≡ length words → Tapes calls store faces numbers words
  unfolding run_calls
  decided_sent [] store faces numbers words final h e l = no_tapes store faces numbers words final h e l
  decided_sent (call ∷ calls) store faces numbers words final h e l =
      go (decided_apart (2 ^ 32) (call_program kind call store) (run_calls kind calls) faces numbers words 0 final h e)
      (λ middle gs ns more. decided_sent calls middle gs ns more final)
    where
      go : Parts (2 ^ 32) (call_program kind call store) (run_calls kind calls) faces numbers words 0 final
          → ((middle : StoreFor kind) (gs ns more : List ℕ) → Follows (run_calls kind calls middle) gs final
          → decided (2 ^ 32) (run_calls kind calls middle) gs ns more 0 ≡ true → total ns ≡ length more → Tapes calls middle gs ns more)
          → Tapes (call ∷ calls) store faces numbers words
      go parts others =
          let n = total parts.ms in
          let sum : n + total parts.ns ≡ length words = sym (total_append parts.ms parts.ns) ∙ ap total parts.numbers_apart ∙ l in
          let inside : n ≤ length words = omega arith in
          let later = rw (zero-add n) at parts.second_decided in
          tape_before call calls store parts.middle parts.fs parts.gs faces parts.ms parts.ns numbers (take n words) (drop n words) words
          parts.faces_apart parts.numbers_apart (take-append-drop n words) (sym (length-take-le n words inside))
          (decided_run (call_program kind call store) parts.fs parts.ms (take n words) 0 parts.middle parts.first
          (decided_front (2 ^ 32) (call_program kind call store) parts.fs parts.ms words inside ∙ parts.first_decided))
          (others parts.middle parts.gs parts.ns (drop n words) parts.second
          (decided_back (2 ^ 32) (run_calls kind calls parts.middle) parts.gs parts.ns words n inside ∙ later)
          (omega (arith, sum, length-drop n words)))

  -- There is only one way to cut words into tapes that these calls read to their ends.
  pub tapes_unique : (sent sent' : List (SentTo kind)) (store : StoreFor kind) → calls_of sent ≡ calls_of sent' → AllRead kind sent store
      → AllRead kind sent' store → words_of sent ≡ words_of sent' → tapes_of sent ≡ tapes_of sent'
  unfolding calls_of words_of tapes_of AllRead
  tapes_unique [] [] store c read read' w = refl
  tapes_unique [] (s' ∷ rest') store c read read' w = let z : ◌≡◌ {A = ℕ} 0 1 = cc in absurd (omega arith)
  tapes_unique (s ∷ rest) [] store c read read' w = let z : ◌≡◌ {A = ℕ} 0 1 = cc in absurd (omega arith)
  tapes_unique (s ∷ rest) (s' ∷ rest') store c read read' w =
      let call : s.call ≡ s'.call = cc in
      let calls : calls_of rest ≡ calls_of rest' = cc in
      let ran' : run_at (call_program kind s.call store) s'.tape 0 ≡ ran (store_after kind s' store) (length s'.tape) = rw call read'.0 in
      let same = tape_unique (call_program kind s.call store) s.tape s'.tape (words_of rest) (words_of rest') (store_after kind s store)
      (store_after kind s' store) read.0 ran' w in
      let both : ran (store_after kind s store) (length s.tape) ≡ ran (store_after kind s' store) (length s'.tape) =
      sym read.0 ∙ ap (λ (tape : List ℕ). run_at (call_program kind s.call store) tape 0) same.0 ∙ ran' in
      let after : store_after kind s store ≡ store_after kind s' store = cc in
      let read'' : AllRead kind rest' (store_after kind s store) = rw after read'.1 in
      ap₂ ◌∷◌ same.0 (tapes_unique rest rest' (store_after kind s store) calls read.1 read'' same.1)

  -- What stays when each tape is cut to the words that are read: the calls read all of it, and do the same.
  pub record SameRead (sent : List (SentTo kind)) (store : StoreFor kind) : Type 0 where
    pub read : AllRead kind (words_read kind sent store) store
    pub same_calls : calls_of (words_read kind sent store) ≡ calls_of sent
    pub same_faces : faces_sent kind (words_read kind sent store) store ≡ faces_sent kind sent store
    pub same_numbers : numbers_sent kind (words_read kind sent store) store ≡ numbers_sent kind sent store
    pub same_store : last_store kind (words_read kind sent store) store ≡ last_store kind sent store

  -- Where no call returns 7, the words that are not read decide nothing.
  pub read_same : (sent : List (SentTo kind)) (store : StoreFor kind) → NoneEnds kind sent store → SameRead sent store
  unfolding words_read AllRead calls_of faces_sent numbers_sent last_store NoneEnds store_after
  read_same [] store none = record { read = tt; same_calls = refl; same_faces = refl; same_numbers = refl; same_store = refl }
  read_same (s ∷ rest) store none =
      let p = call_program kind s.call store in
      let after = (outcome kind s.call s.tape store s.output).store in
      let ends = call_ends kind s.call s.tape store s.output none.0 in
      let n = total (numbers_on p s.tape 0) in
      let d = run_read p s.tape after ends.0 ends.1 in
      let inside : n ≤ length s.tape =
      omega (arith, (run_decided p s.tape 0 after ends.0 ends.1).1, run_within p s.tape 0 (omega arith) after ends.0 ends.1) in
      let size : 0 + n ≡ length (take n s.tape) = omega (arith, length-take-le n s.tape inside) in
      let same : (outcome kind s.call (take n s.tape) store s.output).store ≡ after =
      call_ran s.call (take n s.tape) store s.output after (0 + n) d.runs in
      let others = read_same rest after none.1 in
      record {
        read = rw same (d.runs ∙ ap (ran after) size, others.read);
        same_calls = ap (λ (cs : List (CallFor kind)). s.call ∷ cs) others.same_calls;
        same_faces = rw same (ap₂ ◌++◌ d.faced others.same_faces);
        same_numbers = rw same (ap₂ ◌++◌ d.numbered others.same_numbers);
        same_store = ap (λ (t : StoreFor kind). last_store kind (words_read kind rest after) t) same ∙ others.same_store;
      }

-- Two courses of histories whose draws are among the same numbers are decided by equally many runs of words, for the same numbers of words
-- read by the draws: whatever the faces, the calls and the kinds of sheet.
pub history_fair : (kind kind' : Kind) (calls : List (CallFor kind)) (calls' : List (CallFor kind')) (store final : StoreFor kind)
    (store' final' : StoreFor kind') (faces faces' numbers : List ℕ) → Follows (history kind calls store) faces final
    → Follows (history kind' calls' store') faces' final' → among_of (history kind calls store) faces ≡ among_of (history kind' calls' store') faces'
    → deciding_runs (2 ^ 32) (history kind calls store) faces numbers ≡ deciding_runs (2 ^ 32) (history kind' calls' store') faces' numbers
history_fair kind kind' calls calls' store final store' final' faces faces' numbers =
    course_fair (2 ^ 32) (history kind calls store) (history kind' calls' store') faces faces' numbers final final'
