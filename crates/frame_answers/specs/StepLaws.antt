-- What each frame's answer comes to, told by what its call left.
use Rattle.std.specs.Prelude.{Result, ◌≡◌, refl, ◌≢◌, get_or, take}
use Rattle.std.proofs.Math.Path.{ap, sym}
use Rattle.std.proofs.Common.{◌∙◌, arith}
use mathlib.Core.List.{List, [], ◌∷◌, ◌++◌, append-nil}
use Prim.Native.Nat.{ℕ, ◌+◌, ◌≤◌, ◌<◌}
use Rattle.std.proofs.Math.Nat.{zero-add}
use Rattle.std.proofs.Math.ListN.{length, drop, length-append}
use Rattle.base.specs.CaseLaws.{if_eq_yes, if_eq_no, if_lt_yes, if_lt_no}
use Rattle.call_outcomes.specs.declared.Cause.{Cause}
use Rattle.call_outcomes.specs.declared.Cause.TheVariants as cause
use Rattle.call_outcomes.specs.declared.Returned.{Returned}
use Rattle.call_outcomes.specs.declared.Answer.{Answer}
use Rattle.call_outcomes.specs.Returns.{cause_number, returned}
use Rattle.call_outcomes.specs.Outcome.{Outcome, outcome}
use Rattle.call_outcomes.specs.DecisionLaws.{question_outcome}
use Rattle.call_outcomes.specs.AnswerLaws.{number_accepted}
use Rattle.call_outcomes.specs.PlainCalls.{read_ranks, reply_to, read}
use Rattle.call_outcomes.specs.Plain.{plain, PlainStore, plain_store_of, plain_outcome_of}
use Rattle.call_outcomes.specs.PlainCallLaws.{read_within}
use Rattle.call_outcomes.proofs.AcceptedLaws.{question_free}
use Rattle.call_outcomes.specs.Clubs.{clubs}
use Rattle.frame_lines.specs.Frame.{frame_of}
use Rattle.frame_replies.specs.Reply.{Reply, brief, entries, placed, line_of, bytes_of}
use Rattle.frame_replies.specs.Wrote.{Wrote}
use Rattle.frame_tape.specs.Tape.{most_waiting, line_words}
use Rattle.frame_answers.specs.Step.{Kept, Step, entry_count, refusal, keeping, read_reply, read_line, place_reply, place_line, clear_line, cleared, taped, answer_to, longest, handed, step_of}
use Rattle.frame_answers.specs.Gives.{kept_of, Gives, ClearGives}
use Rattle.frame_answers.specs.QuestionLaws.{sheet_asked}

-- An answer of one line.
pub one_line : {old new : List ℕ} {at next : ℕ} (reply : Reply) → Wrote old at (line_of reply) new next → Wrote old at (bytes_of (reply ∷ [])) new next
unfolding bytes_of
one_line reply w = rw (append-nil (line_of reply)) w

-- ---- read, place and clear

module _ {o : Outcome PlainStore} {given : Result Answer Cause} {slots counts tallies output : List ℕ} {back : Returned}
    (done : plain_outcome_of given slots counts tallies output ≡ o) (is : back ≡ returned given) where
  pub read_refused : back.number ≢ 0 → brief 131 back.number (get_or counts 1 0) ≡ read_line o (plain_store_of slots counts tallies)
  unfolding read_line read_reply entry_count
  read_refused ne = rw (← done, ← is) (sym (if_eq_no back.number 0 _ _ ne))

  pub read_accepted : back.number ≡ 0 → entries (get_or counts 1 0) (take back.first output) ≡ read_line o (plain_store_of slots counts tallies)
  unfolding read_line read_reply entry_count
  read_accepted e = rw (← done, ← is) (sym (if_eq_yes back.number 0 _ _ e))

  pub place_refused : back.number ≢ 0 → brief 135 back.number (get_or counts 1 0) ≡ place_line o (plain_store_of slots counts tallies)
  unfolding place_line place_reply entry_count
  place_refused ne = rw (← done, ← is) (sym (if_eq_no back.number 0 _ _ ne))

  pub place_accepted : back.number ≡ 0
      → placed (get_or counts 1 0) back.first back.second back.third ≡ place_line o (plain_store_of slots counts tallies)
  unfolding place_line place_reply entry_count
  place_accepted e = rw (← done, ← is) (sym (if_eq_yes back.number 0 _ _ e))

  pub clear_gives : {before after : List ℕ} {bytes : ℕ} → Wrote before 0 (line_of (brief 134 back.number (get_or counts 1 0))) after bytes
      → ClearGives o before bytes (plain_store_of slots counts tallies) after
  unfolding clear_line entry_count
  clear_gives w = record { store_is = ap (λ (x : Outcome PlainStore). x.store) done; wrote = rw (← done, ← is) w }

-- An accepted read gives no more entries than it has room for.
pub read_most : (first last room : ℕ) (store : PlainStore) (given : Result Answer Cause) (slots counts tallies output output' : List ℕ) (back : Returned)
    → plain_outcome_of given slots counts tallies output' ≡ outcome (plain clubs) (read first last room) [] store output → back ≡ returned given
    → back.number ≡ 0 → back.first ≤ room
unfolding reply_to
read_most first last room store given slots counts tallies output output' back done is zero_is =
    let q = read_ranks first last room in
    let same : returned (outcome (plain clubs) (read first last room) [] store output).answer ≡ back = rw (← done, is) in
    let a = number_accepted (plain clubs) (read first last room) [] store output (rw same zero_is) in
    let within = read_within first last room _ (question_free clubs store.sheet a.0 q (sheet_asked store a.0 q a.1)) in
    rw (← same, question_outcome (plain clubs) q [] store output a.0 a.1) within.2

-- ---- tape

module _ (line tape slots counts tallies : List ℕ) (words waiting : ℕ) where
  pub taped_full : most_waiting < waiting + words → {output output' : List ℕ} {bytes : ℕ}
      → Wrote output 0 (line_of (brief 132 (cause_number cause.TapeFull) (get_or counts 1 0))) output' bytes
      → Gives (taped line words (kept_of (plain_store_of slots counts tallies) tape waiting)) output bytes waiting (plain_store_of slots counts tallies) tape output'
  unfolding taped refusal keeping entry_count
  taped_full l w = rw (if_lt_yes most_waiting (waiting + words) _ _ l) record { kept = refl; wrote = one_line _ w }

  pub taped_more : waiting + words ≤ most_waiting → {output output' tape' : List ℕ} {bytes : ℕ}
      → tape' ≡ take waiting tape ++ (line_words line 0 words ++ drop (waiting + words) tape)
      → Wrote output 0 (line_of (brief 132 0 (get_or counts 1 0))) output' bytes
      → Gives (taped line words (kept_of (plain_store_of slots counts tallies) tape waiting)) output bytes (waiting + words) (plain_store_of slots counts tallies) tape' output'
  unfolding taped entry_count
  taped_more l e w = rw (if_lt_no most_waiting (waiting + words) _ _ l) record { kept = rw e; wrote = one_line _ w }

-- ---- a frame

module _ {store : PlainStore} {tape output output' : List ℕ} {waiting bytes : ℕ} where
  pub keeping_gives : (reply : Reply) → Wrote output 0 (line_of reply) output' bytes
      → Gives (keeping (kept_of store tape waiting) reply) output bytes waiting store tape output'
  unfolding keeping
  keeping_gives reply w = record { kept = refl; wrote = one_line reply w }

  pub printed_gives : (replies : List Reply) → Wrote output 0 (bytes_of replies) output' bytes
      → Gives (record { replies = replies; kept = kept_of store tape waiting }) output bytes waiting store tape output'
  printed_gives replies w = record { kept = refl; wrote = w }

pub cleared_gives : (store : PlainStore) (o : Outcome PlainStore) {tape output output' : List ℕ} {waiting bytes : ℕ} {store' : PlainStore}
    → ClearGives o output bytes store' output' → Gives (cleared (kept_of store tape waiting) o) output bytes waiting store' tape output'
unfolding cleared
cleared_gives store o {tape} {waiting = waiting} g = record {
  kept = ap (λ (s : PlainStore). kept_of s tape waiting) g.store_is;
  wrote = one_line _ g.wrote;
}

-- ---- a line

module _ (line : List ℕ) (k : Kept) (output : List ℕ) where
  abbrev nothing : Step
  nothing = record { bytes = 0; kept = k; output = output }

  pub step_short : length output < longest → nothing ≡ step_of line k output
  unfolding step_of
  step_short l = sym (if_lt_yes (length output) longest _ _ l)

  pub step_tape : longest ≤ length output → length k.tape ≢ most_waiting → nothing ≡ step_of line k output
  unfolding step_of
  step_tape l ne = sym (if_lt_no (length output) longest _ _ l ∙ if_eq_no (length k.tape) most_waiting _ _ ne)

  module _ (l : longest ≤ length output) (e : length k.tape ≡ most_waiting) where
    pub step_waiting : most_waiting < k.waiting → nothing ≡ step_of line k output
    unfolding step_of
    step_waiting w = sym (if_lt_no (length output) longest _ _ l ∙ if_eq_yes (length k.tape) most_waiting _ _ e ∙ if_lt_yes most_waiting k.waiting _ _ w)

    pub step_done : k.waiting ≤ most_waiting → {bytes waiting : ℕ} {store : PlainStore} {tape output' : List ℕ}
        → Gives (answer_to (frame_of line) line k) output bytes waiting store tape output'
        → record { bytes = bytes; kept = kept_of store tape waiting; output = output' } ≡ step_of line k output
    unfolding step_of handed
    step_done w g =
        let size : _ ≡ length (bytes_of (answer_to (frame_of line) line k).replies) = g.wrote.end ∙ zero-add _ in
        rw (g.kept, g.wrote.is, size)
        (sym (if_lt_no (length output) longest _ _ l ∙ if_eq_yes (length k.tape) most_waiting _ _ e ∙ if_lt_no most_waiting k.waiting _ _ w))

    -- The other way: what a step leaves is what the answer to its line gives.
    pub step_gives : k.waiting ≤ most_waiting → {bytes : ℕ} {kept : Kept} {output' : List ℕ} → length output' ≡ length output
        → record { bytes = bytes; kept = kept; output = output' } ≡ step_of line k output
        → Gives (answer_to (frame_of line) line k) output bytes kept.waiting kept.store kept.tape output'
    unfolding step_of handed
    step_gives w {bytes} {kept} {output'} same is =
        let given : List ℕ = bytes_of (answer_to (frame_of line) line k).replies in
        let done : record { bytes = bytes; kept = kept; output = output' } ≡ handed (answer_to (frame_of line) line k) output =
        is ∙ if_lt_no (length output) longest _ _ l ∙ if_eq_yes (length k.tape) most_waiting _ _ e ∙ if_lt_no most_waiting k.waiting _ _ w in
        let size : bytes ≡ length given = ap (λ (s : Step). s.bytes) done in
        let whole : output' ≡ given ++ drop (length given) output = ap (λ (s : Step). s.output) done in
        record {
          kept = ap (λ (s : Step). s.kept) done;
          wrote = record {
            is = rw (size) whole;
            end = size ∙ sym (zero-add (length given));
            room = omega (arith, size, ap length whole, length-append given (drop (length given) output), same);
          };
        }
