-- What is proved of histories holds for sessions whose answers have no 07: a session is the history of the calls that its lines ask.
use Rattle.std.proofs.Math.Path.{◌≡◌, sym, ap}
use Rattle.std.specs.Prelude.{Option, Some, None, Result, Err, refl, ◌≢◌, ◌↔◌, List, [], ◌∷◌, ◌++◌, ℕ}
use Rattle.std.proofs.Common.{ap₂, ◌∙◌}
use native.Mathlib.Omega.{arith}
use Rattle.std.proofs.lemmas.List.{length-replicate}
use Rattle.base.specs.Cases.{if_eq}
use Rattle.base.specs.Lists.{Every}
use Rattle.base.specs.CaseLaws.{if_eq_no}
use Rattle.draw_shares.specs.Course.{Follows}
use Rattle.store_layout.specs.EmptyLaws.{empty_slots, empty_counts}
use Rattle.store_tallies.specs.LayLaws.{empty_tallies}
use Rattle.call_outcomes.specs.declared.Cause.TheVariants.{TapeEnded}
use Rattle.call_outcomes.specs.declared.Cause.{Cause}
use Rattle.call_outcomes.specs.declared.Answer.{Answer}
use Rattle.call_outcomes.specs.Returns.{returned}
use Rattle.call_outcomes.specs.Kind.{Kind, StoreFor}
use Rattle.call_outcomes.specs.PlainCalls.{Call}
use Rattle.call_outcomes.specs.Plain.{plain, PlainStore, PlainLengths, plain_store_of}
use Rattle.call_outcomes.proofs.PlainLaws.{plain_right}
use Rattle.call_outcomes.specs.Clubs.{clubs, zeros}
use Rattle.call_outcomes.proofs.ClubsLaws.{clubs_lawful}
use Rattle.call_history.specs.History.{history, list_at_end, Sent, SentTo, clearing, store_after, last_store, NoneEnds, faces_sent, calls_of}
use Rattle.call_history.proofs.Supply.{clear_leaves}
use Rattle.call_history.proofs.Shares.{last_sheet}
use Rattle.call_history.proofs.Clause.{words}
use Rattle.call_history.proofs.ClubSheets.{ClubSheet}
use Rattle.frame_lines.specs.declared.Frame.{Frame}
use Rattle.frame_lines.specs.declared.Frame.TheVariants.{Insert, Delete, Read, Tape, Print, Clear, Place}
use Rattle.frame_lines.specs.Frame.{frame_of}
use Rattle.frame_replies.specs.Reply.{Reply, brief}
use Rattle.frame_answers.specs.Step.{Kept, at_start, keeping, changed_by, changed, read_reply, read_line, place_reply, place_line, clear_line, cleared, print_replies, print_lines, answer_to, kept_by, kept_after}
use Rattle.frame_sessions.specs.Session.{call_by, sent_by, calls_in, sent_over, number_of, NoneSays07}
use Rattle.frame_sessions.specs.SessionLaws.{store_by, session_store}

-- ---- the calls, by the lines alone

calls_append : (xs ys : List (Sent Call)) → calls_of (xs ++ ys) ≡ calls_of xs ++ calls_of ys
unfolding calls_of
calls_append [] ys = refl
calls_append (x ∷ xs) ys = ap (λ (calls : List Call). x.call ∷ calls) (calls_append xs ys)

calls_by : (frame : Option Frame) (k : Kept) → calls_of (sent_by frame k) ≡ call_by frame
unfolding calls_of sent_by call_by
calls_by (Some (Insert rank entry)) k = refl
calls_by (Some (Delete rank)) k = refl
calls_by (Some (Read first last)) k = refl
calls_by (Some (Tape words)) k = refl
calls_by (Some Print) k = refl
calls_by (Some Clear) k = refl
calls_by (Some (Place rank)) k = refl
calls_by None k = refl

-- Which calls a session makes follows from its lines alone, whatever the words.
pub session_calls : (lines : List (List ℕ)) (k : Kept) → calls_of (sent_over lines k) ≡ calls_in lines
unfolding calls_of sent_over calls_in
session_calls [] k = refl
session_calls (line ∷ lines) k =
    calls_append (sent_by (frame_of line) k) (sent_over lines (kept_by line k))
    ∙ ap₂ (λ (xs ys : List Call). xs ++ ys) (calls_by (frame_of line) k) (session_calls lines (kept_by line k))

-- ---- no answer has 07, so no call returns 7

not_ended : (a : Result Answer Cause) → (returned a).number ≢ 7 → a ≢ Err TapeEnded
not_ended a h e = h (ap (λ (x : Result Answer Cause). (returned x).number) e)

-- an answer of entries or of a place stands where the number is 0
module _ (other : Reply) (kind n : ℕ) (a : Result Answer Cause) where
  not_ended_else : number_of (if_eq (returned a).number 0 other (brief kind (returned a).number n)) ≢ 7 → a ≢ Err TapeEnded
  unfolding number_of
  not_ended_else h e =
      let seven : (returned a).number ≡ 7 = ap (λ (x : Result Answer Cause). (returned x).number) e in
      h (ap number_of (if_eq_no (returned a).number 0 _ _ (λ zero_is. omega (arith, seven, zero_is))) ∙ seven)

none_by : (frame : Option Frame) (line : List ℕ) (k : Kept) → Every (λ reply. number_of reply ≢ 7) (answer_to frame line k).replies
    → NoneEnds (plain clubs) (sent_by frame k) k.store
unfolding answer_to changed changed_by keeping cleared clear_line read_line read_reply place_line place_reply print_lines print_replies number_of Every sent_by NoneEnds
none_by (Some (Insert rank entry)) line k h = (not_ended _ h.0, tt)
none_by (Some (Delete rank)) line k h = (not_ended _ h.0, tt)
none_by (Some (Read first last)) line k h = (not_ended_else _ 131 _ _ h.0, tt)
none_by (Some (Tape words)) line k h = tt
none_by (Some Print) line k h = (not_ended _ h.0, tt)
none_by (Some Clear) line k h = (not_ended _ h.0, tt)
none_by (Some (Place rank)) line k h = (not_ended_else _ 135 _ _ h.0, tt)
none_by None line k h = tt

none_append : (kind : Kind) (xs ys : List (SentTo kind)) (store : StoreFor kind) → NoneEnds kind xs store → NoneEnds kind ys (last_store kind xs store)
    → NoneEnds kind (xs ++ ys) store
unfolding NoneEnds last_store
none_append kind [] ys store none more = more
none_append kind (x ∷ xs) ys store none more = (none.0, none_append kind xs ys (store_after kind x store) none.1 more)

none_over : (lines : List (List ℕ)) (k : Kept) → NoneSays07 lines k → NoneEnds (plain clubs) (sent_over lines k) k.store
unfolding NoneSays07 sent_over NoneEnds
none_over [] k h = tt
none_over (line ∷ lines) k h =
    none_append (plain clubs) (sent_by (frame_of line) k) (sent_over lines (kept_by line k)) k.store (none_by (frame_of line) line k h.0)
    (rw (← store_by (frame_of line) line k) (none_over lines (kept_by line k) h.1))

-- ---- the session as a history

zeros_right : PlainLengths clubs zeros
zeros_right = record {
  sheet = record { slots = length-replicate {A = ℕ} clubs.slots 0; counts = length-replicate {A = ℕ} clubs.counts 0 };
  tallies = length-replicate {A = ℕ} clubs.counts 0;
}

-- Clearing leaves the zeros as they are.
clearing_keeps : store_after (plain clubs) (clearing (plain clubs)) zeros ≡ zeros
unfolding store_after clearing
clearing_keeps =
    (clear_leaves (plain clubs) zeros (plain_right clubs zeros zeros_right)).1
    ∙ (λ i. plain_store_of (empty_slots clubs i) (empty_counts clubs i) (empty_tallies clubs.counts i))

module _ (lines : List (List ℕ)) (none : NoneSays07 lines at_start) where
  no_call_ends : NoneEnds (plain clubs) (clearing (plain clubs) ∷ sent_over lines at_start) zeros
  unfolding NoneEnds at_start clearing
  no_call_ends = (
    λ e.
        let done = (clear_leaves (plain clubs) zeros (plain_right clubs zeros zeros_right)).0 in
        let z : ◌≡◌ {A = ℕ} 0 1 = cc in omega arith,
    rw clearing_keeps (none_over lines at_start none),
  )

  last_is : last_store (plain clubs) (clearing (plain clubs) ∷ sent_over lines at_start) zeros ≡ (kept_after lines at_start).store
  unfolding last_store at_start
  last_is = ap (last_store (plain clubs) (sent_over lines at_start)) clearing_keeps ∙ sym (session_store lines at_start)

  -- Whatever the words, the session leaves the store with which the course ends, of the history of its calls, whose faces the words decide.
  pub session_words : (final : PlainStore)
      → Follows (history (plain clubs) (calls_in lines) zeros) (faces_sent (plain clubs) (clearing (plain clubs) ∷ sent_over lines at_start) zeros) final
      ↔ (final ≡ (kept_after lines at_start).store)
  session_words final = rw (← session_calls lines at_start, ← last_is) (words (sent_over lines at_start) zeros no_call_ends final)

  -- The store after the session is a sheet of the list at the end of this history.
  pub session_sheet : ClubSheet (list_at_end (plain clubs) (calls_in lines)) (kept_after lines at_start).store
  session_sheet =
      rw (← session_calls lines at_start, ← last_is)
      (last_sheet (plain clubs) clubs_lawful (sent_over lines at_start) zeros (plain_right clubs zeros zeros_right) no_call_ends)
