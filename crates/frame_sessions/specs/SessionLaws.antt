-- The store after a session is the last store of the calls that its frames ask; every word that is brought is read at most once, in order.
use Rattle.std.specs.Prelude.{Option, Some, None, ◌≡◌, refl, List, [], ◌∷◌, ◌++◌, ℕ, zero, suc, ◌+◌, ◌-◌, ◌≤◌, ◌<◌, length, take, drop, replicate}
use Rattle.std.proofs.Common.{sym, ap, ◌∙◌, ⊎_elim, append-nil, append_assoc, not-suc-le-zero, arith, length-drop, take-append-drop, length-take-le, take_all}
use Rattle.std.proofs.Math.Nat.{sub-zero}
use Rattle.std.proofs.Math.Seq.{take-nil, take-append-add}
use Rattle.std.proofs.lemmas.List.{take-append-le}
use Rattle.base.specs.CaseLaws.{by_lt, if_lt_yes, if_lt_no, lt_or_ge}
use Rattle.call_outcomes.specs.Kind.{Kind, StoreFor}
use Rattle.call_outcomes.specs.PlainCalls.{insert_at, delete_at}
use Rattle.call_outcomes.specs.Plain.{plain}
use Rattle.call_outcomes.specs.Clubs.{clubs}
use Rattle.call_outcomes.specs.DecisionLaws.{question_keeps}
use Rattle.call_outcomes.specs.AnswerLaws.{words_within}
use Rattle.call_history.specs.History.{SentTo, store_after, last_store}
use Rattle.frame_lines.specs.declared.Frame.{Frame}
use Rattle.frame_lines.specs.declared.Frame.TheVariants.{Insert, Delete, Read, Tape, Print, Clear, Place}
use Rattle.frame_lines.specs.Frame.{frame_of}
use Rattle.frame_tape.specs.Tape.{most_waiting, read_off, line_words}
use Rattle.frame_tape.specs.TapeLaws.{length_words}
use Rattle.frame_answers.specs.Step.{Kept, TapeReady, Answered, keeping, changed_by, changed, cleared, taped, answer_to, kept_by, kept_after}
use Rattle.frame_answers.specs.ReadyLaws.{waiting_within, read_within, tape_ready}
use Rattle.frame_sessions.specs.Session.{waiting_words, sent_by, brought_by, read_by, sent_over, brought_over, read_over}

-- ---- the store

last_append : (kind : Kind) (xs ys : List (SentTo kind)) (store : StoreFor kind) → last_store kind (xs ++ ys) store ≡ last_store kind ys (last_store kind xs store)
unfolding last_store
last_append kind [] ys store = refl
last_append kind (x ∷ xs) ys store = last_append kind xs ys (store_after kind x store)

-- The store after a frame.
pub store_by : (frame : Option Frame) (line : List ℕ) (k : Kept) → (answer_to frame line k).kept.store ≡ last_store (plain clubs) (sent_by frame k) k.store
unfolding answer_to changed changed_by keeping cleared taped sent_by last_store store_after
store_by (Some (Insert rank entry)) line k = refl
store_by (Some (Delete rank)) line k = refl
store_by (Some (Read first last)) line k = sym (question_keeps (plain clubs) _ [] k.store (replicate 64 0))
store_by (Some (Tape words)) line k = by_lt (λ (a : Answered). a.kept.store ≡ k.store) most_waiting (k.waiting + words) _ _ (λ _. refl) (λ _. refl)
store_by (Some Print) line k = sym (question_keeps (plain clubs) _ [] k.store [])
store_by (Some Clear) line k = refl
store_by (Some (Place rank)) line k = sym (question_keeps (plain clubs) _ [] k.store [])
store_by None line k = refl

-- The store after the lines is the last store of the calls that their frames ask.
pub session_store : (lines : List (List ℕ)) (k : Kept) → (kept_after lines k).store ≡ last_store (plain clubs) (sent_over lines k) k.store
unfolding kept_after sent_over last_store
session_store [] k = refl
session_store (line ∷ lines) k =
    session_store lines (kept_by line k)
    ∙ ap (last_store (plain clubs) (sent_over lines (kept_by line k))) (store_by (frame_of line) line k)
    ∙ sym (last_append (plain clubs) (sent_by (frame_of line) k) (sent_over lines (kept_by line k)) k.store)

-- ---- the words

-- What a line brings goes behind the words that wait, and what its call reads leaves them at their front.
unfoldable Passed : Option Frame → List ℕ → Kept → Kept → Type 0
Passed frame line k after = read_by frame k ++ waiting_words after ≡ waiting_words k ++ brought_by frame line k

take_of_drop : (n w : ℕ) (xs : List ℕ) → n ≤ w → take (w - n) (drop n xs) ≡ drop n (take w xs)
take_of_drop zero w xs l = rw (sub-zero w)
take_of_drop (suc n) zero xs l = absurd (not-suc-le-zero l)
take_of_drop (suc n) (suc w) [] l = take-nil (suc w - suc n)
take_of_drop (suc n) (suc w) (x ∷ xs) l =
    let less : suc w - suc n ≡ w - n = omega arith in
    rw less (take_of_drop n w xs (omega arith))

read_passed : (n waiting : ℕ) (tape : List ℕ) → n ≤ waiting → waiting ≤ length tape
    → take n (take waiting tape) ++ take (waiting - n) (read_off n tape) ≡ take waiting tape
unfolding read_off
read_passed n waiting tape l m = ap (λ (xs : List ℕ). take n (take waiting tape) ++ xs) rest ∙ take-append-drop n (take waiting tape)
  where
    rest : take (waiting - n) (drop n tape ++ replicate n 0) ≡ drop n (take waiting tape)
    rest = take-append-le (waiting - n) (drop n tape) (replicate n 0) (omega (arith, length-drop n tape)) ∙ take_of_drop n waiting tape l

-- a call that reads n of the words that wait
change_passed : (n : ℕ) (k : Kept) → TapeReady k → n ≤ length (waiting_words k)
    → take n (waiting_words k) ++ take (k.waiting - n) (read_off n k.tape) ≡ waiting_words k ++ []
change_passed n k t l =
    read_passed n k.waiting k.tape (read_within t n l) (waiting_within t) ∙ sym (append-nil (waiting_words k))

tape_passed : (line : List ℕ) (words : ℕ) (k : Kept) → TapeReady k → Passed (Some (Tape words)) line k (taped line words k).kept
unfolding Passed taped keeping read_by brought_by
tape_passed line words k t =
    ⊎_elim
    (λ (full : most_waiting < k.waiting + words).
    rw (if_lt_yes most_waiting (k.waiting + words) _ _ full, if_lt_yes most_waiting (k.waiting + words) _ _ full) (sym (append-nil (waiting_words k))))
    (λ (room : k.waiting + words ≤ most_waiting).
    rw (if_lt_no most_waiting (k.waiting + words) _ _ room, if_lt_no most_waiting (k.waiting + words) _ _ room) behind)
    (lt_or_ge most_waiting (k.waiting + words))
  where
    front : length (take k.waiting k.tape) ≡ k.waiting
    front = length-take-le k.waiting k.tape (waiting_within t)

    behind : take (k.waiting + words) (take k.waiting k.tape ++ (line_words line 0 words ++ drop (k.waiting + words) k.tape))
        ≡ take k.waiting k.tape ++ line_words line 0 words
    behind =
        let first : k.waiting + words ≡ length (take k.waiting k.tape) + words = omega (arith, front) in
        ap (λ (n : ℕ). take n (take k.waiting k.tape ++ (line_words line 0 words ++ drop (k.waiting + words) k.tape))) first
        ∙ take-append-add (take k.waiting k.tape) (line_words line 0 words ++ drop (k.waiting + words) k.tape) words
        ∙ ap (λ (xs : List ℕ). take k.waiting k.tape ++ xs)
        (take-append-le words (line_words line 0 words) (drop (k.waiting + words) k.tape) (omega (arith, length_words line 0 words))
        ∙ take_all words (line_words line 0 words) (omega (arith, length_words line 0 words)))

passed : (frame : Option Frame) (line : List ℕ) (k : Kept) → TapeReady k → Passed frame line k (answer_to frame line k).kept
unfolding Passed answer_to changed changed_by keeping cleared read_by brought_by
passed (Some (Insert rank entry)) line k t = change_passed _ k t (words_within (plain clubs) (insert_at rank entry) (waiting_words k) k.store [])
passed (Some (Delete rank)) line k t = change_passed _ k t (words_within (plain clubs) (delete_at rank) (waiting_words k) k.store [])
passed (Some (Read first last)) line k t = sym (append-nil (waiting_words k))
passed (Some (Tape words)) line k t = tape_passed line words k t
passed (Some Print) line k t = sym (append-nil (waiting_words k))
passed (Some Clear) line k t = sym (append-nil (waiting_words k))
passed (Some (Place rank)) line k t = sym (append-nil (waiting_words k))
passed None line k t = sym (append-nil (waiting_words k))

-- The words that the calls read, and then those that wait, are those that waited and then those that the lines brought: each is read once.
pub words_once : (lines : List (List ℕ)) (k : Kept) → TapeReady k
    → read_over lines k ++ waiting_words (kept_after lines k) ≡ waiting_words k ++ brought_over lines k
unfolding read_over brought_over kept_after Passed
words_once [] k t = sym (append-nil (waiting_words k))
words_once (line ∷ lines) k t =
    append_assoc (read_by (frame_of line) k) (read_over lines (kept_by line k)) (waiting_words (kept_after lines (kept_by line k)))
    ∙ ap (λ (xs : List ℕ). read_by (frame_of line) k ++ xs) (words_once lines (kept_by line k) (tape_ready (frame_of line) line k t))
    ∙ sym (append_assoc (read_by (frame_of line) k) (waiting_words (kept_by line k)) (brought_over lines (kept_by line k)))
    ∙ ap (λ (xs : List ℕ). xs ++ brought_over lines (kept_by line k)) (passed (frame_of line) line k t)
    ∙ append_assoc (waiting_words k) (brought_by (frame_of line) line k) (brought_over lines (kept_by line k))
