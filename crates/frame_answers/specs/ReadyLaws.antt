-- The tape stays ready from line to line.
use Rattle.std.specs.Prelude.{Option, Some, None, ◌≡◌, List, [], ◌++◌, ℕ, ◌+◌, ◌-◌, ◌≤◌, length, take, drop}
use Rattle.std.proofs.Common.{◌∙◌, arith, length-drop, length-append, length-take-le}
use Rattle.base.specs.CaseLaws.{by_lt}
use Rattle.call_outcomes.specs.PlainCalls.{insert_at, delete_at}
use Rattle.call_outcomes.specs.Plain.{plain, PlainStore}
use Rattle.call_outcomes.specs.Clubs.{clubs}
use Rattle.call_outcomes.specs.AnswerLaws.{words_within}
use Rattle.frame_lines.specs.declared.Frame.{Frame}
use Rattle.frame_lines.specs.declared.Frame.TheVariants.{Insert, Delete, Read, Tape, Print, Clear, Place}
use Rattle.frame_tape.specs.Tape.{most_waiting, read_off, line_words}
use Rattle.frame_tape.specs.TapeLaws.{length_read_off, length_words}
use Rattle.frame_answers.specs.Step.{Kept, TapeReady, Answered, keeping, changed_by, changed, cleared, taped, answer_to}
use Rattle.frame_answers.specs.Gives.{kept_of}

-- no more words wait than the tape has
pub waiting_within : {k : Kept} → TapeReady k → k.waiting ≤ length k.tape
waiting_within t = omega (arith, t.room, t.few)

-- A call reads some of the words that wait.
pub read_within : {k : Kept} → TapeReady k → (n : ℕ) → n ≤ length (take k.waiting k.tape) → n ≤ k.waiting
read_within {k} t n l = omega (arith, length-take-le k.waiting k.tape (waiting_within t))

read_ready : {k : Kept} → TapeReady k → (n : ℕ) (store : PlainStore) → n ≤ length (take k.waiting k.tape)
    → TapeReady (kept_of store (read_off n k.tape) (k.waiting - n))
read_ready {k} t n store l = record {
  room = length_read_off n k.tape (omega (arith, read_within t n l, waiting_within t)) ∙ t.room;
  few = omega (arith, t.few);
}

taped_ready : (line : List ℕ) (words : ℕ) (k : Kept) → TapeReady k → k.waiting + words ≤ most_waiting
    → length (take k.waiting k.tape ++ (line_words line 0 words ++ drop (k.waiting + words) k.tape)) ≡ most_waiting
taped_ready line words k t room =
    omega (
      arith,
      length-take-le k.waiting k.tape (waiting_within t),
      length-append (take k.waiting k.tape) (line_words line 0 words ++ drop (k.waiting + words) k.tape),
      length-append (line_words line 0 words) (drop (k.waiting + words) k.tape),
      length_words line 0 words,
      length-drop (k.waiting + words) k.tape,
      t.room,
    )

pub tape_ready : (frame : Option Frame) (line : List ℕ) (k : Kept) → TapeReady k → TapeReady (answer_to frame line k).kept
unfolding answer_to changed changed_by keeping cleared taped
tape_ready (Some (Insert rank entry)) line k t =
    read_ready t _ _ (words_within (plain clubs) (insert_at rank entry) (take k.waiting k.tape) k.store [])
tape_ready (Some (Delete rank)) line k t =
    read_ready t _ _ (words_within (plain clubs) (delete_at rank) (take k.waiting k.tape) k.store [])
tape_ready (Some (Read first last)) line k t = t
tape_ready (Some (Tape words)) line k t =
    by_lt (λ (a : Answered). TapeReady a.kept) most_waiting (k.waiting + words) _ _ (λ _. t)
    (λ room. record { room = taped_ready line words k t room; few = room })
tape_ready (Some Print) line k t = t
tape_ready (Some Clear) line k t = record { room = t.room; few = t.few }
tape_ready (Some (Place rank)) line k t = t
tape_ready None line k t = t
