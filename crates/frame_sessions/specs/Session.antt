-- A session of the program: lines, one after the other. Definitions only.
use Rattle.std.specs.Prelude.{Option, Some, None, ◌≢◌, List, [], ◌∷◌, ◌++◌, ℕ, ◌+◌, take, replicate}
use Rattle.base.specs.Cases.{if_lt}
use Rattle.base.specs.Lists.{Every}
use Rattle.call_outcomes.specs.Kind.{clear}
use Rattle.call_outcomes.specs.Returns.{returned}
use Rattle.call_outcomes.specs.Outcome.{outcome}
use Rattle.call_outcomes.specs.PlainCalls.{Call, insert, delete, read, place, check}
use Rattle.call_outcomes.specs.Plain.{plain}
use Rattle.call_outcomes.specs.Clubs.{clubs}
use Rattle.call_history.specs.History.{Sent}
use Rattle.frame_lines.specs.declared.Frame.{Frame}
use Rattle.frame_lines.specs.declared.Frame.TheVariants.{Insert, Delete, Read, Tape, Print, Clear, Place}
use Rattle.frame_lines.specs.Frame.{frame_of}
use Rattle.frame_tape.specs.Tape.{most_waiting, line_words}
use Rattle.frame_replies.specs.Reply.{Reply, brief, entries, placed, sheet, leaf}
use Rattle.frame_answers.specs.Step.{Kept, answer_to, kept_by}

-- The words that wait.
abbrev pub waiting_words : Kept → List ℕ
waiting_words k = take k.waiting k.tape

-- The call that a frame asks; a tape line asks none, and neither does a line that is no frame.
unfoldable pub call_by : Option Frame → List Call
call_by (Some (Insert rank entry)) = insert rank entry ∷ []
call_by (Some (Delete rank)) = delete rank ∷ []
call_by (Some (Read first last)) = read first last 64 ∷ []
call_by (Some (Tape words)) = []
call_by (Some Print) = check ∷ []
call_by (Some Clear) = clear ∷ []
call_by (Some (Place rank)) = place rank ∷ []
call_by None = []

-- The same as it is made then, with the words that wait.
unfoldable pub sent_by : Option Frame → Kept → List (Sent Call)
sent_by (Some (Insert rank entry)) k = record { call = insert rank entry; tape = waiting_words k; output = [] } ∷ []
sent_by (Some (Delete rank)) k = record { call = delete rank; tape = waiting_words k; output = [] } ∷ []
sent_by (Some (Read first last)) k = record { call = read first last 64; tape = []; output = replicate 64 0 } ∷ []
sent_by (Some (Tape words)) k = []
sent_by (Some Print) k = record { call = check; tape = []; output = [] } ∷ []
sent_by (Some Clear) k = record { call = clear; tape = []; output = [] } ∷ []
sent_by (Some (Place rank)) k = record { call = place rank; tape = []; output = [] } ∷ []
sent_by None k = []

-- The words that a line brings: none where too many would wait.
unfoldable pub brought_by : Option Frame → List ℕ → Kept → List ℕ
brought_by (Some (Insert rank entry)) line k = []
brought_by (Some (Delete rank)) line k = []
brought_by (Some (Read first last)) line k = []
brought_by (Some (Tape words)) line k = if_lt most_waiting (k.waiting + words) [] (line_words line 0 words)
brought_by (Some Print) line k = []
brought_by (Some Clear) line k = []
brought_by (Some (Place rank)) line k = []
brought_by None line k = []

-- The words that the call of a frame reads: so many of those that wait as it returns; none where it is refused.
unfoldable pub read_by : Option Frame → Kept → List ℕ
read_by (Some (Insert rank entry)) k = take (returned (outcome (plain clubs) (insert rank entry) (waiting_words k) k.store []).answer).second (waiting_words k)
read_by (Some (Delete rank)) k = take (returned (outcome (plain clubs) (delete rank) (waiting_words k) k.store []).answer).second (waiting_words k)
read_by (Some (Read first last)) k = []
read_by (Some (Tape words)) k = []
read_by (Some Print) k = []
read_by (Some Clear) k = []
read_by (Some (Place rank)) k = []
read_by None k = []

-- The calls of a session, by its lines alone.
unfoldable pub calls_in : List (List ℕ) → List Call
calls_in [] = []
calls_in (line ∷ lines) = call_by (frame_of line) ++ calls_in lines

-- The calls of a session as they are made, and the words that its lines bring and its calls read, in order.
unfoldable pub sent_over : List (List ℕ) → Kept → List (Sent Call)
sent_over [] k = []
sent_over (line ∷ lines) k = sent_by (frame_of line) k ++ sent_over lines (kept_by line k)

unfoldable pub brought_over : List (List ℕ) → Kept → List ℕ
brought_over [] k = []
brought_over (line ∷ lines) k = brought_by (frame_of line) line k ++ brought_over lines (kept_by line k)

unfoldable pub read_over : List (List ℕ) → Kept → List ℕ
read_over [] k = []
read_over (line ∷ lines) k = read_by (frame_of line) k ++ read_over lines (kept_by line k)

-- ---- answers

-- The number that a line of an answer gives: that of the cause, or 0.
unfoldable pub number_of : Reply → ℕ
number_of (brief kind number n) = number
number_of (entries n list) = 0
number_of (placed n place sum boats) = 0
number_of (sheet m n) = 0
number_of (leaf number count slots) = 0

-- No answer of a session has 07.
unfoldable pub NoneSays07 : List (List ℕ) → Kept → Type 0
NoneSays07 [] k = Unit {0}
NoneSays07 (line ∷ lines) k = Every (λ reply. number_of reply ≢ 7) (answer_to (frame_of line) line k).replies × NoneSays07 lines (kept_by line k)
