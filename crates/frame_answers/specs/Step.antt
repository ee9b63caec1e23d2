-- What the program answers to a line, and what it keeps (document 01, "Frames"). Definitions only.
use Rattle.std.specs.Prelude.{Option, Some, None, ◌≡◌, List, [], ◌∷◌, ◌++◌, ℕ, zero, suc, ◌+◌, ◌-◌, ◌*◌, ◌^◌, ◌≤◌, length, get_or, take, drop, replicate}
use Rattle.base.specs.Cases.{if_eq, if_lt}
use Rattle.tree_sizes.specs.Sizes.{height, leaf_slots}
use Rattle.store_layout.specs.Layout.{Store}
use Rattle.store_layout.specs.Decode.{numbered}
use Rattle.call_outcomes.specs.declared.Cause.{Cause}
use Rattle.call_outcomes.specs.declared.Cause.TheVariants as cause
use Rattle.call_outcomes.specs.declared.Returned.{Returned}
use Rattle.call_outcomes.specs.Returns.{cause_number, returned}
use Rattle.call_outcomes.specs.Kind.{clear}
use Rattle.call_outcomes.specs.Outcome.{Outcome, outcome}
use Rattle.call_outcomes.specs.PlainCalls.{insert, delete, read, place, check}
use Rattle.call_outcomes.specs.Plain.{plain, PlainStore}
use Rattle.call_outcomes.specs.Clubs.{clubs, zeros}
use Rattle.frame_lines.specs.declared.Frame.{Frame}
use Rattle.frame_lines.specs.declared.Frame.TheVariants.{Insert, Delete, Read, Tape, Print, Clear, Place}
use Rattle.frame_lines.specs.Frame.{frame_of}
use Rattle.frame_tape.specs.Tape.{most_waiting, read_off, line_words}
use Rattle.frame_replies.specs.Reply.{Reply, brief, entries, placed, sheet, leaf, bytes_of}

-- What the program keeps between two lines: the store, and the tape, of whose words the first `waiting` wait, the oldest first.
pub record Kept : Type 0 where
  pub store : PlainStore
  pub tape : List ℕ
  pub waiting : ℕ

-- The tape has room for the words that may wait, and no more wait.
pub record TapeReady (k : Kept) : Type 0 where
  pub room : length k.tape ≡ most_waiting
  pub few : k.waiting ≤ most_waiting

-- What the program starts with: the empty sheet, and a tape of which no word waits.
unfoldable pub at_start : Kept
at_start = record { store = zeros; tape = replicate most_waiting 0; waiting = 0 }

-- The lines that answer a line, and what is kept after it.
pub record Answered : Type 0 where
  pub replies : List Reply
  pub kept : Kept

-- N: count 1 of a sheet is the number of its entries.
unfoldable pub entry_count : PlainStore → ℕ
entry_count store = get_or store.sheet.counts 1 0

-- One line answers, and everything is kept.
unfoldable pub keeping : Kept → Reply → Answered
keeping k reply = record { replies = reply ∷ []; kept = k }

-- A line that is refused by a cause of the program's own.
unfoldable pub refusal : ℕ → Cause → PlainStore → Reply
refusal kind c store = brief kind (cause_number c) (entry_count store)

-- ---- insert and delete

-- The answer to a call that reads words; a refused one has read none.
unfoldable pub changed_by : ℕ → Kept → Returned → PlainStore → Answered
changed_by kind k back store = record {
  replies = brief kind back.number (entry_count store) ∷ [];
  kept = record { store = store; tape = read_off back.second k.tape; waiting = k.waiting - back.second };
}

unfoldable pub changed : ℕ → Kept → Outcome PlainStore → Answered
changed kind k o = changed_by kind k (returned o.answer) o.store

-- ---- read, place and clear

unfoldable pub read_reply : Returned → ℕ → List ℕ → Reply
read_reply back n output = if_eq back.number 0 (entries n (take back.first output)) (brief 131 back.number n)

unfoldable pub read_line : Outcome PlainStore → PlainStore → Reply
read_line o store = read_reply (returned o.answer) (entry_count store) o.output

unfoldable pub place_reply : Returned → ℕ → Reply
place_reply back n = if_eq back.number 0 (placed n back.first back.second back.third) (brief 135 back.number n)

unfoldable pub place_line : Outcome PlainStore → PlainStore → Reply
place_line o store = place_reply (returned o.answer) (entry_count store)

unfoldable pub clear_line : Outcome PlainStore → Reply
clear_line o = brief 134 (returned o.answer).number (entry_count o.store)

unfoldable pub cleared : Kept → Outcome PlainStore → Answered
cleared k o = record {
  replies = clear_line o ∷ [];
  kept = record { store = o.store; tape = k.tape; waiting = k.waiting };
}

-- ---- tape

-- The words of the line wait behind the others, unless too many would wait (cause 9).
unfoldable pub taped : List ℕ → ℕ → Kept → Answered
taped line words k =
    if_lt most_waiting (k.waiting + words) (keeping k (refusal 132 cause.TapeFull k.store))
    (record {
      replies = brief 132 0 (entry_count k.store) ∷ [];
      kept = record {
        store = k.store;
        tape = take k.waiting k.tape ++ (line_words line 0 words ++ drop (k.waiting + words) k.tape);
        waiting = k.waiting + words;
      };
    })

-- ---- print

-- The line of leaf j, of s slots, from the slots and the counts by range number. Its range has the number first + j.
unfoldable pub leaf_reply : List ℕ → List ℕ → ℕ → ℕ → ℕ → Reply
leaf_reply slots counts s first j = leaf j (get_or counts (first + j) 0) (take s (drop (j * s) slots))

-- The lines of the leaves j to j + k - 1.
unfoldable pub leaf_replies : List ℕ → List ℕ → ℕ → ℕ → ℕ → ℕ → List Reply
leaf_replies slots counts s first j zero = []
leaf_replies slots counts s first j (suc k) = leaf_reply slots counts s first j ∷ leaf_replies slots counts s first (suc j) k

-- The number of leaves that are printed: none of an empty sheet.
unfoldable pub leaves_of : ℕ → ℕ
leaves_of m = if_eq m 0 0 (2 ^ height m)

-- The lines 90 and 91. Count 0 is the size parameter M, and count 1 the number of entries.
unfoldable pub sheet_replies : Store → List Reply
sheet_replies store =
    let m = get_or store.counts 0 0 in
    sheet m (get_or store.counts 1 0) ∷ leaf_replies store.slots (numbered store) (leaf_slots m) (2 ^ height m) 0 (leaves_of m)

-- The answer, and the lines of the sheet where the store is one. Its tallies are not printed.
unfoldable pub print_replies : ℕ → PlainStore → List Reply
print_replies number store = brief 133 number (entry_count store) ∷ if_eq number 0 (sheet_replies store.sheet) []

unfoldable pub print_lines : Outcome PlainStore → PlainStore → List Reply
print_lines o store = print_replies (returned o.answer).number store

-- ---- a frame, and a line

-- What a frame is answered by. The first byte of an answer is the frame's plus 80 in hexadecimal: 129 to 135; 255 and cause 8 answer
-- a line that is no frame. A read has room for 64 entries.
unfoldable pub answer_to : Option Frame → List ℕ → Kept → Answered
answer_to (Some (Insert rank entry)) line k = changed 129 k (outcome (plain clubs) (insert rank entry) (take k.waiting k.tape) k.store [])
answer_to (Some (Delete rank)) line k = changed 130 k (outcome (plain clubs) (delete rank) (take k.waiting k.tape) k.store [])
answer_to (Some (Read first last)) line k =
    keeping k (read_line (outcome (plain clubs) (read first last 64) [] k.store (replicate 64 0)) k.store)
answer_to (Some (Tape words)) line k = taped line words k
answer_to (Some Print) line k =
    record { replies = print_lines (outcome (plain clubs) check [] k.store []) k.store; kept = k }
answer_to (Some Clear) line k = cleared k (outcome (plain clubs) clear [] k.store [])
answer_to (Some (Place rank)) line k =
    keeping k (place_line (outcome (plain clubs) (place rank) [] k.store []) k.store)
answer_to None line k = keeping k (refusal 255 cause.NoFrame k.store)

-- What is kept after a line.
abbrev pub kept_by : List ℕ → Kept → Kept
kept_by line k = (answer_to (frame_of line) line k).kept

-- What lines, one after the other, are answered by, and what is kept after them.
unfoldable pub answers_to : List (List ℕ) → Kept → List ℕ
answers_to [] k = []
answers_to (line ∷ lines) k =
    let a = answer_to (frame_of line) line k in
    bytes_of a.replies ++ answers_to lines a.kept

unfoldable pub kept_after : List (List ℕ) → Kept → Kept
kept_after [] k = k
kept_after (line ∷ lines) k = kept_after lines (kept_by line k)

-- The length of the longest answer: a print of 128 leaves of 33 slots.
abbrev pub longest : ℕ
longest = 69012

-- What a step leaves: the number of bytes at the front of the output, what is kept, and the output.
pub record Step : Type 0 where
  pub bytes : ℕ
  pub kept : Kept
  pub output : List ℕ

unfoldable pub handed : Answered → List ℕ → Step
handed a output = record {
  bytes = length (bytes_of a.replies);
  kept = a.kept;
  output = bytes_of a.replies ++ drop (length (bytes_of a.replies)) output;
}

-- One step on a line without its LF. Where the output is too short for the longest answer, the tape has not room for the words that may
-- wait, or more than these are said to wait, there is no answer and nothing changes.
unfoldable pub step_of : List ℕ → Kept → List ℕ → Step
step_of line k output =
    let nothing : Step = record { bytes = 0; kept = k; output = output } in
    if_lt (length output) longest nothing
    (if_eq (length k.tape) most_waiting
    (if_lt most_waiting k.waiting nothing (handed (answer_to (frame_of line) line k) output))
    nothing)
