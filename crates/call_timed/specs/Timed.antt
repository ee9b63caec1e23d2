-- Timed sheets (document 02, F-1), for any capacity: a plain sheet whose entries rise, with the balance entries in a further slice.
-- Definitions only.
use Rattle.std.specs.Prelude.{Result, Bool, true, false, List, [], ◌≡◌, ℕ, eqb, leb, length}
use Rattle.std.proofs.Math.Option.{Option, none}
use Rattle.tree_rules.specs.Tree.{Shape}
use Rattle.store_layout.specs.declared.Capacity.{Capacity}
use Rattle.store_layout.specs.Decode.{numbered}
use Rattle.store_keys.specs.Key.{key, Rises, rises, rank_of, present}
use Rattle.store_balance.specs.Balance.{lay_balance}
use Rattle.call_outcomes.specs.declared.Cause.{Cause}
use Rattle.call_outcomes.specs.declared.Cause.TheVariants.{NotTimed, EntryZero, EntryPresent, Full}
use Rattle.call_outcomes.specs.declared.Answer.{Answer}
use Rattle.call_outcomes.specs.declared.Answer.TheVariants.{Present, Absent}
use Rattle.call_outcomes.specs.Kind.{View, Calls, CallOf, change, ask, Kind}
use Rattle.call_outcomes.specs.Causes.{first_of}
use Rattle.call_outcomes.specs.Outcome.{Outcome}
use Rattle.call_outcomes.specs.PlainCalls.{PlainChange, insert_at, delete_at, change_cause, edit_of, Question, read_ranks, place_of, count_of, board_of, question_cause, reply_to, written_for, plain_calls}
use Rattle.call_outcomes.specs.Untallied.{IsList}
use Rattle.call_outcomes.specs.Slice.{Slice, Sliced, equal_with, with_slice}
use Rattle.call_outcomes.specs.Plain.{plain_view, PlainStore, PlainLengths, equal_plain, plain_store_of}

-- ---- the store

-- A list that a timed sheet can hold: one of a plain sheet, which rises.
pub record IsTimedList (cap : Capacity) (list : List ℕ) : Type 0 where
  pub plain : IsList cap list
  pub rising : Rises list

-- The balance entries as a further slice of a plain sheet: as long as the counts, on sheets whose lists rise; a wrong one, or a list that does
-- not rise, is cause 11.
abbrev pub balance_slice : Capacity → Slice
balance_slice cap = record {
  IsList = IsTimedList cap;
  is_list = rises;
  room = cap.counts;
  lay = lay_balance cap.counts;
  cause = NotTimed;
}

abbrev pub timed_view : Capacity → View
timed_view cap = with_slice (plain_view cap) (balance_slice cap)

abbrev pub TimedStore : Type 0
TimedStore = Sliced PlainStore

-- The four slices have the right lengths.
pub record TimedLengths (cap : Capacity) (store : TimedStore) : Type 0 where
  pub plain : PlainLengths cap store.sheet
  pub balance : length store.slice ≡ cap.counts

-- The timed sheet of a list with a shape; and whether every slot, every count, every tally and every balance entry of two stores are the same.
abbrev pub lay_timed : Capacity → List ℕ → Shape → TimedStore
lay_timed cap = (timed_view cap).lay

abbrev pub equal_timed : TimedStore → TimedStore → Bool
equal_timed = equal_with equal_plain

-- ---- insert by entry, and delete by rank

pub data TimedChange : Type 0 where
  insert_entry : (entry : ℕ) → TimedChange
  delete_rank : (rank : ℕ) → TimedChange

-- The change of a plain sheet with this list that it is: an entry comes in at the rank of its key.
unfoldable pub plainly : TimedChange → List ℕ → PlainChange
plainly (insert_entry e) list = insert_at (rank_of (key e) list) e
plainly (delete_rank i) list = delete_at i

-- The causes 3, 10 and 5 of an insert, and the cause 4 of a delete, where there is room for `entries`.
unfoldable pub timed_change_cause : ℕ → TimedChange → List ℕ → Option Cause
timed_change_cause entries (insert_entry e) list =
    first_of (eqb (key e) 0) EntryZero (first_of (present (key e) list) EntryPresent (first_of (leb entries (length list)) Full none))
timed_change_cause entries (delete_rank i) list = change_cause entries (delete_at i) (length list)

-- ---- find, and the questions about a plain sheet

pub data TimedQuestion : Type 0 where
  find_entry : (entry : ℕ) → TimedQuestion
  as_plain : Question → TimedQuestion

-- The cause 3 of a find; and those of a plain sheet.
unfoldable pub timed_question_cause : TimedQuestion → List ℕ → Option Cause
timed_question_cause (find_entry e) list = first_of (eqb (key e) 0) EntryZero none
timed_question_cause (as_plain q) list = question_cause q (length list)

-- The rank of an entry with this key, or that there is none, with the rank at which it would stand.
unfoldable pub found_at : Bool → ℕ → Answer
found_at true rank = Present rank
found_at false rank = Absent rank

unfoldable pub timed_reply : TimedQuestion → List ℕ → Answer
timed_reply (find_entry e) list = found_at (present (key e) list) (rank_of (key e) list)
timed_reply (as_plain q) list = reply_to q list

unfoldable pub timed_written : TimedQuestion → List ℕ → List ℕ
timed_written (find_entry e) list = []
timed_written (as_plain q) list = written_for q list

-- ---- the kind

abbrev pub timed_calls : ℕ → Calls
timed_calls entries = record {
  ChangeCall = TimedChange;
  Question = TimedQuestion;
  change_cause = timed_change_cause entries;
  edit = λ c list. edit_of (plainly c list);
  question_cause = timed_question_cause;
  reply = timed_reply;
  written = timed_written;
}

abbrev pub timed : Capacity → Kind
timed cap = record { view = timed_view cap; calls = timed_calls cap.entries }

-- Timed sheets with the calls of plain ones: an entry comes in at a rank that is given. What a timed change comes to is said by these.
abbrev pub ranked : Capacity → Kind
ranked cap = record { view = timed_view cap; calls = plain_calls cap.entries }

-- The eight calls; clear is the one of every kind.
abbrev pub TimedCall : Type 0
TimedCall = CallOf TimedChange TimedQuestion

abbrev pub insert : ℕ → TimedCall
insert entry = change (insert_entry entry)

abbrev pub delete : ℕ → TimedCall
delete rank = change (delete_rank rank)

abbrev pub find : ℕ → TimedCall
find entry = ask (find_entry entry)

abbrev pub read : ℕ → ℕ → ℕ → TimedCall
read first last room = ask (as_plain (read_ranks first last room))

abbrev pub place : ℕ → TimedCall
place rank = ask (as_plain (place_of rank))

abbrev pub check : TimedCall
check = ask (as_plain count_of)

abbrev pub board : List ℕ → ℕ → TimedCall
board ranks room = ask (as_plain (board_of ranks room))

-- ---- the slices

-- The four lent slices as a store.
abbrev pub timed_store_of : List ℕ → List ℕ → List ℕ → List ℕ → TimedStore
timed_store_of slots counts tallies balance = record { sheet = plain_store_of slots counts tallies; slice = balance }

-- The counts of a timed store by range number.
abbrev pub timed_numbers : TimedStore → List ℕ
timed_numbers store = numbered store.sheet.sheet

-- What a call leaves in the slices that it was lent.
abbrev pub timed_outcome_of : Result Answer Cause → List ℕ → List ℕ → List ℕ → List ℕ → List ℕ → Outcome TimedStore
timed_outcome_of answer slots counts tallies balance output = record {
  answer = answer;
  store = timed_store_of slots counts tallies balance;
  output = output;
}
