-- The calls of plain sheets, the clear of every kind apart: insert, delete, read, place and check (document 01), and board (document 02, F-9).
-- Definitions only.
use Rattle.std.specs.Prelude.{◌||◌, ◌≡◌, ℕ, ◌+◌, ◌-◌, eqb, leb, ltb, length, take, drop}
use mathlib.Core.List.{List, [], map, flatten}
use Rattle.std.proofs.Math.Option.{Option, none}
use Rattle.tree_rules.specs.declared.Change.{Change}
use Rattle.tree_rules.specs.declared.Change.TheVariants.{Insert, Delete}
use Rattle.store_board.specs.Board.{falls, some_from}
use Rattle.store_ties.specs.declared.Placing.{Placing}
use Rattle.store_ties.specs.Ties.{placing_in}
use Rattle.call_outcomes.specs.declared.Cause.{Cause}
use Rattle.call_outcomes.specs.declared.Cause.TheVariants.{BoardRanks, EntryZero, Rank, Full, OutputShort}
use Rattle.call_outcomes.specs.declared.Answer.{Answer}
use Rattle.call_outcomes.specs.declared.Answer.TheVariants.{Entries, Placed, Checked}
use Rattle.call_outcomes.specs.Kind.{Edit, Calls, CallOf, change, ask, Kind}
use Rattle.call_outcomes.specs.Causes.{first_of}

-- ---- insert and delete

pub data PlainChange : Type 0 where
  insert_at : (rank entry : ℕ) → PlainChange
  delete_at : (rank : ℕ) → PlainChange

-- The one that changes the list so; the entry is that of an insert.
abbrev pub plain_change : Change → ℕ → PlainChange
plain_change (Insert i) e = insert_at i e
plain_change (Delete i) e = delete_at i

-- The causes 3 to 5, where there are N entries, and room for `entries`.
unfoldable pub change_cause : ℕ → PlainChange → ℕ → Option Cause
change_cause entries (insert_at i e) N = first_of (eqb e 0) EntryZero (first_of (ltb N i) Rank (first_of (leb entries N) Full none))
change_cause entries (delete_at i) N = first_of (leb N i) Rank none

unfoldable pub edit_of : PlainChange → Edit
edit_of (insert_at i e) = record { change = Insert i; entry = e }
edit_of (delete_at i) = record { change = Delete i; entry = 0 }

-- ---- read, place, check and board

-- A read, and a board of ranks, has the length of the output that it is lent.
pub data Question : Type 0 where
  read_ranks : (first last room : ℕ) → Question
  place_of : (rank : ℕ) → Question
  count_of : Question
  board_of : (ranks : List ℕ) (room : ℕ) → Question

-- The causes 16, 4 and 6, where there are N entries: a board has at most 64 ranks, which do not fall.
unfoldable pub question_cause : Question → ℕ → Option Cause
question_cause (read_ranks first last room) N =
    first_of (leb N first || leb N last || ltb last first) Rank (first_of (ltb room (last - first + 1)) OutputShort none)
question_cause (place_of i) N = first_of (leb N i) Rank none
question_cause count_of N = none
question_cause (board_of ranks room) N =
    first_of (ltb 64 (length ranks) || falls ranks) BoardRanks (first_of (some_from N ranks) Rank (first_of (ltb room (length ranks)) OutputShort none))

-- A place is that of the tied group.
abbrev pub placed : Placing → Answer
placed p = Placed p.place p.sum p.boats

unfoldable pub reply_to : Question → List ℕ → Answer
reply_to (read_ranks first last room) list = Entries (last - first + 1)
reply_to (place_of i) list = placed (placing_in list i)
reply_to count_of list = Checked (length list)
reply_to (board_of ranks room) list = Entries (length ranks)

-- The entries of the ranks first to last.
abbrev pub rank_entries : ℕ → ℕ → List ℕ → List ℕ
rank_entries first last list = take (last - first + 1) (drop first list)

-- A board has for each rank what a read of this rank alone has.
unfoldable pub written_for : Question → List ℕ → List ℕ
written_for (read_ranks first last room) list = rank_entries first last list
written_for (place_of i) list = []
written_for count_of list = []
written_for (board_of ranks room) list = flatten (map (λ rank. rank_entries rank rank list) ranks)

-- A question of any kind of sheet that is the question p of a plain one: by the list the same causes, answer and entries written.
pub record AsPlain (kind : Kind) (q : kind.calls.Question) (p : Question) : Type 0 where
  pub causes : (list : List ℕ) → kind.calls.question_cause q list ≡ question_cause p (length list)
  pub reply : (list : List ℕ) → kind.calls.reply q list ≡ reply_to p list
  pub written : (list : List ℕ) → kind.calls.written q list ≡ written_for p list

-- ---- the calls together

abbrev pub plain_calls : ℕ → Calls
plain_calls entries = record {
  ChangeCall = PlainChange;
  Question = Question;
  change_cause = λ c list. change_cause entries c (length list);
  edit = λ c list. edit_of c;
  question_cause = λ q list. question_cause q (length list);
  reply = reply_to;
  written = written_for;
}

-- The seven calls; clear is the one of every kind.
abbrev pub Call : Type 0
Call = CallOf PlainChange Question

abbrev pub insert : ℕ → ℕ → Call
insert rank entry = change (insert_at rank entry)

abbrev pub delete : ℕ → Call
delete rank = change (delete_at rank)

abbrev pub read : ℕ → ℕ → ℕ → Call
read first last room = ask (read_ranks first last room)

abbrev pub place : ℕ → Call
place rank = ask (place_of rank)

abbrev pub check : Call
check = ask count_of

abbrev pub board : List ℕ → ℕ → Call
board ranks room = ask (board_of ranks room)

-- The call that makes a change of the list; the entry is that of an insert.
abbrev pub changing : Change → ℕ → Call
changing by e = change (plain_change by e)
