-- What a call of a plain sheet that no cause refuses is given.
use Rattle.std.specs.Prelude.{◌≡◌, refl, false, ◌||◌, ℕ, suc, ◌+◌, ◌-◌, ◌≤◌, ◌<◌, eqb, leb, ltb, length, take}
use mathlib.Core.List.{List, [], ◌∷◌, flatten}
use Rattle.std.proofs.Math.Option.{none}
use Rattle.std.proofs.Common.{arith, drop-cons}
use borrow.Author.Tests.{eqb-false, leb-false, ltb-false}
use Rattle.base.specs.BoolLaws.{neither}
use Rattle.base.specs.Lists.{Every}
use Rattle.base.specs.ListLaws.{every_append, every_take, every_drop}
use Rattle.tree_rules.specs.declared.Change.{Change}
use Rattle.tree_rules.specs.declared.Change.TheVariants.{Insert, Delete}
use Rattle.tree_rules.specs.Compare.{count_after}
use Rattle.tree_rules.specs.Rules.{InReach}
use Rattle.tree_rules.specs.ChangeList.{change_list}
use Rattle.store_layout.specs.declared.Capacity.{Capacity}
use Rattle.store_board.specs.Board.{falls, some_from, entries_at}
use Rattle.call_outcomes.specs.declared.Cause.TheVariants.{BoardRanks, EntryZero, Rank, Full, OutputShort}
use Rattle.call_outcomes.specs.Kind.{View, applied}
use Rattle.call_outcomes.specs.Causes.{first_of}
use Rattle.call_outcomes.specs.PlainCalls.{PlainChange, insert_at, delete_at, plain_change, change_cause, edit_of, Question, read_ranks, place_of, board_of, question_cause, written_for, AsPlain, plain_calls}
use Rattle.call_outcomes.specs.DecisionLaws.{first_none}

-- ---- insert and delete

module _ (cap : Capacity) where
  -- A change that no cause refuses: its rank is in reach, there is room, and an entry that comes in is not zero.
  pub change_within : (c : PlainChange) (n : ℕ) → n ≤ cap.entries → change_cause cap.entries c n ≡ none
      → InReach (edit_of c).change n × (count_after (edit_of c).change n ≤ cap.entries)
  unfolding change_cause edit_of InReach count_after
  change_within (insert_at i e) n few free =
      let rank = first_none (ltb n i) Rank _ (first_none (eqb e 0) EntryZero _ free).1 in
      (ltb-false n i rank.0, leb-false cap.entries n (first_none (leb cap.entries n) Full none rank.1).0)
  change_within (delete_at i) n few free = (leb-false n i (first_none (leb n i) Rank none free).0, omega arith)

  pub entries_positive : (c : PlainChange) (list : List ℕ) → Every (λ e. 0 < e) list → change_cause cap.entries c (length list) ≡ none
      → Every (λ e. 0 < e) (applied (edit_of c) list)
  unfolding change_cause edit_of applied change_list Every
  entries_positive (insert_at i e) list p free =
      every_append (λ e. 0 < e) (take i list) _ (every_take (λ e. 0 < e) i list p)
      (omega (arith, eqb-false e 0 (first_none (eqb e 0) EntryZero _ free).0), every_drop (λ e. 0 < e) i list p)
  entries_positive (delete_at i) list p free =
      every_append (λ e. 0 < e) (take i list) _ (every_take (λ e. 0 < e) i list p) (every_drop (λ e. 0 < e) (suc i) list p)

-- The edit of the call that makes a change.
pub edit_change : (change : Change) (e : ℕ) → (edit_of (plain_change change e)).change ≡ change
unfolding edit_of
edit_change (Insert i) e = refl
edit_change (Delete i) e = refl

pub edit_list : (change : Change) (e : ℕ) (list : List ℕ) → applied (edit_of (plain_change change e)) list ≡ change_list change e list
unfolding edit_of applied change_list
edit_list (Insert i) e list = refl
edit_list (Delete i) e list = refl

-- ---- read and place

-- The ranks of a read stand, and there is room for their entries.
pub read_within : (first last room n : ℕ) → question_cause (read_ranks first last room) n ≡ none
    → (first ≤ last) × (last < n) × (last - first + 1 ≤ room)
unfolding question_cause
read_within first last room n free =
    let count = last - first + 1 in
    let ranks = first_none (leb n first || leb n last || ltb last first) Rank (first_of (ltb room count) OutputShort none) free in
    let last_two = neither (leb n first || leb n last) (ltb last first) ranks.0 in
    let first_two = neither (leb n first) (leb n last) last_two.0 in
    (ltb-false last first last_two.1, leb-false n last first_two.1, ltb-false room count (first_none (ltb room count) OutputShort none ranks.1).0)

pub place_within : (i n : ℕ) → question_cause (place_of i) n ≡ none → i < n
unfolding question_cause
place_within i n free = leb-false n i (first_none (leb n i) Rank none free).0

-- The ranks of a board do not fall and have entries, and there is room for these.
pub record BoardWithin (ranks : List ℕ) (room n : ℕ) : Type 0 where
  pub few : length ranks ≤ 64
  pub in_order : falls ranks ≡ false
  pub inside : some_from n ranks ≡ false
  pub enough : length ranks ≤ room

pub board_within : (ranks : List ℕ) (room n : ℕ) → question_cause (board_of ranks room) n ≡ none → BoardWithin ranks room n
unfolding question_cause
board_within ranks room n free =
    let wrong = first_none (ltb 64 (length ranks) || falls ranks) BoardRanks _ free in
    let both = neither (ltb 64 (length ranks)) (falls ranks) wrong.0 in
    let rank = first_none (some_from n ranks) Rank _ wrong.1 in
    record {
      few = ltb-false 64 (length ranks) both.0;
      in_order = both.1;
      inside = rank.0;
      enough = ltb-false room (length ranks) (first_none (ltb room (length ranks)) OutputShort none rank.1).0;
    }

-- What a board has for each rank is the entry at the rank.
pub board_written : (ranks : List ℕ) (room : ℕ) (list : List ℕ) → some_from (length list) ranks ≡ false
    → written_for (board_of ranks room) list ≡ entries_at list ranks
unfolding written_for some_from flatten
board_written [] room list h = refl
board_written (rank ∷ ranks) room list h =
    let both = neither (leb (length list) rank) (some_from (length list) ranks) h in
    let one : rank - rank + 1 ≡ 1 = omega arith in
    rw (one, drop-cons list rank 0 (leb-false (length list) rank both.0), board_written ranks room list both.1)

-- Every question of a kind with the calls of plain sheets is itself.
pub plain_itself : (view : View) (entries : ℕ) (q : Question) → AsPlain (record { view = view; calls = plain_calls entries }) q q
plain_itself view entries q = record { causes = λ list. refl; reply = λ list. refl; written = λ list. refl }
