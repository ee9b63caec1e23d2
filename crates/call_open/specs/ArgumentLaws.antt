-- The causes of the arguments, test by test, for what a store was found to hold.
use Rattle.std.specs.Prelude.{Result, Ok, Err, ◌≡◌, true, false, ◌||◌, List, ◌≢◌, ℕ, ◌+◌, ◌-◌, ◌≤◌, ◌<◌, leb, ltb, length}
use Rattle.std.proofs.Math.Path.{refl}
use Rattle.std.proofs.Common.{◌∙◌}
use Rattle.std.proofs.Math.Bool.{or-true}
use Rattle.std.proofs.Math.Option.{Option, some, none}
use borrow.Author.Tests.{lt-ltb, le-ltb, le-leb, lt-leb, eq-eqb, ne_eqb}
use Rattle.tree_rules.specs.declared.Change.{Change}
use Rattle.tree_rules.specs.declared.Change.TheVariants.{Insert, Delete}
use Rattle.store_board.specs.Board.{falls, some_from}
use Rattle.call_outcomes.specs.declared.Cause.{Cause}
use Rattle.call_outcomes.specs.declared.Cause.TheVariants.{BoardRanks, EntryZero, Rank, Full, OutputShort}
use Rattle.call_outcomes.specs.Causes.{first_of}
use Rattle.call_outcomes.specs.PlainCalls.{insert_at, delete_at, plain_change, change_cause, read_ranks, place_of, count_of, board_of, question_cause}
use Rattle.call_open.specs.declared.Opened.{Opened}
use Rattle.call_open.specs.Opening.{admitted_by, admitted}

-- ---- a change: a delete asks for the same rank as a place

module _ {change : Change} {r : Result Opened Cause} (entries : ℕ) (o : Result Opened Cause) (i e : ℕ) where
  pub change_insert : change ≡ Insert i → r ≡ admitted (change_cause entries (insert_at i e)) o → r ≡ admitted (change_cause entries (plain_change change e)) o
  change_insert is h = h ∙ rw is

  pub change_delete : change ≡ Delete i → r ≡ admitted (question_cause (place_of i)) o → r ≡ admitted (change_cause entries (plain_change change e)) o
  unfolding admitted change_cause question_cause
  change_delete is h = h ∙ same o ∙ rw is
    where
      same : (x : Result Opened Cause) → admitted (question_cause (place_of i)) x ≡ admitted (change_cause entries (delete_at i)) x
      same (Ok sheet) = refl
      same (Err cause) = refl

-- ---- a check asks for nothing

pub admitted_check : (o : Result Opened Cause) → o ≡ admitted (question_cause count_of) o
unfolding admitted admitted_by question_cause
admitted_check (Ok sheet) = refl
admitted_check (Err cause) = refl

module _ {o : Result Opened Cause} where
  pub still_refused : (causes : ℕ → Option Cause) {cause : Cause} → o ≡ Err cause → Err cause ≡ admitted causes o
  unfolding admitted
  still_refused causes e = rw e

  module _ {sheet : Opened} (found : o ≡ Ok sheet) where
    abbrev n : ℕ
    n = sheet.n

    refused_by : (causes : ℕ → Option Cause) (cause : Cause) → causes n ≡ some cause → Err cause ≡ admitted causes o
    unfolding admitted admitted_by
    refused_by causes cause h = rw (found, h)

    admitted_by_lem : (causes : ℕ → Option Cause) → causes n ≡ none → Ok sheet ≡ admitted causes o
    unfolding admitted admitted_by
    admitted_by_lem causes h = rw (found, h)

    -- ---- a place

    module _ (i : ℕ) where
      pub rank_refused : n ≤ i → Err Rank ≡ admitted (question_cause (place_of i)) o
      unfolding question_cause first_of
      rank_refused h = refused_by (question_cause (place_of i)) Rank (rw (le-leb n i h))

      pub rank_admitted : i < n → Ok sheet ≡ admitted (question_cause (place_of i)) o
      unfolding question_cause first_of
      rank_admitted h = admitted_by_lem (question_cause (place_of i)) (rw (lt-leb n i h))

    -- ---- an insert

    module _ (entries i e : ℕ) where
      abbrev inserting : ℕ → Option Cause
      inserting = change_cause entries (insert_at i e)

      pub insert_zero : e ≡ 0 → Err EntryZero ≡ admitted inserting o
      unfolding change_cause first_of
      insert_zero h = refused_by inserting EntryZero (rw (eq-eqb e 0 h))

      pub insert_rank : e ≢ 0 → n < i → Err Rank ≡ admitted inserting o
      unfolding change_cause first_of
      insert_rank entry h = refused_by inserting Rank (rw (ne_eqb e 0 entry, lt-ltb n i h))

      pub insert_full : e ≢ 0 → i ≤ n → entries ≤ n → Err Full ≡ admitted inserting o
      unfolding change_cause first_of
      insert_full entry rank h = refused_by inserting Full (rw (ne_eqb e 0 entry, le-ltb n i rank, le-leb entries n h))

      pub insert_admitted : e ≢ 0 → i ≤ n → n < entries → Ok sheet ≡ admitted inserting o
      unfolding change_cause first_of
      insert_admitted entry rank h = admitted_by_lem inserting (rw (ne_eqb e 0 entry, le-ltb n i rank, lt-leb entries n h))

    -- ---- a read

    module _ (first last room : ℕ) where
      abbrev reading : ℕ → Option Cause
      reading = question_cause (read_ranks first last room)

      read_out_of : (leb n first || leb n last || ltb last first) ≡ true → Err Rank ≡ admitted reading o
      unfolding question_cause first_of
      read_out_of h = refused_by reading Rank (rw h)

      pub read_first : n ≤ first → Err Rank ≡ admitted reading o
      read_first h = read_out_of (rw (le-leb n first h))

      pub read_last : n ≤ last → Err Rank ≡ admitted reading o
      read_last h = read_out_of (rw (le-leb n last h, or-true (leb n first)))

      pub read_order : last < first → Err Rank ≡ admitted reading o
      read_order h = read_out_of (rw (lt-ltb last first h, or-true (leb n first || leb n last)))

      module _ (a : first < n) (b : last < n) (c : first ≤ last) where
        pub read_short : room < last - first + 1 → Err OutputShort ≡ admitted reading o
        unfolding question_cause first_of
        read_short h =
            refused_by reading OutputShort (rw (lt-leb n first a, lt-leb n last b, le-ltb last first c, lt-ltb room (last - first + 1) h))

        pub read_admitted : last - first + 1 ≤ room → Ok sheet ≡ admitted reading o
        unfolding question_cause first_of
        read_admitted h =
            admitted_by_lem reading (rw (lt-leb n first a, lt-leb n last b, le-ltb last first c, le-ltb room (last - first + 1) h))

    -- ---- a board

    module _ (ranks : List ℕ) (room : ℕ) where
      abbrev board : ℕ → Option Cause
      board = question_cause (board_of ranks room)

      pub board_many : 64 < length ranks → Err BoardRanks ≡ admitted board o
      unfolding question_cause first_of
      board_many h = refused_by board BoardRanks (rw (lt-ltb 64 (length ranks) h))

      pub board_falls : falls ranks ≡ true → Err BoardRanks ≡ admitted board o
      unfolding question_cause first_of
      board_falls h = refused_by board BoardRanks (rw (h, or-true (ltb 64 (length ranks))))

      module _ (few : length ranks ≤ 64) (in_order : falls ranks ≡ false) where
        pub board_rank : some_from n ranks ≡ true → Err Rank ≡ admitted board o
        unfolding question_cause first_of
        board_rank h = refused_by board Rank (rw (le-ltb 64 (length ranks) few, in_order, h))

        module _ (inside : some_from n ranks ≡ false) where
          pub board_short : room < length ranks → Err OutputShort ≡ admitted board o
          unfolding question_cause first_of
          board_short h = refused_by board OutputShort (rw (le-ltb 64 (length ranks) few, in_order, inside, lt-ltb room (length ranks) h))

          pub board_admitted : length ranks ≤ room → Ok sheet ≡ admitted board o
          unfolding question_cause first_of
          board_admitted h = admitted_by_lem board (rw (le-ltb 64 (length ranks) few, in_order, inside, le-ltb room (length ranks) h))
