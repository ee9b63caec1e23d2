-- What single calls do to the clubs' timed sheets.
use Rattle.std.specs.Prelude.{Ok, Err, ◌≡◌, refl, Bool, true, false, ◌≢◌, List, ℕ, ◌<◌, length, get_or}
use Rattle.std.proofs.Common.{◌∙◌, arith, ne_eqb}
use Rattle.std.proofs.lemmas.Bool.{lt-leb}
use Rattle.base.specs.ListLaws.{every_get_d}
use Rattle.tree_rules.specs.declared.Change.TheVariants.{Insert, Delete}
use Rattle.tree_rules.specs.ChangeList.{change_list}
use Rattle.store_layout.specs.Decode.{Contents}
use Rattle.store_ties.specs.Ties.{placing_in}
use Rattle.store_keys.specs.Key.{key, rank_of, present}
use Rattle.store_keys.specs.KeyLaws as keys
use Rattle.call_outcomes.specs.declared.Cause.TheVariants.{NotASheet, NotTimed, EntryPresent}
use Rattle.call_outcomes.specs.declared.Answer.TheVariants.{Checked, Changed, Present}
use Rattle.call_outcomes.specs.Kind.{SheetOf, applied, holds}
use Rattle.call_outcomes.specs.KindLaws.{decoded_sheet}
use Rattle.call_outcomes.specs.Causes.{first_of, refuse, accept, by_found, store_decision, looked_at, argument_cause, by_arguments, decision}
use Rattle.call_outcomes.specs.Outcome.{refused, outcome}
use Rattle.call_outcomes.specs.DecisionLaws.{store_decided, outcome_refused}
use Rattle.call_outcomes.specs.PlainCalls.{place_of, count_of, question_cause, placed, reply_to, edit_of}
use Rattle.call_outcomes.specs.Slice.{slice_test, found_if, found_with}
use Rattle.call_outcomes.proofs.SliceLaws.{sheet_refused, sheet_accepted}
use Rattle.call_outcomes.specs.Plain.{plain_view}
use Rattle.call_outcomes.proofs.PlainLaws.{plain_right}
use Rattle.call_outcomes.specs.Clubs.{clubs}
use Rattle.call_outcomes.proofs.ClubsLaws.{clubs_lawful}
use Rattle.call_history.specs.Refusals.{refused_by}
use Rattle.call_history.proofs.SingleCalls.{answered_by_lem, changed_by_lem}
use Rattle.call_history.proofs.ClubSheets.{ClubSheet, no_sheet_decided}
use Rattle.call_timed.specs.Timed.{balance_slice, timed_view, TimedStore, TimedLengths, insert_entry, delete_rank, plainly, find_entry, as_plain, timed_question_cause, found_at, timed_reply, timed_change_cause, timed, insert, delete, find, place, check}
use Rattle.timed_history.specs.Clause.{clubs_timed}

-- The store is a timed sheet of the list: some size and balance entries lay out its four slices.
abbrev pub TimedSheet : List ℕ → TimedStore → Type 0
TimedSheet = SheetOf (timed_view clubs)

-- ---- check

-- A check of a timed sheet answers with the length of its list.
pub check_sheet : (list : List ℕ) (store : TimedStore) → TimedSheet list store → (tape output : List ℕ)
    → (outcome (timed clubs) check tape store output).answer ≡ Ok (Checked (length list))
unfolding timed_reply timed_question_cause reply_to question_cause
check_sheet list store w = answered_by_lem (timed clubs) clubs_timed list store w (as_plain count_of) refl

-- A check of a store of the right lengths is refused by cause 2 where slots, counts and tallies are a plain sheet of no list; by cause 11
-- where they are one, and the store is a timed sheet of no list.
module _ (store : TimedStore) (right : TimedLengths clubs store) (tape output : List ℕ) where
  pub check_other : ((list : List ℕ) → ClubSheet list store.sheet → ⊥) → (outcome (timed clubs) check tape store output).answer ≡ Err NotASheet
  unfolding decision looked_at by_arguments refused
  check_other none_is =
      let plain = no_sheet_decided store.sheet right.plain none_is in
      rw (outcome_refused (timed clubs) check store tape output NotASheet (rw (sheet_refused (plain_view clubs) (balance_slice clubs) store right.balance NotASheet plain)))

  pub check_untimed : (list : List ℕ) → ClubSheet list store.sheet → ((list : List ℕ) → TimedSheet list store → ⊥)
      → (outcome (timed clubs) check tape store output).answer ≡ Err NotTimed
  unfolding decision looked_at by_found found_with found_if by_arguments refused
  check_untimed list w none_is =
      rw (outcome_refused (timed clubs) check store tape output NotTimed
      (rw (sheet_accepted (plain_view clubs) (balance_slice clubs) store right.balance c plain_decided) (go (slice_test (balance_slice clubs) store.slice c) refl)))
    where
      c : Contents
      c = record { list = list; shape = w.shape }

      plain_found : (plain_view clubs).decode store.sheet ≡ holds c
      plain_found = rw w.laid (clubs_lawful.view.complete list w.shape w.is_list w.is_shape)

      plain_decided : store_decision (plain_view clubs) store.sheet ≡ accept c
      plain_decided = store_decided (plain_view clubs) store.sheet c (plain_right clubs store.sheet right.plain) plain_found

      go : (b : Bool) → slice_test (balance_slice clubs) store.slice c ≡ b
          → by_arguments (argument_cause (timed clubs) check) (by_found (found_if NotTimed (slice_test (balance_slice clubs) store.slice c) c)) ≡ refuse NotTimed
      go true e = absurd (none_is list (decoded_sheet (timed_view clubs) clubs_timed.view store c (rw (plain_found, e))))
      go false e = rw e

-- ---- find

-- A find of an entry with a key is answered by the list: its rank, or the rank at which it would stand.
pub find_sheet : (list : List ℕ) (store : TimedStore) → TimedSheet list store → (e : ℕ) → key e ≢ 0 → (tape output : List ℕ)
    → (outcome (timed clubs) (find e) tape store output).answer ≡ Ok (found_at (present (key e) list) (rank_of (key e) list))
unfolding timed_reply timed_question_cause first_of
find_sheet list store w e some_key = answered_by_lem (timed clubs) clubs_timed list store w (find_entry e) (rw (ne_eqb (key e) 0 some_key))

-- An entry with the key of the one at a rank is found there, whatever its bits; and an insert of it is refused by cause 10.
module _ (list : List ℕ) (store : TimedStore) (w : TimedSheet list store) (r : ℕ) (below : r < length list)
    (e : ℕ) (same : key e ≡ key (get_or list r 0)) (tape output : List ℕ) where
  some_key : key e ≢ 0
  some_key zero_is = omega (arith, zero_is, same, every_get_d (λ x. 0 < key x) list r 0 (keys.rise_above 0 0 list (omega arith) w.is_list.rising) below)

  there : (present (key e) list ≡ true) × (rank_of (key e) list ≡ r)
  there = rw same (keys.rank_is r list w.is_list.rising below)

  pub find_entry_lem : (outcome (timed clubs) (find e) tape store output).answer ≡ Ok (Present r)
  unfolding found_at
  find_entry_lem = find_sheet list store w e some_key tape output ∙ rw (there.0, there.1)

  pub insert_present : (outcome (timed clubs) (insert e) tape store output).answer ≡ Err EntryPresent
  unfolding argument_cause timed_change_cause first_of
  insert_present = refused_by (timed clubs) clubs_timed list store w (insert e) EntryPresent (rw (ne_eqb (key e) 0 some_key, there.0)) tape output

-- ---- place

-- A place of an entry is answered by the list, as on a plain sheet: that of her tied group.
pub place_sheet : (list : List ℕ) (store : TimedStore) → TimedSheet list store → (i : ℕ) → i < length list → (tape output : List ℕ)
    → (outcome (timed clubs) (place i) tape store output).answer ≡ Ok (placed (placing_in list i))
unfolding timed_reply timed_question_cause reply_to question_cause first_of
place_sheet list store w i below =
    answered_by_lem (timed clubs) clubs_timed list store w (as_plain (place_of i)) (rw (lt-leb (length list) i below))

-- ---- insert and delete

-- An insert that is made leaves a timed sheet of the list with the entry in at the rank of its key; a delete, of the list without the one
-- at the rank.
pub inserted_sheet : (list : List ℕ) (store : TimedStore) → TimedSheet list store → (e : ℕ) (tape output : List ℕ) (n words : ℕ)
    → (outcome (timed clubs) (insert e) tape store output).answer ≡ Ok (Changed n words)
    → TimedSheet (change_list (Insert (rank_of (key e) list)) e list) (outcome (timed clubs) (insert e) tape store output).store
unfolding plainly edit_of applied
inserted_sheet list store w e = changed_by_lem (timed clubs) clubs_timed list store w (insert_entry e)

pub deleted_sheet : (list : List ℕ) (store : TimedStore) → TimedSheet list store → (i : ℕ) (tape output : List ℕ) (n words : ℕ)
    → (outcome (timed clubs) (delete i) tape store output).answer ≡ Ok (Changed n words)
    → TimedSheet (change_list (Delete i) 0 list) (outcome (timed clubs) (delete i) tape store output).store
unfolding plainly edit_of applied
deleted_sheet list store w i = changed_by_lem (timed clubs) clubs_timed list store w (delete_rank i)
