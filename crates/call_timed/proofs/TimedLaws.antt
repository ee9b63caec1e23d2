-- Timed sheets are a kind of sheet, for every capacity with room enough.
use Rattle.std.specs.Prelude.{◌≡◌, refl, true, List, ℕ, ◌<◌, eqb, length}
use Rattle.std.proofs.Math.Option.{none}
use Rattle.std.proofs.Common.{arith, ne_eqb, le-ltb}
use Rattle.std.proofs.lemmas.Bool.{eqb-false}
use Rattle.tree_rules.specs.ChangeList.{change_list}
use Rattle.store_layout.specs.declared.Capacity.{Capacity}
use Rattle.store_layout.specs.Room.{Roomy}
use Rattle.store_keys.specs.Key.{key, RiseFrom, Rises, rank_of, present}
use Rattle.store_keys.specs.KeyLaws.{rises_true, true_rises, rank_most, insert_rises, delete_rises, key_entry}
use Rattle.store_balance.specs.BalanceLaws.{length_lay_balance}
use Rattle.call_outcomes.specs.declared.Cause.TheVariants.{EntryZero, EntryPresent}
use Rattle.call_outcomes.specs.Kind.{View, LawfulCalls, applied, Lawful}
use Rattle.call_outcomes.specs.Causes.{first_of}
use Rattle.call_outcomes.specs.DecisionLaws.{first_none}
use Rattle.call_outcomes.specs.PlainCalls.{change_cause, edit_of, Question, AsPlain}
use Rattle.call_outcomes.specs.Slice.{LawfulSlice}
use Rattle.call_outcomes.proofs.SliceLaws.{lengths_with_lem, with_lengths, slice_lawful}
use Rattle.call_outcomes.specs.Plain.{plain_view, plain}
use Rattle.call_outcomes.proofs.PlainLaws.{plain_right, right_plain, plain_lawful}
use Rattle.call_timed.specs.Timed.{IsTimedList, balance_slice, timed_view, TimedStore, TimedLengths, TimedChange, insert_entry, delete_rank, plainly, timed_change_cause, as_plain, timed_question_cause, timed_reply, timed_written, timed_calls, timed}

-- ---- the store

module _ (cap : Capacity) (store : TimedStore) where
  pub timed_right : TimedLengths cap store → (timed_view cap).right_lengths store ≡ true
  timed_right w = lengths_with_lem (plain_view cap).right_lengths cap.counts store (plain_right cap store.sheet w.plain) w.balance

  pub right_timed : (timed_view cap).right_lengths store ≡ true → TimedLengths cap store
  right_timed h =
      let both = with_lengths (plain_view cap).right_lengths cap.counts store h in
      record { plain = right_plain cap store.sheet both.0; balance = both.1 }

balance_lawful : (cap : Capacity) → Roomy cap → LawfulSlice (plain_view cap) (balance_slice cap)
unfolding RiseFrom
balance_lawful cap roomy = record {
  no_entry = record { plain = (plain_lawful cap roomy).view.no_entry; rising = tt };
  narrower = λ list w. w.plain;
  listed = λ list w. rises_true 0 list w.rising;
  tested = λ list w t. record { plain = w; rising = true_rises 0 list t };
  length_is = length_lay_balance cap.counts;
}

-- ---- insert and delete

-- A change that no cause refuses is one of a plain sheet that no cause refuses.
pub plain_free : (entries : ℕ) (c : TimedChange) (list : List ℕ) → timed_change_cause entries c list ≡ none
    → change_cause entries (plainly c list) (length list) ≡ none
unfolding timed_change_cause plainly change_cause first_of
plain_free entries (insert_entry e) list free =
    let zero = first_none (eqb (key e) 0) EntryZero _ free in
    let room = first_none (present (key e) list) EntryPresent _ zero.1 in
    let above : 0 < e = key_entry e (omega (arith, eqb-false (key e) 0 zero.0)) in
    rw (ne_eqb e 0 (λ h. omega (arith, h, above)), le-ltb (length list) (rank_of (key e) list) (rank_most (key e) list)) room.1
plain_free entries (delete_rank i) list free = free

changed_rises : (entries : ℕ) (c : TimedChange) (list : List ℕ) → Rises list → timed_change_cause entries c list ≡ none
    → Rises (applied (edit_of (plainly c list)) list)
unfolding timed_change_cause plainly edit_of applied change_list
changed_rises entries (insert_entry e) list rising free =
    let zero = first_none (eqb (key e) 0) EntryZero _ free in
    let there = first_none (present (key e) list) EntryPresent _ zero.1 in
    insert_rises e list rising (omega (arith, eqb-false (key e) 0 zero.0)) there.0
changed_rises entries (delete_rank i) list rising free = delete_rises i list rising

timed_calls_lem : (cap : Capacity) (roomy : Roomy cap) → LawfulCalls (IsTimedList cap) (timed_calls cap.entries)
timed_calls_lem cap roomy =
    let plainly-lawful = (plain_lawful cap roomy).calls in
    record {
      reach = λ c list w free. plainly-lawful.reach (plainly c list) list w.plain (plain_free cap.entries c list free);
      keeps = λ c list w free. record {
        plain = plainly-lawful.keeps (plainly c list) list w.plain (plain_free cap.entries c list free);
        rising = changed_rises cap.entries c list w.rising free;
      };
    }

pub timed_lawful : (cap : Capacity) → Roomy cap → Lawful (timed cap)
timed_lawful cap roomy = record {
  view = slice_lawful (plain_view cap) (balance_slice cap) (plain_lawful cap roomy).view (balance_lawful cap roomy);
  calls = timed_calls_lem cap roomy;
}

-- ---- read, place and check

-- A question of a plain sheet, asked about a timed one.
pub timed_as_plain : (view : View) (entries : ℕ) (q : Question) → AsPlain (record { view = view; calls = timed_calls entries }) (as_plain q) q
unfolding timed_question_cause timed_reply timed_written
timed_as_plain view entries q = record { causes = λ list. refl; reply = λ list. refl; written = λ list. refl }
