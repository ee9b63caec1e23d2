-- Two inserts of timed sheets in either order, in any store with room for `entries`: what TimedCorrections says of them, from single calls on.
use Rattle.std.specs.Prelude.{◌≡◌, true, false, ◌≢◌, ℕ, suc, ◌+◌, ◌≤◌, ◌<◌, length}
use Rattle.std.proofs.Math.Path.{sym}
use Rattle.std.proofs.Common.{◌∙◌, ⊎_elim, arith}
use mathlib.Core.List.{List, [], ◌∷◌, ◌++◌}
use Rattle.std.proofs.Math.Option.{none}
use borrow.Author.Tests.{ne_eqb, lt-leb}
use Rattle.base.specs.CaseLaws.{lt_or_ge}
use Rattle.tree_rules.specs.declared.Change.TheVariants.{Insert}
use Rattle.tree_rules.specs.ChangeList.{change_list}
use Rattle.tree_rules.specs.ChangeListLaws.{length_inserted, inserts_either_order, insert_delete}
use Rattle.store_keys.specs.Key.{key, rank_of, present}
use Rattle.store_keys.specs.KeyLaws.{rank_most, rank_rises, rank_inserted_lower, rank_inserted_other, present_inserted_other}
use Rattle.call_outcomes.specs.Kind.{View, applied, Kind, Lawful}
use Rattle.call_outcomes.specs.Causes.{first_of, argument_cause}
use Rattle.call_outcomes.specs.Outcome.{list_after}
use Rattle.call_outcomes.specs.PlainCalls.{change_cause, edit_of}
use Rattle.call_timed.specs.Timed.{plainly, timed_change_cause, timed_calls, TimedCall, insert, delete}
use Rattle.call_history.specs.History.{history, final_list, list_at_end, SameTable}
use Rattle.call_corrections.specs.Accepted.{AllAccepted}
use Rattle.call_corrections.specs.Exchange.{two_lead, two_accepted, parts_exchanged}

-- The list with the entry in at the rank of its key.
abbrev pub with : ℕ → List ℕ → List ℕ
with e list = change_list (Insert (rank_of (key e) list)) e list

pub length_with : (e : ℕ) (list : List ℕ) → length (with e list) ≡ suc (length list)
length_with e list = length_inserted (rank_of (key e) list) e list (rank_most (key e) list)

-- The other keys: the rank of a higher one is one higher, that of a lower one is the same, and one that was absent is absent.
module _ (e k : ℕ) (list : List ℕ) where
  rank_higher : key e < k → rank_of k (with e list) ≡ suc (rank_of k list)
  unfolding change_list
  rank_higher = rank_inserted_lower k e (rank_of (key e) list) list

  rank_lower : k < key e → rank_of k (with e list) ≡ rank_of k list
  unfolding change_list
  rank_lower less = rank_inserted_other k e (rank_of (key e) list) list (omega arith)

  absent_with : key e ≢ k → present k list ≡ false → present k (with e list) ≡ false
  unfolding change_list
  absent_with = present_inserted_other k e (rank_of (key e) list) list

-- ---- two entries

-- The one with the higher key first, or the one with the lower key first.
higher_or_lower : (a b : ℕ) (list : List ℕ) → key a < key b → with a (with b list) ≡ with b (with a list)
higher_or_lower a b list less =
    rw (rank_lower b (key a) list less, rank_higher a (key b) list less)
    (inserts_either_order (rank_of (key a) list) (rank_of (key b) list) b a list (rank_rises (key a) (key b) list (omega arith)) (rank_most (key b) list))

with_either_order : (a b : ℕ) (list : List ℕ) → key a ≢ key b → with b (with a list) ≡ with a (with b list)
with_either_order a b list other =
    ⊎_elim (λ less. sym (higher_or_lower a b list less)) (λ least. higher_or_lower b a list (omega (arith, other, least))) (lt_or_ge (key a) (key b))

module _ (view : View) (entries : ℕ) where
  -- Any store with the calls of timed sheets.
  abbrev kind : Kind
  kind = record { view = view; calls = timed_calls entries }

  pub insert_free : (e : ℕ) (list : List ℕ) → key e ≢ 0 → present (key e) list ≡ false → length list < entries → argument_cause kind (insert e) list ≡ none
  unfolding argument_cause timed_change_cause first_of
  insert_free e list some_key absent room = rw (ne_eqb (key e) 0 some_key, absent, lt-leb entries (length list) room)

  -- ---- two inserts in either order

  module _ (a b : ℕ) (list : List ℕ) (room : length list + 2 ≤ entries) (some-a : key a ≢ 0) (some-b : key b ≢ 0) (other : key a ≢ key b)
      (absent-a : present (key a) list ≡ false) (absent-b : present (key b) list ≡ false) where
    a_free : argument_cause kind (insert a) list ≡ none
    a_free = insert_free a list some-a absent-a (omega arith)

    then_b : argument_cause kind (insert b) (list_after kind (insert a) list) ≡ none
    unfolding list_after applied plainly edit_of
    then_b = insert_free b (with a list) some-b (absent_with a (key b) list other absent-b) (omega (arith, length_with a list))

    b_free : argument_cause kind (insert b) list ≡ none
    b_free = insert_free b list some-b absent-b (omega arith)

    then_a : argument_cause kind (insert a) (list_after kind (insert b) list) ≡ none
    unfolding list_after applied plainly edit_of
    then_a = insert_free a (with b list) some-a (absent_with b (key a) list (λ same. other (sym same)) absent-a) (omega (arith, length_with b list))

    -- Both orders lead to the same list.
    pub either_order : final_list kind (insert a ∷ insert b ∷ []) list ≡ final_list kind (insert b ∷ insert a ∷ []) list
    unfolding list_after applied plainly edit_of
    either_order =
        two_lead kind (insert a) (insert b) list a_free then_b
        ∙ with_either_order a b list other
        ∙ sym (two_lead kind (insert b) (insert a) list b_free then_a)

    -- All four calls are accepted.
    pub both_accepted : Lawful kind → AllAccepted kind (insert a ∷ insert b ∷ []) list × AllAccepted kind (insert b ∷ insert a ∷ []) list
    both_accepted lawful = (two_accepted kind lawful (insert a) (insert b) list a_free then_b, two_accepted kind lawful (insert b) (insert a) list b_free then_a)
