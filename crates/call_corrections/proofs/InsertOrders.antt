-- Two inserts of plain sheets in either order, in any store with room for `entries`: what Corrections says of them, from single calls on.
use Rattle.std.specs.Prelude.{◌≡◌, ◌≢◌, ℕ, suc, ◌+◌, ◌≤◌, ◌<◌, length}
use Rattle.std.proofs.Math.Path.{sym}
use Rattle.std.proofs.Common.{◌∙◌, arith}
use mathlib.Core.List.{List, [], ◌∷◌}
use Rattle.std.proofs.Math.Option.{none}
use borrow.Author.Tests.{ne_eqb, le-ltb, lt-leb}
use Rattle.tree_rules.specs.declared.Change.TheVariants.{Insert}
use Rattle.tree_rules.specs.ChangeList.{change_list}
use Rattle.tree_rules.specs.ChangeListLaws.{length_inserted, inserts_either_order}
use Rattle.call_outcomes.specs.Kind.{View, applied, Kind, Lawful}
use Rattle.call_outcomes.specs.Causes.{first_of, argument_cause}
use Rattle.call_outcomes.specs.Outcome.{list_after}
use Rattle.call_outcomes.specs.PlainCalls.{change_cause, edit_of, plain_calls, insert, delete}
use Rattle.call_history.specs.History.{final_list}
use Rattle.call_corrections.specs.Accepted.{AllAccepted}
use Rattle.call_corrections.specs.Exchange.{two_lead, two_accepted}

module _ (view : View) (entries : ℕ) where
  -- Any store with the calls of plain sheets.
  abbrev kind : Kind
  kind = record { view = view; calls = plain_calls entries }

  -- ---- one insert, one delete

  pub insert_free : (i e : ℕ) (list : List ℕ) → e ≢ 0 → i ≤ length list → length list < entries → argument_cause kind (insert i e) list ≡ none
  unfolding argument_cause change_cause first_of
  insert_free i e list some_entry inside room = rw (ne_eqb e 0 some_entry, le-ltb (length list) i inside, lt-leb entries (length list) room)

  pub delete_free : (i : ℕ) (list : List ℕ) → i < length list → argument_cause kind (delete i) list ≡ none
  unfolding argument_cause change_cause first_of
  delete_free i list inside = rw (lt-leb (length list) i inside)

  -- ---- two inserts: one at j and then another at i, or the other at i and then the first one at j + 1

  module _ (i j a b : ℕ) (list : List ℕ) (before : i ≤ j) (inside : j ≤ length list) (room : length list + 2 ≤ entries) (some-a : a ≢ 0) (some-b : b ≢ 0) where
    later_free : argument_cause kind (insert j a) list ≡ none
    later_free = insert_free j a list some-a inside (omega arith)

    then_earlier : argument_cause kind (insert i b) (list_after kind (insert j a) list) ≡ none
    unfolding list_after applied edit_of
    then_earlier =
        let one_more = length_inserted j a list inside in
        insert_free i b (change_list (Insert j) a list) some-b (omega (arith, one_more)) (omega (arith, one_more))

    earlier_free : argument_cause kind (insert i b) list ≡ none
    earlier_free = insert_free i b list some-b (omega arith) (omega arith)

    then_later : argument_cause kind (insert (suc j) a) (list_after kind (insert i b) list) ≡ none
    unfolding list_after applied edit_of
    then_later =
        let one_more = length_inserted i b list (omega arith) in
        insert_free (suc j) a (change_list (Insert i) b list) some-a (omega (arith, one_more)) (omega (arith, one_more))

    -- Both orders lead to the same list.
    pub either_order : final_list kind (insert j a ∷ insert i b ∷ []) list ≡ final_list kind (insert i b ∷ insert (suc j) a ∷ []) list
    unfolding list_after applied edit_of
    either_order =
        two_lead kind (insert j a) (insert i b) list later_free then_earlier
        ∙ inserts_either_order i j a b list before inside
        ∙ sym (two_lead kind (insert i b) (insert (suc j) a) list earlier_free then_later)

    -- All four calls are accepted.
    pub both_accepted : Lawful kind → AllAccepted kind (insert j a ∷ insert i b ∷ []) list × AllAccepted kind (insert i b ∷ insert (suc j) a ∷ []) list
    both_accepted lawful = (
      two_accepted kind lawful (insert j a) (insert i b) list later_free then_earlier,
      two_accepted kind lawful (insert i b) (insert (suc j) a) list earlier_free then_later,
    )
