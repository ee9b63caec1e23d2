-- Corrections of timed sheets (document 02, F-10), in any store with room for `entries`: two inserts by entry in either order, and an insert
-- that is taken back.
use Rattle.std.specs.Prelude.{◌≡◌, true, false, ◌≢◌, ℕ, suc, ◌+◌, ◌≤◌, ◌<◌, length}
use Rattle.std.proofs.Math.Path.{sym}
use Rattle.std.proofs.Common.{◌∙◌, ⊎_elim, arith}
use mathlib.Core.List.{List, [], ◌∷◌, ◌++◌}
use Rattle.std.proofs.Math.Option.{none}
use borrow.Author.Tests.{ne_eqb, lt-leb}
use Rattle.base.specs.CaseLaws.{lt_or_ge}
use Rattle.tree_rules.specs.declared.Change.TheVariants.{Insert}
use Rattle.tree_rules.specs.ChangeList.{change_list}
use Rattle.tree_rules.specs.ChangeListLaws.{length_inserted, inserts_either_order, insert_delete}
use Rattle.store_keys.specs.Key.{key, rank_of, present}
use Rattle.store_keys.specs.KeyLaws.{rank_most, rank_rises, rank_inserted_lower, rank_inserted_other, present_inserted_other}
use Rattle.call_outcomes.specs.Kind.{View, applied, Kind, Lawful}
use Rattle.call_outcomes.specs.Causes.{first_of, argument_cause}
use Rattle.call_outcomes.specs.Outcome.{list_after}
use Rattle.call_outcomes.specs.PlainCalls.{change_cause, edit_of}
use Rattle.call_timed.specs.Timed.{plainly, timed_change_cause, timed_calls, TimedCall, insert, delete}
use Rattle.call_history.specs.History.{history, final_list, list_at_end, SameTable}
use Rattle.call_corrections.proofs.TimedInsertOrders as orders
use Rattle.call_corrections.specs.Accepted.{AllAccepted}
use Rattle.call_corrections.specs.Exchange.{two_lead, two_accepted, parts_exchanged}

module _ (view : View) (entries : ℕ) where
  -- Any store with the calls of timed sheets.
  abbrev kind : Kind
  kind = record { view = view; calls = timed_calls entries }

  -- ---- two inserts in either order

  module _ (a b : ℕ) (list : List ℕ) (room : length list + 2 ≤ entries) (some-a : key a ≢ 0) (some-b : key b ≢ 0) (other : key a ≢ key b)
      (absent-a : present (key a) list ≡ false) (absent-b : present (key b) list ≡ false) where
    -- Both orders lead to the same list.
    pub either_order : final_list kind (insert a ∷ insert b ∷ []) list ≡ final_list kind (insert b ∷ insert a ∷ []) list
    either_order = orders.either_order view entries a b list room some-a some-b other absent-a absent-b

    -- All four calls are accepted.
    pub both_accepted : Lawful kind → AllAccepted kind (insert a ∷ insert b ∷ []) list × AllAccepted kind (insert b ∷ insert a ∷ []) list
    both_accepted = orders.both_accepted view entries a b list room some-a some-b other absent-a absent-b

  -- ---- an insert and then a delete of the rank of its key

  module _ (e : ℕ) (list : List ℕ) (room : length list < entries) (some_key : key e ≢ 0) (absent : present (key e) list ≡ false) where
    inserted_free : argument_cause kind (delete (rank_of (key e) list)) (list_after kind (insert e) list) ≡ none
    unfolding argument_cause timed_change_cause change_cause first_of list_after applied plainly edit_of
    inserted_free = rw (lt-leb (length (orders.with e list)) (rank_of (key e) list) (omega (arith, orders.length_with e list, rank_most (key e) list)))

    -- They lead back to the list.
    pub taken_back : final_list kind (insert e ∷ delete (rank_of (key e) list) ∷ []) list ≡ list
    unfolding list_after applied plainly edit_of
    taken_back =
        two_lead kind (insert e) (delete (rank_of (key e) list)) list (orders.insert_free view entries e list some_key absent room) inserted_free
        ∙ insert_delete (rank_of (key e) list) e 0 list (rank_most (key e) list)

    -- Both calls are accepted.
    pub back_accepted : Lawful kind → AllAccepted kind (insert e ∷ delete (rank_of (key e) list) ∷ []) list
    back_accepted lawful = two_accepted kind lawful (insert e) (delete (rank_of (key e) list)) list (orders.insert_free view entries e list some_key absent room) inserted_free

  -- ---- in a history, between the same calls

  module _ (lawful : Lawful kind) (before after : List TimedCall) (store store' : view.Store)
      (right : view.right_lengths store ≡ true) (right' : view.right_lengths store' ≡ true) where
    -- The list before them.
    abbrev list : List ℕ
    list = list_at_end kind before

    -- Whichever order, every store has the same share.
    pub either_shares : (a b : ℕ) → length list + 2 ≤ entries → key a ≢ 0 → key b ≢ 0 → key a ≢ key b
        → present (key a) list ≡ false → present (key b) list ≡ false
        → SameTable view (history kind (before ++ (insert a ∷ insert b ∷ after)) store) (history kind (before ++ (insert b ∷ insert a ∷ after)) store')
    either_shares a b room some-a some-b other absent-a absent-b =
        parts_exchanged kind lawful before (insert a ∷ insert b ∷ []) (insert b ∷ insert a ∷ []) after store store' right right'
        (orders.either_order view entries a b list room some-a some-b other absent-a absent-b)

    -- With the insert and the delete, and without them, every store has the same share.
    pub back_shares : (e : ℕ) → length list < entries → key e ≢ 0 → present (key e) list ≡ false
        → SameTable view (history kind (before ++ (insert e ∷ delete (rank_of (key e) list) ∷ after)) store) (history kind (before ++ after) store')
    unfolding final_list
    back_shares e room some_key absent =
        parts_exchanged kind lawful before (insert e ∷ delete (rank_of (key e) list) ∷ []) [] after store store' right right' (taken_back e list room some_key absent)
