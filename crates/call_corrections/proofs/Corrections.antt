-- Corrections (document 02, F-10): an insert that is taken back, on any sheet of any kind; and of plain sheets, in any store with room for
-- `entries`, two inserts in either order and an insert that is taken back.
use Rattle.std.specs.Prelude.{Ok, ◌≡◌, true, ◌≢◌, ℕ, suc, ◌+◌, ◌≤◌, ◌<◌, length}
use Rattle.std.proofs.Common.{◌∙◌, arith}
use mathlib.Core.List.{List, [], ◌∷◌, ◌++◌}
use Rattle.std.proofs.Math.Option.{none}
use Rattle.tree_rules.specs.declared.Change.TheVariants.{Insert, Delete}
use Rattle.tree_rules.specs.Rules.{InReach}
use Rattle.tree_rules.specs.ChangeList.{change_list}
use Rattle.tree_rules.specs.ChangeListLaws.{length_inserted, insert_delete}
use Rattle.call_outcomes.specs.declared.Answer.TheVariants.{Changed}
use Rattle.call_outcomes.specs.Kind.{View, SheetOf, applied, change, Kind, Lawful, StoreFor}
use Rattle.call_outcomes.specs.Causes.{argument_cause}
use Rattle.call_outcomes.specs.Outcome.{list_after, outcome}
use Rattle.call_outcomes.specs.PlainCalls.{edit_of, plain_calls, Call, insert, delete}
use Rattle.call_history.specs.History.{history, final_list, list_at_end, SameTable}
use Rattle.call_history.proofs.SingleCalls.{made_free, changed_by_lem}
use Rattle.call_corrections.proofs.InsertOrders as orders
use Rattle.call_corrections.specs.Accepted.{AllAccepted}
use Rattle.call_corrections.specs.Exchange.{two_lead, two_accepted, parts_exchanged}

-- On any sheet of any kind: a change that is made and puts an entry in at a rank, and then one that is made and takes out the entry at this rank,
-- leave a sheet of the first list.
pub back_sheet : (kind : Kind) → Lawful kind → (list : List ℕ) (store : StoreFor kind) → SheetOf kind.view list store
    → (c c' : kind.calls.ChangeCall) (i e e' : ℕ) → kind.calls.edit c list ≡ record { change = Insert i; entry = e }
    → kind.calls.edit c' (change_list (Insert i) e list) ≡ record { change = Delete i; entry = e' }
    → (tape tape' output output' : List ℕ) (n n' words words' : ℕ) → (outcome kind (change c) tape store output).answer ≡ Ok (Changed n words)
    → (outcome kind (change c') tape' (outcome kind (change c) tape store output).store output').answer ≡ Ok (Changed n' words')
    → SheetOf kind.view list (outcome kind (change c') tape' (outcome kind (change c) tape store output).store output').store
unfolding InReach applied
back_sheet kind lawful list store w c c' i e e' puts takes tape tape' output output' n n' words words' made made' =
    let inside : i ≤ length list = rw puts at (lawful.calls.reach c list w.is_list (made_free kind lawful list store w c tape output n words made)) in
    let middle = rw puts at (changed_by_lem kind lawful list store w c tape output n words made) in
    rw (takes, insert_delete i e e' list inside) at (changed_by_lem kind lawful (change_list (Insert i) e list) _ middle c' tape' output' n' words' made')

module _ (view : View) (entries : ℕ) where
  -- Any store with the calls of plain sheets.
  abbrev kind : Kind
  kind = record { view = view; calls = plain_calls entries }

  -- ---- one insert, one delete

  pub insert_free : (i e : ℕ) (list : List ℕ) → e ≢ 0 → i ≤ length list → length list < entries → argument_cause kind (insert i e) list ≡ none
  insert_free = orders.insert_free view entries

  pub delete_free : (i : ℕ) (list : List ℕ) → i < length list → argument_cause kind (delete i) list ≡ none
  delete_free = orders.delete_free view entries

  -- ---- two inserts: one at j and then another at i, or the other at i and then the first one at j + 1

  module _ (i j a b : ℕ) (list : List ℕ) (before : i ≤ j) (inside : j ≤ length list) (room : length list + 2 ≤ entries) (some-a : a ≢ 0) (some-b : b ≢ 0) where
    -- Both orders lead to the same list.
    pub either_order : final_list kind (insert j a ∷ insert i b ∷ []) list ≡ final_list kind (insert i b ∷ insert (suc j) a ∷ []) list
    either_order = orders.either_order view entries i j a b list before inside room some-a some-b

    -- All four calls are accepted.
    pub both_accepted : Lawful kind → AllAccepted kind (insert j a ∷ insert i b ∷ []) list × AllAccepted kind (insert i b ∷ insert (suc j) a ∷ []) list
    both_accepted = orders.both_accepted view entries i j a b list before inside room some-a some-b

  -- ---- an insert and then a delete at the same rank

  module _ (i e : ℕ) (list : List ℕ) (some_entry : e ≢ 0) (inside : i ≤ length list) (room : length list < entries) where
    inserted_free : argument_cause kind (delete i) (list_after kind (insert i e) list) ≡ none
    unfolding list_after applied edit_of
    inserted_free = delete_free i (change_list (Insert i) e list) (omega (arith, length_inserted i e list inside))

    -- They lead back to the list.
    pub taken_back : final_list kind (insert i e ∷ delete i ∷ []) list ≡ list
    unfolding list_after applied edit_of
    taken_back =
        two_lead kind (insert i e) (delete i) list (insert_free i e list some_entry inside room) inserted_free
        ∙ insert_delete i e 0 list inside

    -- Both calls are accepted.
    pub back_accepted : Lawful kind → AllAccepted kind (insert i e ∷ delete i ∷ []) list
    back_accepted lawful = two_accepted kind lawful (insert i e) (delete i) list (insert_free i e list some_entry inside room) inserted_free

  -- ---- in a history, between the same calls

  module _ (lawful : Lawful kind) (before after : List Call) (store store' : view.Store)
      (right : view.right_lengths store ≡ true) (right' : view.right_lengths store' ≡ true) where
    -- The list before them.
    abbrev list : List ℕ
    list = list_at_end kind before

    -- Whichever order, every store has the same share.
    pub either_shares : (i j a b : ℕ) → i ≤ j → j ≤ length list → length list + 2 ≤ entries → a ≢ 0 → b ≢ 0
        → SameTable view (history kind (before ++ (insert j a ∷ insert i b ∷ after)) store) (history kind (before ++ (insert i b ∷ insert (suc j) a ∷ after)) store')
    either_shares i j a b in_order inside room some-a some-b =
        parts_exchanged kind lawful before (insert j a ∷ insert i b ∷ []) (insert i b ∷ insert (suc j) a ∷ []) after store store' right right'
        (orders.either_order view entries i j a b list in_order inside room some-a some-b)

    -- With the insert and the delete, and without them, every store has the same share.
    pub back_shares : (i e : ℕ) → i ≤ length list → length list < entries → e ≢ 0
        → SameTable view (history kind (before ++ (insert i e ∷ delete i ∷ after)) store) (history kind (before ++ after) store')
    unfolding final_list
    back_shares i e inside room some_entry =
        parts_exchanged kind lawful before (insert i e ∷ delete i ∷ []) [] after store store' right right' (taken_back i e list some_entry inside room)
