-- `insert` meets its contract.
use mathlib.Core.Path.{◌≡◌, refl, sym, ◌∙◌}
use mathlib.Core.Logic.{◌≢◌}
use native.Mathlib.Omega.{arith}
use Rattle.tree_rules.specs.declared.Change.TheVariants.{Insert}
use Rattle.store_keys.specs.Key.{key}
use Rattle.call_outcomes.specs.Causes.{accept, looked_at, decision}
use Rattle.call_outcomes.specs.PlainCalls.{plain_change}
use Rattle.call_outcomes.specs.Federation.{federation}
use Rattle.call_outcomes.proofs.FederationLaws.{federation_ready}
use Rattle.call_open.specs.Opening.{OpenedStore}
use Rattle.call_open.specs.AdmittedLaws.{opened_store}
use Rattle.call_open.specs.PassedLaws.{passed_on}
use Rattle.call_timed.specs.Timed.{timed_view, insert_entry, plainly, timed, insert, timed_store_of, timed_numbers}
use Rattle.timed_answers.specs.SheetLaws.{search_ready}
use Rattle.timed_answers.specs.EntryLaws.{store_refused, change_ready, change_done, insert_zero, insert_present, insert_full, insert_decided, insert_plainly}
use Rattle.federation_timed_changes.proofs.insert.Goals.{Else-key-eq0, Else-sheet-ge65536, In_ok-sheet}
use Rattle.federation_timed_changes.proofs.insert.Goals as goal

-- The store is a timed sheet with these numbers.
sheet : (c : In_ok-sheet)
    → let a = c.args in
    OpenedStore (timed_view federation) timed_numbers (timed_store_of a.slots.now a.counts.now a.tallies.now a.balance.now) c.in_ok-sheet.sheet.n
    c.in_ok-sheet.sheet.m c.examine.new.work
sheet c = opened_store (timed_view federation) timed_numbers _ c.examine.ensures.opening _ c.in_ok-sheet.was

-- The key is not 0.
some_key : (c : Else-key-eq0) → key c.args.entry ≢ 0
some_key c z = c.if-key-eq0.false (c.key.ensures ∙ z)

-- No cause before 7 refuses the insert, which is that at the rank found.
decided : (c : Else-sheet-ge65536)
    → let a = c.args in
    decision (timed federation) (insert a.entry) (timed_store_of a.slots.now a.counts.now a.tallies.now a.balance.now) ≡ accept (sheet (goal.at.Else-sheet-ge65536 c).In_ok-sheet).contents
decided c =
    insert_decided federation_ready (sheet (goal.at.Else-sheet-ge65536 c).In_ok-sheet) _ (some_key (goal.at.Else-sheet-ge65536 c).Else-key-eq0) _ c.search.ensures _ c.in-Err.is (omega arith)

plainly_is : (c : Else-sheet-ge65536)
    → let e = c.args.entry in
    plainly (insert_entry e) (sheet (goal.at.Else-sheet-ge65536 c).In_ok-sheet).contents.list ≡ plain_change (Insert c.in-Err.rank) e
plainly_is c =
    insert_plainly federation_ready (sheet (goal.at.Else-sheet-ge65536 c).In_ok-sheet) _ (some_key (goal.at.Else-sheet-ge65536 c).Else-key-eq0) _ c.search.ensures _ c.in-Err.is

pub examine-requires : goal.examine-requires
examine-requires c =
    record { work = refl; numbers = refl }

pub returns-then-key-eq0 : goal.returns-then-key-eq0
returns-then-key-eq0 c = insert_zero federation_ready (sheet (goal.at.returns-then-key-eq0 c).In_ok-sheet) _ _ (sym c.key.ensures ∙ c.if-key-eq0.true)

pub search-requires : goal.search-requires
search-requires c = search_ready federation_ready (sheet (goal.at.search-requires c).In_ok-sheet)

pub returns-in-Ok : goal.returns-in-Ok
returns-in-Ok c =
    insert_present federation_ready (sheet (goal.at.returns-in-Ok c).In_ok-sheet) _ (some_key (goal.at.returns-in-Ok c).Else-key-eq0) _ c.search.ensures _ c.in-Ok.is _

pub returns-then-sheet-ge65536 : goal.returns-then-sheet-ge65536
returns-then-sheet-ge65536 c =
    insert_full federation_ready (sheet (goal.at.returns-then-sheet-ge65536 c).In_ok-sheet) _ (some_key (goal.at.returns-then-sheet-ge65536 c).Else-key-eq0) _ c.search.ensures _ c.in-Err.is _ (omega arith)

pub change-requires : goal.change-requires
change-requires c =
    record { sheet = change_ready federation_ready (sheet (goal.at.change-requires c).In_ok-sheet) (insert_entry _) (Insert _) _ (plainly_is (goal.at.change-requires c).Else-sheet-ge65536) (decided (goal.at.change-requires c).Else-sheet-ge65536); tallied = c.examine.ensures.tallied c.in_ok-sheet.was }

pub returns-else-sheet-ge65536 : goal.returns-else-sheet-ge65536
returns-else-sheet-ge65536 c =
    change_done federation_ready (sheet (goal.at.returns-else-sheet-ge65536 c).In_ok-sheet) (insert_entry _) (Insert _) _ (plainly_is (goal.at.returns-else-sheet-ge65536 c).Else-sheet-ge65536) (decided (goal.at.returns-else-sheet-ge65536 c).Else-sheet-ge65536) _ c.change.ensures

pub returns-in_err-sheet : goal.returns-in_err-sheet
unfolding looked_at
returns-in_err-sheet c =
    rw (passed_on c.from_residual.ensures.1) (store_refused federation _ _ _ _ (insert _) refl _ c.examine.ensures.opening.found c.in_err-sheet.was)
