-- `find` meets its contract.
use mathlib.Core.Path.{refl, sym, ◌∙◌}
use mathlib.Core.Logic.{◌≢◌}
use mathlib.Core.List.{[]}
use Rattle.store_keys.specs.Key.{key}
use Rattle.call_outcomes.specs.Causes.{looked_at}
use Rattle.call_outcomes.specs.Federation.{federation}
use Rattle.call_open.specs.Opening.{OpenedStore}
use Rattle.call_open.specs.AdmittedLaws.{opened_store}
use Rattle.call_open.specs.PassedLaws.{passed_on}
use Rattle.call_timed.specs.Timed.{timed_view, find, timed_store_of, timed_numbers}
use Rattle.timed_answers.specs.SheetLaws.{search_ready}
use Rattle.timed_answers.specs.EntryLaws.{store_refused, find_zero, find_present, find_absent}
use Rattle.call_outcomes.proofs.FederationLaws.{federation_ready}
use Rattle.federation_timed_calls.proofs.find.Goals.{Else-key-eq0, In_ok-sheet}
use Rattle.federation_timed_calls.proofs.find.Goals as goal

-- The store is a timed sheet with these numbers.
sheet : (c : In_ok-sheet)
    → let a = c.args in
    OpenedStore (timed_view federation) timed_numbers (timed_store_of a.slots.now a.counts.now a.tallies.now a.balance.now) c.in_ok-sheet.sheet.n
    c.in_ok-sheet.sheet.m c.examine.new.work
sheet c = opened_store (timed_view federation) timed_numbers _ c.examine.ensures.opening _ c.in_ok-sheet.was

-- The key is not 0.
some_key : (c : Else-key-eq0) → key c.args.entry ≢ 0
some_key c z = c.if-key-eq0.false (c.key.ensures ∙ z)

pub examine-requires : goal.examine-requires
examine-requires c =
    record { work = refl; numbers = refl }

pub returns-then-key-eq0 : goal.returns-then-key-eq0
returns-then-key-eq0 c = find_zero federation_ready (sheet (goal.at.returns-then-key-eq0 c).In_ok-sheet) _ (sym c.key.ensures ∙ c.if-key-eq0.true)

pub search-requires : goal.search-requires
search-requires c = search_ready federation_ready (sheet (goal.at.search-requires c).In_ok-sheet)

pub returns-in-Ok : goal.returns-in-Ok
returns-in-Ok c =
    find_present federation_ready (sheet (goal.at.returns-in-Ok c).In_ok-sheet) _ (some_key (goal.at.returns-in-Ok c).Else-key-eq0) _ c.search.ensures _ c.in-Ok.is

pub returns-in-Err : goal.returns-in-Err
returns-in-Err c =
    find_absent federation_ready (sheet (goal.at.returns-in-Err c).In_ok-sheet) _ (some_key (goal.at.returns-in-Err c).Else-key-eq0) _ c.search.ensures _ c.in-Err.is

pub returns-in_err-sheet : goal.returns-in_err-sheet
unfolding looked_at
returns-in_err-sheet c =
    rw (passed_on c.from_residual.ensures.1) (store_refused federation _ _ _ _ (find _) refl [] c.examine.ensures.opening.found c.in_err-sheet.was)
