-- `delete` meets its contract.
use mathlib.Core.Path.{◌≡◌, sym, ◌∙◌}
use Rattle.tree_rules.specs.declared.Change.TheVariants.{Delete}
use Rattle.call_outcomes.specs.Causes.{accept, decision}
use Rattle.call_outcomes.specs.Clubs.{clubs}
use Rattle.call_outcomes.proofs.ClubsLaws.{clubs_ready}
use Rattle.std.specs.Prelude.{Ok}
use Rattle.call_open.specs.Opening.{OpenedStore}
use Rattle.call_open.specs.AdmittedLaws.{opened_store, found_sheet, found_free, call_refused}
use Rattle.call_open.specs.PassedLaws.{passed_on}
use Rattle.call_timed.specs.Timed.{timed_view, delete_rank, timed, delete, timed_store_of, timed_numbers}
use Rattle.timed_answers.specs.EntryLaws.{change_ready, change_done, delete_decided, delete_opened, delete_plainly}
use Rattle.timed_calls.proofs.delete.Goals.{In_ok-sheet}
use Rattle.timed_calls.proofs.delete.Goals as goal

-- The store is a timed sheet with these numbers.
found : (c : In_ok-sheet) → c.open-opened.result ≡ Ok c.in_ok-sheet.sheet
found c = found_sheet _ _ (sym c.admit_rank.ensures ∙ c.in_ok-sheet.was)

sheet : (c : In_ok-sheet)
    → let a = c.args in
    OpenedStore (timed_view clubs) timed_numbers (timed_store_of a.slots.now a.counts.now a.tallies.now a.balance.now) c.in_ok-sheet.sheet.n
    c.in_ok-sheet.sheet.m c.open-opened.new.work
sheet c = opened_store (timed_view clubs) timed_numbers _ c.open-opened.ensures.0 _ (found c)

-- No cause before 7 refuses the delete.
decided : (c : In_ok-sheet)
    → let a = c.args in
    decision (timed clubs) (delete a.rank) (timed_store_of a.slots.now a.counts.now a.tallies.now a.balance.now) ≡ accept (sheet c).contents
decided c = delete_decided clubs_ready (sheet c) _ (found_free _ _ (sym c.admit_rank.ensures ∙ c.in_ok-sheet.was))

pub change-requires : goal.change-requires
change-requires c =
    record { sheet = change_ready clubs_ready (sheet (goal.at.change-requires c).In_ok-sheet) (delete_rank _) (Delete _) 0 (delete_plainly _ _) (decided (goal.at.change-requires c).In_ok-sheet); same = c.open-opened.ensures.1.same (found (goal.at.change-requires c).In_ok-sheet) }

pub returns : goal.returns
returns c =
    change_done clubs_ready (sheet (goal.at.returns c).In_ok-sheet) (delete_rank _) (Delete _) 0 (delete_plainly _ _) (decided (goal.at.returns c).In_ok-sheet) _ c.change.ensures

pub returns-in_err-sheet : goal.returns-in_err-sheet
returns-in_err-sheet c =
    rw (passed_on c.from_residual.ensures.1) (call_refused (timed clubs) (delete _) _ (delete_opened clubs _ _ c.open-opened.ensures.0.found c.admit_rank.ensures) _ _ c.in_err-sheet.was)
