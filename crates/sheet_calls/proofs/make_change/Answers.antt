-- `make_change` meets its contract.
use Rattle.std.specs.Prelude.{Some}
use mathlib.Core.Path.{◌≡◌, refl, sym, ◌∙◌}
use Rattle.call_outcomes.specs.Causes.{decision}
use Rattle.call_outcomes.specs.PlainCalls.{plain_change, change_cause, changing}
use Rattle.call_outcomes.specs.Plain.{plain, plain_store_of}
use Rattle.call_outcomes.specs.Clubs.{clubs}
use Rattle.call_open.specs.Opening.{opened_as}
use Rattle.call_open.specs.AdmittedLaws.{found_sheet, change_opened, call_admitted, call_refused}
use Rattle.call_open.specs.PassedLaws.{passed_on, some_of, none_of}
use Rattle.sheet_calls.proofs.make_change.Goals.{After-admit_change, In_ok-made}
use Rattle.sheet_calls.proofs.make_change.Goals as goal

-- What is left of the look at the store decides the call.
left : (c : After-admit_change)
    → let a = c.args in
    c.admit_change.result
    ≡ opened_as (decision (plain clubs) (changing a.change a.entry) (plain_store_of a.slots.now a.counts.now a.tallies.now))
left c =
    let a = c.args in
    let made = plain_change a.change a.entry in
    change_opened (plain clubs) _ c.open-opened.ensures.0.found (change_cause 1024 made) made (λ list. refl) c.admit_change.ensures

pub open-opened-requires : goal.open-opened-requires
open-opened-requires c =
    record { counts32 = refl; work = refl }

pub make-requires : goal.make-requires
make-requires c =
    let w = c.open-opened.ensures in
    let found = found_sheet _ _ (sym c.admit_change.ensures ∙ c.in_ok-sheet.was) in
    record { sheet = record { admitted = call_admitted _ _ _ (left (goal.at.make-requires c).After-admit_change) c.in_ok-sheet.was; copied = w.0.copied found }; same = w.1.same found }

-- What became of the change.
made : (c : In_ok-made) → c.make.result ≡ Some c.in_ok-made.made
made c = some_of _ _ c.ok_or.ensures.value c.in_ok-made.was

pub returns-in_err-sheet : goal.returns-in_err-sheet
returns-in_err-sheet c =
    rw (passed_on c.from_residual.ensures.1) (call_refused _ _ _ (left (goal.at.returns-in_err-sheet c).After-admit_change) _ _ c.in_err-sheet.was)

pub returns-in_err-made : goal.returns-in_err-made
returns-in_err-made c =
    let ended = none_of c.make.result _ c.ok_or.ensures.value c.in_err-made.was in
    rw (passed_on c.from_residual-in_err-made.ensures.1, ended.1) (rw ended.0 at c.make.ensures.0)

pub returns : goal.returns
returns c = rw (made (goal.at.returns c).In_ok-made) at c.make.ensures.0
