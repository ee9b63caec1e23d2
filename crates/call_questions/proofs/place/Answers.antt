-- `place` meets its contract.
use mathlib.Core.Path.{◌≡◌, sym, ◌∙◌}
use native.Mathlib.Omega.{arith}
use Rattle.call_outcomes.specs.PlainCalls.{place_of, question_cause}
use Rattle.call_outcomes.specs.PlainCallLaws.{place_within}
use Rattle.call_open.specs.Opening.{admitted}
use Rattle.call_open.specs.PassedLaws.{passed_on}
use Rattle.std.specs.Prelude.{Ok}
use Rattle.call_open.specs.AdmittedLaws.{found_sheet, found_free}
use Rattle.call_questions.proofs.AnswerLaws.{asked_refused}
use Rattle.call_questions.specs.StartLaws.{entries_number}
use Rattle.call_questions.specs.TalliedLaws.{by_number}
use Rattle.call_questions.specs.PlaceLaws.{place_reply_lem}
use Rattle.call_questions.proofs.place.Goals.{In_ok-sheet}
use Rattle.call_questions.proofs.place.Goals as goal

-- The place is answered, on a plain sheet with an entry at this rank.
goes_on : (c : In_ok-sheet)
    → let a = c.args in
    admitted (question_cause (place_of a.rank)) a.opened ≡ Ok c.in_ok-sheet.sheet
goes_on c = sym c.admit_rank.ensures ∙ c.in_ok-sheet.was

pub placing_of-placing-requires : goal.placing_of-placing-requires
placing_of-placing-requires c =
    let found = found_sheet _ _ (goes_on c) in
    let within = place_within c.args.rank _ (found_free _ _ (goes_on c)) in
    record { sheet = by_number c.requires found; below = omega (arith, within, entries_number (c.requires.readable.sheet _ found)) }

pub returns : goal.returns
returns c = place_reply_lem _ _ _ (goes_on (goal.at.returns c).In_ok-sheet) c.placing_of-placing.ensures

pub returns-in_err-sheet : goal.returns-in_err-sheet
returns-in_err-sheet c =
    rw (passed_on c.from_residual.ensures.1) (asked_refused _ _ (sym c.admit_rank.ensures ∙ c.in_err-sheet.was) _ _)
