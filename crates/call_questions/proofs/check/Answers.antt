-- `check` meets its contract.
use mathlib.Core.Path.{sym, ◌∙◌}
use Rattle.call_outcomes.specs.PlainCalls.{count_of}
use Rattle.call_open.specs.ArgumentLaws.{admitted_check}
use Rattle.call_open.specs.PassedLaws.{passed_on}
use Rattle.call_questions.proofs.AnswerLaws.{answers_refused, check_answer}
use Rattle.call_questions.proofs.check.Goals as goal

pub returns-in_err-sheet : goal.returns-in_err-sheet
returns-in_err-sheet c =
    rw (passed_on c.from_residual.ensures.1) (answers_refused count_of _ (sym (admitted_check _) ∙ c.in_err-sheet.was))

pub returns : goal.returns
returns c = check_answer _ c.in_ok-sheet.was
