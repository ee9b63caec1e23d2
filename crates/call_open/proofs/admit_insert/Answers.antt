-- `admit_insert` meets its contract.
use mathlib.Core.Path.{◌∙◌}
use Rattle.call_open.specs.ArgumentLaws.{still_refused, insert_zero, insert_rank, insert_full, insert_admitted}
use Rattle.call_open.specs.PassedLaws.{passed_on}
use Rattle.call_open.proofs.admit_insert.Goals as goal

pub returns-in_err-sheet : goal.returns-in_err-sheet
returns-in_err-sheet c = passed_on c.from_residual.ensures.1 ∙ still_refused _ c.in_err-sheet.was

pub returns-then-entry-eq0 : goal.returns-then-entry-eq0
returns-then-entry-eq0 c = insert_zero c.in_ok-sheet.was _ _ _ c.if-entry-eq0.true

pub returns-then-sheet-rank : goal.returns-then-sheet-rank
returns-then-sheet-rank c = insert_rank c.in_ok-sheet.was _ _ _ c.if-entry-eq0.false c.if-sheet-rank.true

pub returns-then-entries-sheet : goal.returns-then-entries-sheet
returns-then-entries-sheet c =
    insert_full c.in_ok-sheet.was _ _ _ c.if-entry-eq0.false c.if-sheet-rank.false c.if-entries-sheet.true

pub returns : goal.returns
returns c =
    insert_admitted c.in_ok-sheet.was _ _ _ c.if-entry-eq0.false c.if-sheet-rank.false c.if-entries-sheet.false
