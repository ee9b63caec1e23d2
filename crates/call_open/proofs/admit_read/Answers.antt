-- `admit_read` meets its contract.
use mathlib.Core.Path.{◌∙◌}
use Rattle.call_open.specs.ArgumentLaws.{still_refused, read_first, read_last, read_order, read_short, read_admitted}
use Rattle.call_open.specs.PassedLaws.{passed_on}
use Rattle.call_open.proofs.admit_read.Goals as goal

pub returns-in_err-sheet : goal.returns-in_err-sheet
returns-in_err-sheet c = passed_on c.from_residual.ensures.1 ∙ still_refused _ c.in_err-sheet.was

pub returns-then-sheet-first : goal.returns-then-sheet-first
returns-then-sheet-first c = read_first c.in_ok-sheet.was _ _ _ c.if-sheet-first.true

pub returns-then-sheet-last : goal.returns-then-sheet-last
returns-then-sheet-last c = read_last c.in_ok-sheet.was _ _ _ c.if-sheet-last.true

pub returns-then-last-first : goal.returns-then-last-first
returns-then-last-first c = read_order c.in_ok-sheet.was _ _ _ c.if-last-first.true

pub returns-then-room-last : goal.returns-then-room-last
returns-then-room-last c =
    read_short c.in_ok-sheet.was _ _ _ c.if-sheet-first.false c.if-sheet-last.false c.if-last-first.false c.if-room-last.true

pub returns : goal.returns
returns c =
    read_admitted c.in_ok-sheet.was _ _ _ c.if-sheet-first.false c.if-sheet-last.false c.if-last-first.false c.if-room-last.false
