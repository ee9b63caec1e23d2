-- `admit_rank` meets its contract.
use mathlib.Core.Path.{◌∙◌}
use Rattle.call_open.specs.ArgumentLaws.{still_refused, rank_refused, rank_admitted}
use Rattle.call_open.specs.PassedLaws.{passed_on}
use Rattle.call_open.proofs.admit_rank.Goals as goal

pub returns-in_err-sheet : goal.returns-in_err-sheet
returns-in_err-sheet c = passed_on c.from_residual.ensures.1 ∙ still_refused _ c.in_err-sheet.was

pub returns-then-sheet-rank : goal.returns-then-sheet-rank
returns-then-sheet-rank c = rank_refused c.in_ok-sheet.was _ c.if-sheet-rank.true

pub returns : goal.returns
returns c = rank_admitted c.in_ok-sheet.was _ c.if-sheet-rank.false
