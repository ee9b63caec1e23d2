-- `all_score` meets its contract.
use borrow.Author.Tests.{ne_eqb, eq-eqb}
use Rattle.sheet_clubs_change.proofs.all_score.Goals as goal

pub returns-then-root-n : goal.returns-then-root-n
returns-then-root-n c = rw (ne_eqb _ _ c.if-root-n.true)

pub returns : goal.returns
returns c = rw (eq-eqb _ _ c.if-root-n.false, c.is_retired.ensures)
