-- `right_lengths` meets its contract.
use borrow.Author.Tests.{ne_eqb, eq-eqb}
use Rattle.sheet_open.proofs.right_lengths.Goals as goal

pub returns-then-slots-cap : goal.returns-then-slots-cap
returns-then-slots-cap c = rw (ne_eqb _ _ c.if-slots-cap.true)

pub returns-then-counts-cap : goal.returns-then-counts-cap
returns-then-counts-cap c = rw (eq-eqb _ _ c.if-slots-cap.false, ne_eqb _ _ c.if-counts-cap.true)

pub returns : goal.returns
returns c = rw (eq-eqb _ _ c.if-slots-cap.false, eq-eqb _ _ c.if-counts-cap.false)
