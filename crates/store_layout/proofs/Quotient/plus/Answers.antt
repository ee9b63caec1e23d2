-- `Quotient::plus` meets its contract.
use mathlib.Core.Path.{sym}
use Rattle.base.specs.CaseLaws.{if_lt_yes, if_lt_no}
use Rattle.store_layout.specs.Quotient.{added}
use Rattle.store_layout.proofs.Quotient.plus.Goals as goal

pub returns-then-rest-n : goal.returns-then-rest-n
unfolding added
returns-then-rest-n c = sym (if_lt_yes _ _ _ _ c.if-rest-n.true)

pub returns : goal.returns
unfolding added
returns c = sym (if_lt_no _ _ _ _ c.if-rest-n.false)
