-- `first_position` meets its contract.
use mathlib.Core.Path.{sym}
use native.Mathlib.Omega.{arith}
use Rattle.base.specs.CaseLaws.{if_lt_no}
use Rattle.store_layout.specs.Quotient.{position_of}
use Rattle.store_layout.proofs.QuotientLaws.{first_half}
use Rattle.store_layout.proofs.first_position.Goals as goal

pub returns-then-n-eq0 : goal.returns-then-n-eq0
unfolding position_of
returns-then-n-eq0 c = sym (if_lt_no _ _ _ _ (omega (arith, c.if-n-eq0.true)))

pub returns : goal.returns
returns c =
    first_half _ _ _ c.requires.step (omega (arith, c.if-n-eq0.false))
