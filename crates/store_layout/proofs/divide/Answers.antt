-- `divide` meets its contract.
use mathlib.Core.Path.{refl}
use native.Mathlib.Nat.{div-zero, mod-zero}
use Rattle.store_layout.specs.Quotient.{divided}
use Rattle.store_layout.proofs.divide.Goals as goal

pub returns-then-n-eq0 : goal.returns-then-n-eq0
unfolding divided
returns-then-n-eq0 c = let a = c.args in rw (c.if-n-eq0.true, div-zero a.x, mod-zero a.x)

pub returns : goal.returns
unfolding divided
returns c = refl
