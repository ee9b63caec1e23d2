-- `position_step` meets its contract.
use mathlib.Core.Path.{ap, ◌∙◌}
use Prim.Native.Nat.{◌*◌}
use native.Mathlib.Nat.{mod-le}
use borrow.Author.Rules.{rules}
use Rattle.store_layout.specs.declared.Quotient.{Quotient}
use Rattle.store_layout.specs.Quotient.{divided}
use Rattle.store_layout.proofs.QuotientLaws.{step_is}
use Rattle.store_layout.proofs.position_step.Goals as goal

pub overflow_mul-result : goal.overflow_mul-result
unfolding divided
overflow_mul-result c =
    search (rules, ap (λ (q : Quotient). q.rest) c.divide-by.ensures, mod-le c.args.s c.args.n, c.requires)

pub returns : goal.returns
unfolding divided
returns c = ap (λ (q : Quotient). record { whole = q.whole; rest = 2 * q.rest }) c.divide-by.ensures ∙ step_is _ _
