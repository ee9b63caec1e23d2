-- `tree_rules::insert_swap` meets its contract: the body follows the cases of the definition.
use mathlib.Core.Path.{◌≡◌, sym, ◌∙◌}
use Rattle.std.specs.Prelude.{◌+◌, min}
use Rattle.base.specs.CaseLaws.{if_eq_yes, if_eq_no, if_lt_yes, if_lt_no}
use Rattle.tree_rules.specs.declared.Comparison.TheVariants.{Swapped}
use Rattle.tree_rules.specs.Swap.{insert_swap}
use Rattle.tree_rules.proofs.insert_swap.Goals as goal

pub returns-then-i-end : goal.returns-then-i-end
unfolding insert_swap
returns-then-i-end c = rw c.max-into.ensures (sym (if_eq_yes _ _ _ _ c.if-after-before.true ∙ if_lt_yes _ _ _ _ c.if-i-end.true))

pub returns-then-after-before : goal.returns-then-after-before
unfolding insert_swap
returns-then-after-before c = sym (if_eq_yes _ _ _ _ c.if-after-before.true ∙ if_lt_no _ _ _ _ c.if-i-end.false)

pub returns-then-before-i : goal.returns-then-before-i
unfolding insert_swap
returns-then-before-i c =
    let a = c.args in
    let defined : insert_swap a.i a.before a.after a.c ≡ Swapped a.before (min a.i (a.before + a.c)) =
    if_eq_no _ _ _ _ c.if-after-before.false ∙ if_lt_yes _ _ _ _ c.if-before-i.true in
    cc

pub returns : goal.returns
unfolding insert_swap
returns c = sym (if_eq_no _ _ _ _ c.if-after-before.false ∙ if_lt_no _ _ _ _ c.if-before-i.false)
