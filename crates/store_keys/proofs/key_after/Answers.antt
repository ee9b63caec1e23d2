-- `key_after` meets its contract.
use mathlib.Core.Path.{sym, ◌∙◌}
use Rattle.base.specs.CaseLaws.{if_eq_yes, if_eq_no}
use Rattle.store_keys.specs.Passed.{key_after}
use Rattle.store_keys.proofs.key_after.Goals as goal

pub returns-then-held-eq0 : goal.returns-then-held-eq0
unfolding key_after
returns-then-held-eq0 c = sym (if_eq_yes c.args.held 0 _ _ c.if-held-eq0.true)

pub returns : goal.returns
unfolding key_after
returns c = c.key.ensures ∙ sym (if_eq_no c.args.held 0 _ _ c.if-held-eq0.false)
