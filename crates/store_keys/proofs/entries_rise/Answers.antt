-- `entries_rise` meets its contract. The loop's invariant: whether the entries rise is told by `rising` and by those of the slots that are
-- left, above `last`.
use Rattle.std.proofs.Common.{rules, refl, sym, ap, ◌∙◌, List, ℕ}
use Rattle.store_layout.specs.Leaf.{nonzero}
use Rattle.store_keys.specs.Key.{rises}
use Rattle.store_keys.specs.PassedLaws.{pass_slot, pass_all}
use Rattle.store_keys.proofs.entries_rise.Goals as goal

pub loop-held-init : goal.loop-held-init
loop-held-init c = refl

pub loop-held-preserved : goal.loop-held-preserved
loop-held-preserved c =
    rw (c.is_above-rising.ensures, c.key_after-last.ensures)
    (c.loop-held.invariant ∙ pass_slot _ c.loop-held.held-index c.loop-held.last c.loop-held.rising c.loop-held-test.true)

-- The slots of the loop are those before `end`, which a body that looks at fewer is refused for.
pub returns : goal.returns
returns c =
    sym (c.loop-held.invariant ∙ pass_all _ c.loop-held.held-index c.loop-held.last c.loop-held.rising c.loop-held-test.false)
    ∙ ap (λ (xs : List ℕ). rises (nonzero xs)) (search rules)
