-- `first_entry` meets its contract. The loop's invariant: the first entry from `from` on is the first of the slots that are left.
use mathlib.Core.Path.{sym, ◌∙◌}
use Rattle.store_balance.specs.FirstLaws.{first_start, first_none, first_found, first_next}
use Rattle.store_balance.proofs.first_entry.Goals as goal

pub loop-slot-init : goal.loop-slot-init
loop-slot-init c = first_start c.args.slots.now c.args.from c.min-start.result c.min-start.ensures

pub returns-then-slot-ne0 : goal.returns-then-slot-ne0
returns-then-slot-ne0 c = sym (c.loop-slot.invariant ∙ first_found _ c.loop-slot.slot-index c.loop-slot-test.true c.if-slot-ne0.true)

pub loop-slot-preserved : goal.loop-slot-preserved
loop-slot-preserved c = c.loop-slot.invariant ∙ first_next _ c.loop-slot.slot-index c.loop-slot-test.true c.if-slot-ne0.false

pub returns : goal.returns
returns c = sym (c.loop-slot.invariant ∙ first_none _ c.loop-slot.slot-index c.loop-slot-test.false)
