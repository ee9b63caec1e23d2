-- `all_are_zero` meets its contract.
use Rattle.std.proofs.Common.{sym, ◌∙◌}
use Rattle.store_zeros.specs.ZeroLaws.{zero_joined, zero_joined_all}
use Rattle.store_zeros.proofs.all_are_zero.Goals as goal

pub loop-slot-preserved : goal.loop-slot-preserved
loop-slot-preserved c =
    c.loop-slot.invariant ∙ zero_joined c.args.slots.now c.loop-slot.slot-index c.loop-slot.joined c.loop-slot-test.true

pub returns : goal.returns
returns c =
    sym (c.loop-slot.invariant ∙ zero_joined_all c.args.slots.now c.loop-slot.slot-index c.loop-slot.joined c.loop-slot-test.false)
