-- `entry_slot` meets its contract. The loop's invariant: of the entries from `start` on, those from the number `number` on are those of the
-- slots from `at` on, which is not before `start`.
use native.Mathlib.Omega.{arith}
use lib.ListN.{drop}
use Rattle.store_layout.specs.Leaf.{nonzero}
use Rattle.store_slices.specs.ReadLaws.{Slot, slot_read}
use Rattle.store_slices.proofs.entry_slot.Goals.{At-loop-at}
use Rattle.store_slices.proofs.entry_slot.Goals as goal

-- The slot that a turn reads.
slot : (c : At-loop-at)
    → let a = c.args in
    Slot a.slots.now (nonzero (drop a.start a.slots.now)) a.number c.loop-at.at
slot c =
    let slots = c.args.slots.now in
    slot_read slots (nonzero (drop c.args.start slots)) c.args.number c.loop-at.at c.loop-at.invariant.1 c.requires.entries

pub skip_entries-at-requires : goal.skip_entries-at-requires
skip_entries-at-requires c = omega arith

pub loop-at-init : goal.loop-at-init
loop-at-init c = (c.skip_entries-at.ensures.0, c.skip_entries-at.ensures.1)

pub offset_bounds-slots-at : goal.offset_bounds-slots-at
offset_bounds-slots-at c = omega (arith, (slot c).inside)

pub bounds-slots-at : goal.bounds-slots-at
bounds-slots-at c = (slot (goal.at.bounds-slots-at c).At-loop-at).inside

pub overflow_add-at : goal.overflow_add-at
overflow_add-at c = omega (arith, (slot (goal.at.overflow_add-at c).At-loop-at).inside)

pub loop-at-smaller : goal.loop-at-smaller
loop-at-smaller c = omega (arith, (slot (goal.at.loop-at-smaller c).At-loop-at).inside)

pub loop-at-preserved : goal.loop-at-preserved
loop-at-preserved c = (omega arith, (slot (goal.at.loop-at-preserved c).At-loop-at).empty c.loop-at-test.true)

pub returns : goal.returns
returns c =
    record { forward = c.loop-at.invariant.0; inside = (slot (goal.at.returns c).At-loop-at).inside; entry = omega (arith, c.loop-at-test.false); rest = c.loop-at.invariant.1 }
