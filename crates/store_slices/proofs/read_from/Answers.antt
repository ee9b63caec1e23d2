-- `read_from` meets its contract. The loop's invariant: `seen` of the wanted entries are copied, and those behind them are the entries of the
-- slots from `at` on.
use Prim.Native.Nat.{◌<◌}
use native.Mathlib.Omega.{arith}
use lib.ListN.{length, drop, length-drop}
use Rattle.store_layout.specs.Leaf.{nonzero}
use Rattle.store_slices.specs.ReadLaws.{Slot, slot_read, reading_none, reading_all, reading_same, reading_next}
use Rattle.store_slices.proofs.read_from.Invariants.{wanted}
use Rattle.store_slices.proofs.read_from.Goals.{In-loop-seen}
use Rattle.store_slices.proofs.read_from.Goals as goal

-- There is an entry more, and the slot that a turn reads.
more : (c : In-loop-seen)
    → let a = c.args in c.loop-seen.seen < length (wanted a.slots.now a.start a.first)
more c =
    let a = c.args in
    omega (arith, length-drop a.first (nonzero (drop a.start a.slots.now)))

slot : (c : In-loop-seen)
    → let a = c.args in
    Slot a.slots.now (wanted a.slots.now a.start a.first) c.loop-seen.seen c.loop-seen.at
slot c =
    let h = c.loop-seen in
    let a = c.args in
    slot_read a.slots.now (wanted a.slots.now a.start a.first) h.seen h.at h.invariant.1 (more c)

pub skip_entries-at-requires : goal.skip_entries-at-requires
skip_entries-at-requires c = omega arith

pub loop-seen-init : goal.loop-seen-init
loop-seen-init c = (omega arith, c.skip_entries-at.ensures.1, reading_none (omega arith))

pub offset_bounds-slots-at : goal.offset_bounds-slots-at
offset_bounds-slots-at c = omega (arith, (slot c).inside)

pub bounds-slots-at : goal.bounds-slots-at
bounds-slots-at c = (slot (goal.at.bounds-slots-at c).In-loop-seen).inside

pub overflow_add-at : goal.overflow_add-at
overflow_add-at c = omega (arith, (slot (goal.at.overflow_add-at c).In-loop-seen).inside)

pub loop-seen-smaller-then-x-ne0 : goal.loop-seen-smaller-then-x-ne0
loop-seen-smaller-then-x-ne0 c = omega (arith, (slot (goal.at.loop-seen-smaller-then-x-ne0 c).In-loop-seen).inside)

pub loop-seen-preserved-then-x-ne0 : goal.loop-seen-preserved-then-x-ne0
loop-seen-preserved-then-x-ne0 c =
    let h = c.loop-seen in (
      omega arith,
      (slot (goal.at.loop-seen-preserved-then-x-ne0 c).In-loop-seen).next c.if-x-ne0.true,
      reading_next h.invariant.2 _ (omega arith) (omega arith) (more (goal.at.loop-seen-preserved-then-x-ne0 c).In-loop-seen) ((slot (goal.at.loop-seen-preserved-then-x-ne0 c).In-loop-seen).entry c.if-x-ne0.true),
    )

pub loop-seen-smaller : goal.loop-seen-smaller
loop-seen-smaller c = omega (arith, (slot (goal.at.loop-seen-smaller c).In-loop-seen).inside)

pub loop-seen-preserved : goal.loop-seen-preserved
loop-seen-preserved c =
    let h = c.loop-seen in (h.invariant.0, (slot (goal.at.loop-seen-preserved c).In-loop-seen).empty c.if-x-ne0.false, reading_same h.invariant.2 _ (omega arith))

pub returns : goal.returns
returns c = reading_all c.loop-seen.invariant.2 (omega arith)
