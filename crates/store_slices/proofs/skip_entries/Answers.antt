-- `skip_entries` meets its contract. The loop's invariant: of the entries from `start` on, those behind the first `seen` are those of the slots
-- from `at` on, which is not before `start`.
use mathlib.Core.Path.{◌≡◌, refl, ap, ◌∙◌}
use Prim.Native.Nat.{ℕ}
use native.Mathlib.Omega.{arith}
use lib.ListN.{drop}
use Rattle.store_layout.specs.Leaf.{nonzero}
use Rattle.store_slices.specs.ReadLaws.{Slot, slot_read}
use Rattle.store_slices.proofs.skip_entries.Goals.{In-loop-seen}
use Rattle.store_slices.proofs.skip_entries.Goals as goal

-- The slot that a turn reads.
slot : (c : In-loop-seen)
    → let a = c.args in
    Slot a.slots.now (nonzero (drop a.start a.slots.now)) c.loop-seen.seen c.loop-seen.at
slot c =
    let h = c.loop-seen in
    let a = c.args in
    slot_read a.slots.now (nonzero (drop a.start a.slots.now)) h.seen h.at h.invariant.1 (omega arith)

pub loop-seen-init : goal.loop-seen-init
loop-seen-init c = (omega arith, refl, omega arith)

pub offset_bounds-slots-at : goal.offset_bounds-slots-at
offset_bounds-slots-at c = omega (arith, (slot c).inside)

pub bounds-slots-at : goal.bounds-slots-at
bounds-slots-at c = (slot (goal.at.bounds-slots-at c).In-loop-seen).inside

pub overflow_add-at : goal.overflow_add-at
overflow_add-at c = omega (arith, (slot (goal.at.overflow_add-at c).In-loop-seen).inside)

pub loop-seen-smaller-then-x-ne0 : goal.loop-seen-smaller-then-x-ne0
loop-seen-smaller-then-x-ne0 c = omega (arith, (slot (goal.at.loop-seen-smaller-then-x-ne0 c).In-loop-seen).inside)

pub loop-seen-preserved-then-x-ne0 : goal.loop-seen-preserved-then-x-ne0
loop-seen-preserved-then-x-ne0 c = let s = slot (goal.at.loop-seen-preserved-then-x-ne0 c).In-loop-seen in (omega arith, s.next c.if-x-ne0.true, omega arith)

pub loop-seen-smaller : goal.loop-seen-smaller
loop-seen-smaller c = omega (arith, (slot (goal.at.loop-seen-smaller c).In-loop-seen).inside)

pub loop-seen-preserved : goal.loop-seen-preserved
loop-seen-preserved c = let s = slot (goal.at.loop-seen-preserved c).In-loop-seen in (omega arith, s.empty c.if-x-ne0.false, omega arith)

pub returns : goal.returns
returns c =
    let a = c.args in
    let all : a.first ≡ c.loop-seen.seen = omega arith in
    (c.loop-seen.invariant.2, ap (λ (x : ℕ). drop x (nonzero (drop a.start a.slots.now))) all ∙ c.loop-seen.invariant.1)
