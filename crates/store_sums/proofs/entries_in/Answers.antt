-- `entries_in` meets its contract. The loop's invariant: the slots seen so far have so many entries.
use Rattle.std.proofs.Common.{◌≡◌, refl, ◌+◌, length, take, drop, length-take, length-drop, get_or-drop, arith}
use Rattle.std.proofs.lemmas.List.Edits.{get_or-between}
use Rattle.store_layout.specs.Leaf.{nonzero}
use Rattle.store_layout.proofs.LeafLaws.{nonzero_length, number_next}
use Rattle.store_sums.proofs.entries_in.Goals.{After-entry_in-entries}
use Rattle.store_sums.proofs.entries_in.Goals as goal

-- With the entry of the next slot.
next : (c : After-entry_in-entries)
    → let a = c.args in
    c.loop-slot.entries + c.entry_in-entries.result ≡ length (nonzero (take (c.loop-slot.slot-index + 1) (drop a.from a.slots.now)))
next c =
    let a = c.args in
    let i = c.loop-slot.slot-index in
    let slots = drop a.from a.slots.now in
    rw (number_next slots i (omega (arith, length-drop a.from a.slots.now)), get_or-drop a.from a.slots.now i 0)
    (omega (arith, c.loop-slot.invariant, rw (get_or-between a.slots.now a.from (a.from + a.len) i 0 (omega arith)) at c.entry_in-entries.ensures))

pub loop-slot-init : goal.loop-slot-init
unfolding nonzero
loop-slot-init c = refl

pub overflow_add-entries : goal.overflow_add-entries
overflow_add-entries c =
    let a = c.args in
    let n = c.loop-slot.slot-index + 1 in
    let slots = drop a.from a.slots.now in
    omega (arith, next c, nonzero_length (take n slots), length-take n slots)

pub loop-slot-preserved : goal.loop-slot-preserved
loop-slot-preserved c = next c
