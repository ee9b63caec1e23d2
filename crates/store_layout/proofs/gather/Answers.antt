-- `gather` meets its contract. The loop's invariant: the entries of the slots seen so far are gathered.
use Rattle.std.proofs.Common.{◌≡◌, ◌+◌, ◌-◌, ◌<◌, length, get_or, take, drop, arith}
use Rattle.std.proofs.lemmas.List.Edits.{get_or-between}
use Rattle.store_layout.proofs.GatherLoop.{gathered_none, gathered_zero, gather_room, gathered_entry}
use Rattle.store_layout.proofs.gather.Goals.{At-loop-slot, In-loop-slot, then-is_entry, else-is_entry}
use Rattle.store_layout.proofs.gather.Goals as goal

-- The list has room for one element more.
room : (c : At-loop-slot) → c.loop-slot.n < length c.loop-slot.list
room c = gather_room c.requires c.loop-slot.slot-index c.loop-slot.invariant

-- The slot of a turn.
here : (c : In-loop-slot)
    → let a = c.args in
    get_or (take (a.from + a.len - a.from) (drop a.from a.slots.now)) c.loop-slot.slot-index 0 ≡ get_or a.slots.now (a.from + c.loop-slot.slot-index) 0
here c = get_or-between c.args.slots.now c.args.from (c.args.from + c.args.len) c.loop-slot.slot-index 0 (omega arith)

pub loop-slot-init : goal.loop-slot-init
loop-slot-init c = gathered_none c.requires

pub bounds-list-n : goal.bounds-list-n
bounds-list-n c = room (goal.at.bounds-list-n c).At-loop-slot

pub loop-slot-preserved : goal.loop-slot-preserved
loop-slot-preserved c =
    let is = here (goal.at.loop-slot-preserved c).In-loop-slot in
    elim c.if-is_entry.branch [
      | then-is_entry w ↦ rw (w.n-is, is) (gathered_entry c.requires c.loop-slot.slot-index c.loop-slot.invariant (omega arith) (rw is at w.if-is_entry.true))
      | else-is_entry w ↦ rw (w.n-is, is) (gathered_zero c.requires c.loop-slot.slot-index c.loop-slot.invariant (omega arith) (rw is at w.if-is_entry.false))
    ]
