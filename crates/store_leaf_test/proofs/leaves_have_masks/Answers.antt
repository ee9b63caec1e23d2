-- `leaves_have_masks` meets its contract. The loop's invariant: the leaves of the counts seen so far are as they should be where `all` is true (`Remaining`).
use Rattle.std.proofs.Common.{ℕ, ◌+◌, ◌-◌, take, drop}
use Rattle.std.proofs.lemmas.List.Edits.{get_or-between}
use mathlib.Core.Path.{◌≡◌, refl, sym}
use Prim.Native.Nat.{◌*◌}
use lib.ListN.{get_or}
use native.Mathlib.Omega.{arith}
use Rattle.store_leaf_test.specs.Ready.{LeafTestReady}
use Rattle.store_masks.specs.Mask.{masks}
use Rattle.store_masks.specs.MaskLaws.{length_masks}
use Rattle.store_leaf_test.specs.LeavesCheck.{remaining_all, remaining_none, next_leaf, remaining_right, remaining_wrong}
use Rattle.store_leaf_test.specs.MaskCheck.{mask_right, mask_wrong}
use Rattle.store_leaf_test.proofs.leaves_have_masks.Goals.{In-loop-count, then-taken-table, else-taken-table}
use Rattle.store_leaf_test.proofs.leaves_have_masks.Goals as goal

-- The number of a turn's leaf.
abbrev number : In-loop-count → ℕ
number c = let a = c.args in get_or (take (a.first + a.leaves - a.first) (drop a.first a.counts.now)) c.loop-count.count-index 0

here : (c : In-loop-count) → number c ≡ get_or c.args.counts.now (c.args.first + c.loop-count.count-index) 0
here c = get_or-between c.args.counts.now c.args.first (c.args.first + c.args.leaves) c.loop-count.count-index 0 (omega arith)

-- At each turn the next leaf has its slots.
ready : (c : In-loop-count)
    → let a = c.args in
    LeafTestReady a.slots.now c.loop-count.from (3 * a.g) (number c)
ready c =
    next_leaf c.requires.ready c.loop-count.invariant (omega arith) (here c)

pub loop-count-init : goal.loop-count-init
loop-count-init c = remaining_all c.requires.ready

pub taken_slots-taken-requires : goal.taken_slots-taken-requires
taken_slots-taken-requires c =
    record { room = (ready (goal.at.taken_slots-taken-requires c).In-loop-count).slots_room; few = c.requires.few }

pub offset_bounds-table-n : goal.offset_bounds-table-n
offset_bounds-table-n c = omega (arith, (ready (goal.at.offset_bounds-table-n c).In-loop-count).fit, c.requires.few)

pub bounds-table-n : goal.bounds-table-n
bounds-table-n c =
    rw (c.requires.masks, length_masks (3 * c.args.g)) (omega (arith, (ready (goal.at.bounds-table-n c).In-loop-count).fit))

pub overflow_add-from : goal.overflow_add-from
overflow_add-from c = omega (arith, (ready (goal.at.overflow_add-from c).In-loop-count).slots_room)

pub loop-count-preserved : goal.loop-count-preserved
loop-count-preserved c =
    let n = number (goal.at.loop-count-preserved c).In-loop-count in
    let told : get_or c.args.table.now n 0 ≡ get_or (masks (3 * c.args.g)) n 0 = rw c.requires.masks in
    elim c.if-taken-table.branch [
      | then-taken-table w ↦
          rw w.all-is
          (remaining_wrong c.requires.ready c.loop-count.invariant (omega arith) (here (goal.at.loop-count-preserved c).In-loop-count) refl
          (mask_wrong (ready (goal.at.loop-count-preserved c).In-loop-count) c.taken_slots-taken.ensures told w.if-taken-table.true))
      | else-taken-table w ↦
          rw w.all-is
          (remaining_right c.requires.ready c.loop-count.invariant (omega arith) (here (goal.at.loop-count-preserved c).In-loop-count) refl
          (mask_right (ready (goal.at.loop-count-preserved c).In-loop-count) c.taken_slots-taken.ensures told w.if-taken-table.false))
    ]

pub returns : goal.returns
returns c = sym (remaining_none c.requires.ready c.loop-count.invariant (omega arith))
