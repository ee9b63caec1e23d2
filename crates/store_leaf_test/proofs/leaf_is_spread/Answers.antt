-- `leaf_is_spread` meets its contract. The loop's invariant: the places of the first k entries are not empty, and the position is that of
-- entry k.
use mathlib.Core.Path.{sym}
use Prim.Native.Nat.{◌+◌, ◌<◌}
use lib.ListN.{length, get_or}
use native.Mathlib.Nat.{not-suc-le-zero}
use native.Mathlib.Omega.{arith}
use borrow.Author.Count.{below_more}
use Rattle.store_layout.specs.Leaf.{slot_of}
use Rattle.store_leaf_test.specs.LeafCheck.{other_number, place_empty, places_full}
use Rattle.store_leaf_test.specs.Ready.{LeafTestReady}
use Rattle.store_layout.proofs.QuotientLaws.{stands_slot, stands_inside, next_room, next_stands}
use Rattle.store_leaf_test.proofs.leaf_is_spread.Goals.{In-loop-k}
use Rattle.store_leaf_test.proofs.leaf_is_spread.Goals as goal

-- At each turn the leaf is as it was, and the position is inside it.
ready : (c : In-loop-k)
    → let a = c.args in LeafTestReady a.slots.now a.from a.s a.n
ready c = c.requires

inside : (c : In-loop-k)
    → let a = c.args in a.from + c.loop-k.position.whole < length a.slots.now
inside c = omega (arith, (ready c).slots_room, stands_inside c.loop-k.invariant.1 c.loop-k-test.true (ready c).fit)

pub returns-then-entries_in-n : goal.returns-then-entries_in-n
returns-then-entries_in-n c = sym (other_number c.requires c.entries_in.ensures c.if-entries_in-n.true)

pub loop-k-init : goal.loop-k-init
loop-k-init c = (λ j h. absurd (not-suc-le-zero h), record { is = c.first_position-position.ensures })

pub overflow_add-from : goal.overflow_add-from
overflow_add-from c = omega (arith, inside c)

pub offset_bounds-slots-from : goal.offset_bounds-slots-from
offset_bounds-slots-from c = omega (arith, inside c)

pub bounds-slots-from : goal.bounds-slots-from
bounds-slots-from c = omega (arith, inside (goal.at.bounds-slots-from c).In-loop-k)

pub returns-then-slots-from-eq0 : goal.returns-then-slots-from-eq0
returns-then-slots-from-eq0 c =
    let l = c.loop-k in
    sym
    (place_empty (ready (goal.at.returns-then-slots-from-eq0 c).In-loop-k) l._k c.loop-k-test.true (rw (← stands_slot l.invariant.1 c.loop-k-test.true) c.if-slots-from-eq0.true))

pub plus-position-requires : goal.plus-position-requires
plus-position-requires c =
    let both = next_room c.loop-k.invariant.1 c.position_step-step.ensures c.loop-k-test.true (ready (goal.at.plus-position-requires c).In-loop-k).fit (ready (goal.at.plus-position-requires c).In-loop-k).small in record { wholes = both.0; rests = both.1 }

pub loop-k-preserved : goal.loop-k-preserved
loop-k-preserved c =
    let l = c.loop-k in
    let a = c.args in (
      below_more (λ j. 0 < get_or a.slots.now (a.from + slot_of a.s a.n j) 0) l._k l.invariant.0
          (rw (← stands_slot l.invariant.1 c.loop-k-test.true) (omega (arith, c.if-slots-from-eq0.false))),
      next_stands l.invariant.1 c.position_step-step.ensures c.loop-k-test.true c.plus-position.ensures,
    )

pub returns : goal.returns
returns c =
    sym
    (places_full c.requires c.entries_in.ensures (omega (arith, c.if-entries_in-n.false))
    (λ k h. c.loop-k.invariant.0 k (omega (arith, h, c.loop-k-test.false))))
