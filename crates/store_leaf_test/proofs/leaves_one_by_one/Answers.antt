-- `leaves_one_by_one` meets its contract. The loop's invariant: the leaves of the counts seen so far are as they should be (`Remaining`).
use Rattle.std.proofs.Common.{◌≡◌, ℕ, ◌+◌, ◌-◌, get_or, take, drop}
use Rattle.std.proofs.lemmas.List.Edits.{get_or-between}
use mathlib.Core.Path.{sym}
use native.Mathlib.Omega.{arith}
use Rattle.store_leaf_test.specs.Ready.{LeafTestReady}
use Rattle.store_leaf_test.specs.LeavesCheck.{remaining_all, remaining_none, next_leaf, remaining_right, remaining_wrong, remaining_broken}
use Rattle.store_leaf_test.proofs.leaves_one_by_one.Goals.{In-loop-count}
use Rattle.store_leaf_test.proofs.leaves_one_by_one.Goals as goal

-- The number of a turn's leaf.
abbrev number : In-loop-count → ℕ
number c = let a = c.args in get_or (take (a.first + a.leaves - a.first) (drop a.first a.counts.now)) c.loop-count.count-index 0

here : (c : In-loop-count) → number c ≡ get_or c.args.counts.now (c.args.first + c.loop-count.count-index) 0
here c = get_or-between c.args.counts.now c.args.first (c.args.first + c.args.leaves) c.loop-count.count-index 0 (omega arith)

-- At each turn the next leaf has its slots.
ready : (c : In-loop-count)
    → let a = c.args in
    LeafTestReady a.slots.now c.loop-count.from a.s (number c)
ready c =
    next_leaf c.requires c.loop-count.invariant (omega arith) (here c)

pub loop-count-init : goal.loop-count-init
loop-count-init c = remaining_all c.requires

pub leaf_is_spread-requires : goal.leaf_is_spread-requires
leaf_is_spread-requires c = ready (goal.at.leaf_is_spread-requires c).In-loop-count

pub returns-then-not-leaf_is_spread : goal.returns-then-not-leaf_is_spread
returns-then-not-leaf_is_spread c =
    sym
    (remaining_broken c.requires
    (remaining_wrong c.requires c.loop-count.invariant (omega arith) (here (goal.at.returns-then-not-leaf_is_spread c).In-loop-count)
    c.leaf_is_spread.ensures c.if-not-leaf_is_spread.true))

pub overflow_add-from : goal.overflow_add-from
overflow_add-from c = omega (arith, (ready (goal.at.overflow_add-from c).In-loop-count).slots_room)

pub loop-count-preserved : goal.loop-count-preserved
loop-count-preserved c =
    remaining_right c.requires c.loop-count.invariant (omega arith) (here (goal.at.loop-count-preserved c).In-loop-count)
    c.leaf_is_spread.ensures c.if-not-leaf_is_spread.false

pub returns : goal.returns
returns c = sym (remaining_none c.requires c.loop-count.invariant (omega arith))
