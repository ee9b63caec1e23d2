-- `write_balance` meets its contract. The loop's invariant is `Rows`.
use mathlib.Core.Path.{◌≡◌}
use Prim.Native.Nat.{ℕ, ◌+◌, ◌*◌, ◌^◌, ◌≤◌, ◌<◌}
use native.Mathlib.Omega.{arith}
use Rattle.std.proofs.Common.{rules, append-nil}
use Rattle.std.proofs.Math.Seq.{take-length, drop-length}
use lib.ListN.{length}
use lib.Pow.{pow_pos}
use Rattle.tree_sizes.specs.Sizes.{height}
use Rattle.tree_sizes.proofs.SizeLaws.{height_most}
use Rattle.store_balance.specs.RowLaws.{rows_none, rows_next, rows_all, row_room, row_small}
use Rattle.store_balance.proofs.write_balance.Goals.{After-height-levels, After-power, In-loop-levels}
use Rattle.store_balance.proofs.write_balance.Goals as goal

-- The size of the sheet.
abbrev size : After-height-levels → ℕ
size c = c.args.size.m

depth : (c : After-height-levels) → c.height-levels.result ≡ height (size c)
depth c = c.height-levels.ensures

-- The row has room, and its slots have numbers that the code can count to.
room : (c : In-loop-levels) → 2 * c.loop-levels.ranges ≤ length c.loop-levels.balance
room c =
    row_room c.loop-levels.invariant (omega arith) (rw (depth (goal.at.In-loop-levels c).After-height-levels) (omega arith))

small : (c : After-power)
    → (2 * c.loop-levels.ranges + 1) * (c.leaf_slots-leaf.result * c.power.result) < 2 ^ 62
small c =
    row_small c.loop-levels.invariant (omega arith) c.power.ensures (size (goal.at.After-power c).After-height-levels) (omega arith) (depth (goal.at.After-power c).After-height-levels) c.leaf_slots-leaf.ensures

-- The laws on lists are for a body that zeroes a part of the words: it is refused for what it leaves as it was.
pub loop-levels-init : goal.loop-levels-init
loop-levels-init c =
    let a = c.args in
    rows_none c.height-levels.result c.leaf_slots-leaf.result (length a.balance.now) a.slots.now _ (omega (arith, pow_pos (height (size c))))
    (search (rules, take-length a.balance.now, drop-length a.balance.now, append-nil)) (search rules)

pub power-requires : goal.power-requires
power-requires c =
    omega (arith, c.loop-levels.invariant.within, depth (goal.at.power-requires c).After-height-levels, height_most (size (goal.at.power-requires c).After-height-levels) 32 (omega arith) (omega arith))

pub overflow_mul-leaf : goal.overflow_mul-leaf
overflow_mul-leaf c = omega (arith, small c)

pub write_row-requires : goal.write_row-requires
write_row-requires c =
    record { room = room (goal.at.write_row-requires c).In-loop-levels; small = small c }

pub overflow_mul-ranges : goal.overflow_mul-ranges
overflow_mul-ranges c = omega (arith, room (goal.at.overflow_mul-ranges c).In-loop-levels)

pub loop-levels-preserved : goal.loop-levels-preserved
loop-levels-preserved c =
    rows_next c.loop-levels.invariant (omega arith) c.power.ensures c.write_row.ensures c.write_row.auto.balance

pub returns : goal.returns
returns c =
    rows_all c.loop-levels.invariant (size (goal.at.returns c).After-height-levels) (depth (goal.at.returns c).After-height-levels) c.leaf_slots-leaf.ensures (omega arith)
