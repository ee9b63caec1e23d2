-- `tally_before` meets its contract. The loop's invariant is `OnPath`.
use Prim.Native.Nat.{◌+◌, ◌-◌, ◌*◌, ◌^◌, ◌≤◌, ◌<◌}
use native.Mathlib.Omega.{arith}
use lib.ListN.{length, get_or}
use Rattle.tree_sizes.proofs.SizeLaws.{height_most}
use Rattle.store_tallies.specs.PathLaws.{path_root, path_halves, path_left, path_right, path_end}
use Rattle.store_tallies.proofs.tally_before.Goals.{After-height-levels, After-shared_slice_known-then-k-power-1, In-loop-levels}
use Rattle.store_tallies.proofs.tally_before.Goals as goal

-- The tree has few levels.
deep : (c : After-height-levels) → c.height-levels.result ≤ 32
deep c = rw c.height-levels.ensures (height_most c.args.size.m 32 (omega arith) (omega arith))

-- The halves of a range have tallies, and the leaves below them have numbers that the code can count to.
halves : (c : In-loop-levels)
    → let l = c.loop-levels in
    let room = length c.args.tallies.now in
    (2 * l.k + 1 < room) × ((2 * l.k + 1 + 1) * 2 ^ (l.levels - 1) ≤ room)
halves c =
    let few = path_halves c.loop-levels.levels c.loop-levels.invariant c.loop-levels-test.true in
    let all : 2 * 2 ^ c.height-levels.result ≤ length c.args.tallies.now =
    rw c.height-levels.ensures c.requires.room in
    (omega (arith, few.0), omega (arith, few.1))

-- A tally has 32 bits.
word : (c : After-shared_slice_known-then-k-power-1)
    → get_or c.args.tallies.now (2 * c.loop-levels.k) 0 < 2 ^ 32
word c = omega (arith, c.type_inv.tallies (2 * c.loop-levels.k))

pub loop-levels-init : goal.loop-levels-init
loop-levels-init c = path_root

pub overflow_mul-k : goal.overflow_mul-k
overflow_mul-k c = omega (arith, (halves c).0)

pub overflow_add-k : goal.overflow_add-k
overflow_add-k c = omega (arith, (halves c).0)

pub power-requires : goal.power-requires
power-requires c = omega (arith, deep (goal.at.power-requires c).After-height-levels, c.loop-levels.invariant.within)

pub overflow_mul-k-in-loop-levels : goal.overflow_mul-k-in-loop-levels
overflow_mul-k-in-loop-levels c = rw c.power.ensures (omega (arith, (halves (goal.at.overflow_mul-k-in-loop-levels c).In-loop-levels).1))

pub offset_bounds-tallies-k : goal.offset_bounds-tallies-k
offset_bounds-tallies-k c = omega (arith, (halves (goal.at.offset_bounds-tallies-k c).In-loop-levels).0)

pub bounds-tallies-k : goal.bounds-tallies-k
bounds-tallies-k c = omega (arith, (halves (goal.at.bounds-tallies-k c).In-loop-levels).0)

pub overflow_add-sum : goal.overflow_add-sum
overflow_add-sum c =
    omega (arith, word c, c.loop-levels.invariant.few, deep (goal.at.overflow_add-sum c).After-height-levels)

pub overflow_add-k-then-k-power : goal.overflow_add-k-then-k-power
overflow_add-k-then-k-power c = omega (arith, (halves (goal.at.overflow_add-k-then-k-power c).In-loop-levels).0)

pub loop-levels-preserved-then-k-power : goal.loop-levels-preserved-then-k-power
loop-levels-preserved-then-k-power c =
    path_right c.loop-levels.levels c.loop-levels.invariant c.loop-levels-test.true (rw c.power.ensures at c.if-k-power.true) (word c)

pub loop-levels-preserved : goal.loop-levels-preserved
loop-levels-preserved c =
    path_left c.loop-levels.levels c.loop-levels.invariant c.loop-levels-test.true (rw c.power.ensures at c.if-k-power.false)

pub returns : goal.returns
returns c =
    rw (← c.height-levels.ensures) (path_end c.loop-levels.levels c.loop-levels.invariant (omega arith))
