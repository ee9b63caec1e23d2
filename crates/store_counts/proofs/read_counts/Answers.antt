-- `read_counts` meets its contract.
use Prim.Native.Nat.{◌+◌, ◌^◌, ◌≤◌, ◌<◌}
use native.Mathlib.Omega.{arith}
use lib.ListN.{length}
use lib.Pow.{pow_pos}
use Rattle.tree_sizes.specs.Sizes.{height}
use Rattle.store_counts.specs.WholeLaws.{double, levels_below, whole_ready, numbers_read, table_read}
use Rattle.store_counts.proofs.read_counts.Goals.{After-height-levels}
use Rattle.store_counts.proofs.read_counts.Goals as goal

-- The tree is inside the slice, and so its levels are few.
room : (c : After-height-levels) → 2 ^ (c.height-levels.result + 1) ≤ length c.args.counts.now
room c = rw (c.height-levels.ensures, double (height c.args.size.m)) c.requires.room

below : (c : After-height-levels) → c.height-levels.result + 1 < 64
below c = rw c.height-levels.ensures (levels_below _ c.requires.room (omega arith))

pub overflow_add-levels : goal.overflow_add-levels
overflow_add-levels c = omega (arith, below c)

pub power-requires : goal.power-requires
power-requires c =
    record { fits = below c }

pub copy_rest-requires : goal.copy_rest-requires
copy_rest-requires c =
    record { lengths = c.requires.lengths; inside = (rw c.power.ensures (pow_pos _), rw c.power.ensures (room (goal.at.copy_rest-requires c).After-height-levels)) }

pub read_table-requires : goal.read_table-requires
read_table-requires c =
    let inside = rw c.if-levels-eq8.true at (room (goal.at.read_table-requires c).After-height-levels) in
    record { places = inside; ranges = rw c.copy_rest.ensures.same_length inside }

pub read_tree-requires : goal.read_tree-requires
read_tree-requires c =
    let rest = c.copy_rest.ensures in
    whole_ready _ (rw c.height-levels.ensures c.requires.room) rest.same_length (omega arith)

pub returns-then-levels-eq8 : goal.returns-then-levels-eq8
returns-then-levels-eq8 c =
    rw (← c.height-levels.ensures)
    (table_read _ c.power.ensures c.copy_rest.ensures c.if-levels-eq8.true c.read_table.ensures)

pub returns-else-levels-eq8 : goal.returns-else-levels-eq8
returns-else-levels-eq8 c =
    rw (← c.height-levels.ensures)
    (numbers_read _ c.power.ensures c.copy_rest.ensures c.read_tree.ensures)
