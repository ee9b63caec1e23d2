-- `write_counts` meets its contract.
use mathlib.Core.Path.{sym}
use Prim.Native.Nat.{◌+◌, ◌^◌, ◌≤◌, ◌<◌}
use native.Mathlib.Omega.{arith}
use lib.ListN.{length}
use lib.Pow.{pow_pos}
use Rattle.tree_sizes.specs.Sizes.{height}
use Rattle.store_counts.specs.WholeLaws.{double, levels_below, whole_ready, places_written, table_written}
use Rattle.store_counts.proofs.write_counts.Goals.{After-height-levels}
use Rattle.store_counts.proofs.write_counts.Goals as goal

-- The tree is inside the slice, and so its levels are few.
room : (c : After-height-levels) → 2 ^ (c.height-levels.result + 1) ≤ length c.args.work.now
room c = rw (c.height-levels.ensures, double (height c.args.size.m)) c.requires.room

below : (c : After-height-levels) → c.height-levels.result + 1 < 64
below c = rw c.height-levels.ensures (levels_below _ c.requires.room (omega arith))

pub overflow_add-levels : goal.overflow_add-levels
overflow_add-levels c = omega (arith, below c)

pub power-requires : goal.power-requires
power-requires c =
    record { fits = below c }

pub copy_rest-requires : goal.copy_rest-requires
copy_rest-requires c =
    record { lengths = c.requires.lengths; inside = (rw c.power.ensures (pow_pos _), rw c.power.ensures (room (goal.at.copy_rest-requires c).After-height-levels)) }

pub write_table-requires : goal.write_table-requires
write_table-requires c =
    let inside = rw c.if-levels-eq8.true at (room (goal.at.write_table-requires c).After-height-levels) in
    record { places = rw c.copy_rest.ensures.same_length inside; ranges = inside }

pub write_tree-requires : goal.write_tree-requires
write_tree-requires c =
    let rest = c.copy_rest.ensures in
    whole_ready _ (rw (c.height-levels.ensures, rest.same_length) c.requires.room) (sym rest.same_length) (omega (arith, rest.same_length))

pub returns-then-levels-eq8 : goal.returns-then-levels-eq8
returns-then-levels-eq8 c =
    rw (← c.height-levels.ensures)
    (table_written _ c.power.ensures c.copy_rest.ensures c.if-levels-eq8.true c.write_table.ensures)

pub returns-else-levels-eq8 : goal.returns-else-levels-eq8
returns-else-levels-eq8 c =
    rw (← c.height-levels.ensures)
    (places_written _ c.power.ensures c.copy_rest.ensures c.write_tree.ensures)
