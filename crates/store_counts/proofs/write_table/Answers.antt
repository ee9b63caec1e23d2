-- `write_table` meets its contract. The loop's invariant: the counts of the first i ranges are copied.
use mathlib.Core.Path.{◌≡◌, refl}
use Prim.Native.Nat.{◌<◌}
use native.Mathlib.Omega.{arith}
use lib.ListN.{get_or, length-set}
use Rattle.store_order.specs.PlacesLaws.{places_none_to, places_next_to}
use Rattle.store_counts.specs.WholeLaws.{table_entry, table_inside}
use Rattle.store_counts.proofs.write_table.Goals.{In-loop-i}
use Rattle.store_counts.proofs.write_table.Goals as goal

pub loop-i-init : goal.loop-i-init
loop-i-init c = (refl, places_none_to 7 0 _ _)

-- The place is inside.
inside : (c : In-loop-i) → get_or c.places_of_eight_levels-places.result c.loop-i.i 0 < 256
inside c = table_inside c.places_of_eight_levels-places.ensures c.loop-i.i (omega arith)

pub offset_bounds-counts-place : goal.offset_bounds-counts-place
offset_bounds-counts-place c = omega (arith, inside (goal.at.offset_bounds-counts-place c).In-loop-i)

pub bounds-counts-place : goal.bounds-counts-place
bounds-counts-place c = omega (arith, inside (goal.at.bounds-counts-place c).In-loop-i, c.loop-i.invariant.0)

pub loop-i-preserved : goal.loop-i-preserved
loop-i-preserved c =
    let l = c.loop-i in (
      simp length-set l.invariant.0,
      rw (table_entry c.places_of_eight_levels-places.ensures l.i (omega arith)) (places_next_to 7 l.i _ _ l.invariant.1),
    )

pub returns : goal.returns
returns c =
    let l = c.loop-i in
    let e : l.i ≡ 255 = omega arith in
    rw (← e) l.invariant.1
