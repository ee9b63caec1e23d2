-- `write_row` meets its contract. The loop's invariant: the numbers of the ranges before k are written.
use Prim.Native.Nat.{◌*◌, ◌^◌, ◌≤◌, ◌<◌}
use native.Mathlib.Omega.{arith}
use lib.ListN.{length}
use lib.Pow.{pow_mono}
use Rattle.store_order.proofs.CountOrderLaws.{place_low}
use Rattle.store_rows.specs.RowLaws.{next_written}
use Rattle.store_rows.proofs.write_row.Goals.{After-place_of-place, After-shared_slice_known-in-loop-k-1, In-loop-k, Start}
use Rattle.store_rows.proofs.write_row.Goals as goal

-- The tree is small.
few : (c : Start) → 2 * 2 ^ c.args.h ≤ 2 ^ 31
few c = omega (arith, pow_mono {i = c.args.h} {j = 30} (omega (arith, c.requires.most)))

-- The range is one of the tree, and so is its place.
range : (c : In-loop-k) → c.loop-k.k < 2 * 2 ^ c.args.h
range c =
    omega (arith, c.loop-k-test.true, c.requires.row.before, pow_mono c.requires.inside)

place : (c : After-place_of-place) → c.place_of-place.result < 2 * 2 ^ c.args.h
place c =
    rw c.place_of-place.ensures (place_low c.args.h c.loop-k.k (range (goal.at.After-place_of-place c).In-loop-k))

inside : (c : After-shared_slice_known-in-loop-k-1) → c.place_of-place.result < length c.loop-k.counts
inside c =
    omega (arith, place (goal.at.After-shared_slice_known-in-loop-k-1 c).After-place_of-place, c.loop-k.invariant.kept, c.requires.places)

pub bounds-numbers-k : goal.bounds-numbers-k
bounds-numbers-k c = omega (arith, range (goal.at.bounds-numbers-k c).In-loop-k, c.requires.ranges)

pub offset_bounds-counts-place : goal.offset_bounds-counts-place
offset_bounds-counts-place c = omega (arith, place (goal.at.offset_bounds-counts-place c).After-place_of-place, few (goal.at.offset_bounds-counts-place c).Start)

pub bounds-counts-place : goal.bounds-counts-place
bounds-counts-place c = inside c

pub loop-k-preserved : goal.loop-k-preserved
loop-k-preserved c =
    next_written c.loop-k.invariant c.loop-k.auto.k c.place_of-place.ensures (inside c)
