-- `add_rows` meets its contract. The loop's invariant: whatever numbers the leaves had, the rows up to the one reached have theirs.
use mathlib.Core.Path.{◌∙◌}
use Prim.Native.Nat.{ℕ, suc, ◌+◌, ◌*◌, ◌/◌, ◌≤◌}
use native.Mathlib.Omega.{arith}
use lib.ListN.{length}
use Rattle.store_sums.specs.Updating.{Updating}
use Rattle.store_sums.specs.UpdatingLaws.{updating_room, updating_small, updating_next, updating_all}
use Rattle.store_sums.proofs.add_rows.Goals.{At-loop-from, In-loop-from}
use Rattle.store_sums.proofs.add_rows.Goals as goal

-- How far the rows have their numbers where the loop's test is reached.
rows : (c : At-loop-from)
    → let w = c.requires in
    (levels : ℕ) × Updating w.measure w.start w.M w.slots levels c.loop-from.from c.loop-from.to c.loop-from.numbers
rows c = c.loop-from.invariant.1 c.requires

-- The row above is inside.
room : (c : In-loop-from) → 2 * (c.loop-from.to / 2 + 1) ≤ length c.loop-from.numbers
room c =
    let w = c.requires in
    omega (arith, updating_room (rows (goal.at.In-loop-from c).At-loop-from).1 w.sums (omega arith), c.loop-from.invariant.0, w.room)

pub add_halves-requires : goal.add_halves-requires
add_halves-requires c =
    let w = c.requires in
    let u = (rows (goal.at.add_halves-requires c).At-loop-from).1 in
    record { order = omega (arith, u.order); room = omega (arith, room (goal.at.add_halves-requires c).In-loop-from); small = λ k f t. updating_small u w.sums (omega arith) w.most k f (omega arith) }

pub loop-from-preserved : goal.loop-from-preserved
loop-from-preserved c = (
  c.add_halves.ensures.kept ∙ c.loop-from.invariant.0,
  λ w. let u = c.loop-from.invariant.1 w in (suc u.0, updating_next u.1 w.sums (omega arith) c.add_halves.ensures),
)

pub returns : goal.returns
returns c = record { kept = c.loop-from.invariant.0; all = λ w. updating_all (c.loop-from.invariant.1 w).1 (omega arith) }
