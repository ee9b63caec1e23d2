-- What is known of the part of a change that can be written.
use Rattle.std.specs.Prelude.{List, ℕ, ◌-◌, ◌≤◌, ◌<◌, length, get_or}
use Rattle.std.proofs.Math.Nat.{mul-le-mul_left}
use Rattle.std.proofs.Common.{arith}
use Rattle.std.proofs.Math.Pow.{pow_pos}
use Rattle.tree_sizes.specs.Sizes.{height}
use Rattle.tree_rules.specs.ChangeLaws.{count_least}
use Rattle.store_layout.specs.Layout.{Store}
use Rattle.store_part.specs.Region.{leaves_of}
use Rattle.call_change.specs.declared.DrawnChange.{DrawnChange}
use Rattle.call_change.specs.SheetChange.{entries_before, WriteReady}

module _ {d : DrawnChange} {store : Store} {work : List ℕ} (w : WriteReady d store work) where
  -- the work array has a number 0, the size parameter
  pub some_number : 0 < length work
  some_number = omega (arith, w.room, pow_pos (height d.new))

  -- the work array has a count for its range
  pub range_inside : d.part.range < length work
  unfolding leaves_of
  range_inside =
      let leaves = pow_pos (height d.new - d.part.depth) in
      omega (arith, leaves, mul-le-mul_left d.part.range leaves, w.part_ready.counts_room)

  -- with fewer than k entries after the change it has at most k before it
  pub before_most : (k : ℕ) → get_or work d.part.range 0 < k → length (entries_before d store.slots) ≤ k
  before_most k few = omega (arith, w.count, count_least d.change (length (entries_before d store.slots)))
