-- `place_of` meets its contract. The loop's invariant: k is within the tree whose places begin at `at`.
use Prim.Native.Nat.{ℕ, ◌+◌, ◌-◌, ◌*◌, ◌/◌, ◌^◌, ◌<◌}
use native.Mathlib.Omega.{arith}
use lib.Bits.{bit_and, and_mask}
use Rattle.store_rows.specs.Within.{Within}
use Rattle.store_rows.specs.WithinLaws.{within_whole, within_small, within_one, within_top, within_lower}
use Rattle.store_rows.proofs.place_of.Goals.{After-power-ranges}
use Rattle.store_rows.proofs.place_of.Goals as goal

-- The first place of its subtree.
abbrev from : After-power-ranges → ℕ
from c =
    let before = c.power-subtrees.result - 1 in
    c.loop-levels.at + before + bit_and (c.args.k / 2 ^ (c.loop-levels.below - c.loop-levels.levels / 2)) before * (c.power-ranges.result - 1)

subtree : (c : After-power-ranges)
    → Within c.args.h c.args.k (c.loop-levels.levels - c.loop-levels.levels / 2) (c.loop-levels.below - c.loop-levels.levels / 2) (from c)
subtree c =
    within_lower c.loop-levels.invariant c.loop-levels-test.true (omega (arith, c.if-below-top.false))
    (rw (c.power-subtrees.ensures, c.power-ranges.ensures, and_mask))

small : (c : After-power-ranges) → from c < 2 ^ 32
small c = within_small (subtree c) c.requires.most

pub loop-levels-init : goal.loop-levels-init
loop-levels-init c = within_whole c.args.h c.args.depth c.args.k c.requires.most c.requires.inside c.requires.row.0 c.requires.row.1

pub loop-levels-preserved-then-below-top : goal.loop-levels-preserved-then-below-top
loop-levels-preserved-then-below-top c = within_top c.loop-levels.invariant c.loop-levels-test.true c.if-below-top.true

pub overflow_add-at-else-below-top : goal.overflow_add-at-else-below-top
overflow_add-at-else-below-top c = omega (arith, small c)

pub loop-levels-preserved : goal.loop-levels-preserved
loop-levels-preserved c = subtree c

pub returns : goal.returns
returns c = within_one c.loop-levels.invariant c.loop-levels-test.false
