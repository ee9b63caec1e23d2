-- `start_of` meets its contract. The loop's invariant is `Descent`.
use mathlib.Core.Path.{◌≡◌, ◌∙◌}
use Prim.Native.Nat.{ℕ, ◌+◌, ◌-◌, ◌*◌, ◌^◌, ◌<◌}
use native.Mathlib.Omega.{arith}
use lib.ListN.{length}
use Rattle.tree_sizes.specs.Sizes.{height}
use Rattle.tree_sizes.proofs.SizeLaws.{height_most}
use Rattle.store_rank.specs.Descent.{Descent}
use Rattle.store_rank.specs.DescentLaws.{descent_root, descent_halves, descent_left, descent_right, descent_leaf, descent_small, descent_start}
use Rattle.store_rank.proofs.start_of.Goals.{After-loop-depth, After-power, In-loop-depth, then-n-rest, else-n-rest}
use Rattle.store_rank.proofs.start_of.Goals as goal

-- How many levels the range of a turn has below it.
abbrev levels : In-loop-depth → ℕ
levels c = c.height-h.result - c.loop-depth._depth

-- The halves of a range have counts.
halves : (c : In-loop-depth) → 2 * c.loop-depth.range + 1 < length c.args.counts.now
halves c = omega (arith, descent_halves (levels c) c.loop-depth.invariant (omega arith))

-- At the end a leaf is reached.
ended : (c : After-loop-depth)
    → let a = c.args in
    Descent (height a.size.m) a.counts.now a.rank 0 c.loop-depth.range c.loop-depth.rest
ended c = let none : c.height-h.result - c.loop-depth._depth ≡ 0 = omega arith in rw none at c.loop-depth.invariant

leaves : (c : After-power) → c.power.result ≡ 2 ^ height c.args.size.m
leaves c = c.power.ensures ∙ rw c.height-h.ensures

pub loop-depth-init : goal.loop-depth-init
loop-depth-init c =
    let all : c.height-h.result - 0 ≡ height c.args.size.m = omega (arith, c.height-h.ensures) in
    rw all descent_root

pub overflow_mul-range : goal.overflow_mul-range
overflow_mul-range c = omega (arith, halves c)

pub count_at-n-requires : goal.count_at-n-requires
count_at-n-requires c = omega (arith, halves c)

pub overflow_add-range : goal.overflow_add-range
overflow_add-range c = omega (arith, halves (goal.at.overflow_add-range c).In-loop-depth)

pub loop-depth-preserved : goal.loop-depth-preserved
loop-depth-preserved c =
    let in_loop = (goal.at.loop-depth-preserved c).In-loop-depth in
    let next : c.height-h.result - (c.loop-depth._depth + 1) ≡ levels in_loop - 1 = omega arith in
    rw next
    (elim c.if-n-rest.branch [
      | then-n-rest w ↦ rw (w.range-is, w.rest-is, c.count_at-n.ensures)
          (descent_right (levels in_loop) c.loop-depth.invariant (omega arith) (rw c.count_at-n.ensures at w.if-n-rest.true))
      | else-n-rest w ↦ rw (w.range-is, w.rest-is)
          (descent_left (levels in_loop) c.loop-depth.invariant (omega arith) (rw c.count_at-n.ensures at w.if-n-rest.false))
    ])

pub power-requires : goal.power-requires
power-requires c = omega (arith, height_most c.args.size.m 32 (omega arith) (omega arith))

pub overflow_sub-before : goal.overflow_sub-before
overflow_sub-before c =
    omega (arith, descent_leaf c.args.size.m (ended (goal.at.overflow_sub-before c).After-loop-depth), leaves c)

pub overflow_mul-slot : goal.overflow_mul-slot
overflow_mul-slot c =
    rw (c.leaf_slots.ensures, leaves (goal.at.overflow_mul-slot c).After-power)
    (omega (arith, descent_small c.args.size.m (ended (goal.at.overflow_mul-slot c).After-loop-depth) (omega arith)))

pub returns : goal.returns
returns c =
    rw (c.leaf_slots.ensures, leaves (goal.at.returns c).After-power)
    (descent_start c.args.size.m (ended (goal.at.returns c).After-loop-depth))
