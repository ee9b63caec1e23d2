-- `start_for` meets its contract. The loop's invariant is `Descent`.
use mathlib.Core.Path.{◌≡◌, ◌∙◌}
use Prim.Native.Nat.{ℕ, ◌+◌, ◌-◌, ◌*◌, ◌^◌, ◌<◌}
use native.Mathlib.Omega.{arith}
use lib.ListN.{get_or}
use Rattle.tree_sizes.specs.Sizes.{height}
use Rattle.tree_sizes.proofs.SizeLaws.{height_most}
use Rattle.store_search.specs.Descent.{Descent}
use Rattle.store_search.specs.DescentLaws.{descent_root, descent_halves, descent_left, descent_right, descent_leaf, descent_small, descent_start}
use Rattle.store_search.proofs.start_for.Goals.{After-count_at-n, After-loop-depth, After-power, After-shared_slice_known-1, In-loop-depth, then-middle-k, else-middle-k}
use Rattle.store_search.proofs.start_for.Goals as goal

-- How many levels the range of a turn has below it.
abbrev levels : In-loop-depth → ℕ
levels c = c.height-h.result - c.loop-depth._depth

-- The halves of a range are ranges of the tree.
halves : (c : In-loop-depth)
    → 2 * c.loop-depth.range + 1 < 2 * 2 ^ height c.args.size.m
halves c = descent_halves (levels c) c.loop-depth.invariant (omega arith)

-- A count has 32 bits.
counts_most : (c : After-shared_slice_known-1) (j : ℕ) → get_or c.args.counts.now j 0 < 2 ^ 32
counts_most c j = omega (arith, c.type_inv.counts j)

count_most : (c : After-count_at-n) → c.count_at-n.result < 2 ^ 32
count_most c = rw c.count_at-n.ensures (counts_most (goal.at.After-count_at-n c).After-shared_slice_known-1 _)

-- At the end a leaf is reached.
ended : (c : After-loop-depth)
    → let a = c.args in
    Descent (height a.size.m) a.counts.now a.balance.now a.k 0 c.loop-depth.range c.loop-depth.before
ended c = let none : c.height-h.result - c.loop-depth._depth ≡ 0 = omega arith in rw none at c.loop-depth.invariant

leaves : (c : After-power) → c.power.result ≡ 2 ^ height c.args.size.m
leaves c = c.power.ensures ∙ rw c.height-h.ensures

pub loop-depth-init : goal.loop-depth-init
loop-depth-init c =
    let all : c.height-h.result - 0 ≡ height c.args.size.m = omega (arith, c.height-h.ensures) in
    rw all descent_root

pub offset_bounds-balance-range : goal.offset_bounds-balance-range
offset_bounds-balance-range c = omega (arith, halves c)

pub bounds-balance-range : goal.bounds-balance-range
bounds-balance-range c = omega (arith, halves (goal.at.bounds-balance-range c).In-loop-depth)

pub overflow_mul-range : goal.overflow_mul-range
overflow_mul-range c = omega (arith, halves (goal.at.overflow_mul-range c).In-loop-depth)

pub count_at-n-requires : goal.count_at-n-requires
count_at-n-requires c = omega (arith, halves (goal.at.count_at-n-requires c).In-loop-depth)

pub overflow_add-before : goal.overflow_add-before
overflow_add-before c =
    let m = c.args.size.m in
    omega (arith, count_most (goal.at.overflow_add-before c).After-count_at-n, c.loop-depth.invariant.small, c.height-h.ensures, height_most m 32 (omega arith) (omega arith))

pub overflow_add-range : goal.overflow_add-range
overflow_add-range c = omega (arith, halves (goal.at.overflow_add-range c).In-loop-depth)

pub loop-depth-preserved : goal.loop-depth-preserved
loop-depth-preserved c =
    let in_loop = (goal.at.loop-depth-preserved c).In-loop-depth in
    let next : c.height-h.result - (c.loop-depth._depth + 1) ≡ levels in_loop - 1 = omega arith in
    rw next
    (elim c.if-middle-k.branch [
      | then-middle-k w ↦ rw (w.range-is, w.before-is)
          (descent_right (levels in_loop) c.loop-depth.invariant (omega arith) (omega (arith, c.key-middle.ensures, w.if-middle-k.true)) c.count_at-n.ensures
          (count_most (goal.at.loop-depth-preserved c).After-count_at-n))
      | else-middle-k w ↦ rw (w.range-is, w.before-is)
          (descent_left (levels in_loop) c.loop-depth.invariant (omega arith) (omega (arith, c.key-middle.ensures, w.if-middle-k.false)))
    ])

pub power-requires : goal.power-requires
power-requires c = omega (arith, height_most c.args.size.m 32 (omega arith) (omega arith))

pub overflow_sub-leaf : goal.overflow_sub-leaf
overflow_sub-leaf c =
    omega (arith, descent_leaf c.args.size.m (ended (goal.at.overflow_sub-leaf c).After-loop-depth), leaves c)

pub overflow_mul-slot : goal.overflow_mul-slot
overflow_mul-slot c =
    rw (c.leaf_slots.ensures, leaves (goal.at.overflow_mul-slot c).After-power)
    (omega (arith, descent_small c.args.size.m (ended (goal.at.overflow_mul-slot c).After-loop-depth) (omega arith)))

pub returns : goal.returns
returns c =
    rw (c.leaf_slots.ensures, leaves (goal.at.returns c).After-power) (descent_start c.args.size.m (ended (goal.at.returns c).After-loop-depth))
