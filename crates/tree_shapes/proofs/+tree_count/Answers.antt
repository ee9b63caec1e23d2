-- `tree_count` meets its contract; the levels above the leaves fall from call to call.
use mathlib.Core.Path.{refl, sym}
use Prim.Native.Nat.{ℕ, ◌-◌}
use native.Mathlib.Omega.{arith}
use Rattle.tree_shapes.specs.Shapes.{tree_count}
use Rattle.tree_shapes.specs.CountLaws.{half_pos, count_leaf, AboveLeaves, above_leaves}
use Rattle.tree_shapes.proofs.+tree_count.Goals.{After-half_candidates, After-tree_count-half}
use Rattle.tree_shapes.proofs.+tree_count.Goals as goal

pub returns-then-levels-eq0 : goal.returns-then-levels-eq0
returns-then-levels-eq0 t c = sym (count_leaf _ _ c.if-levels-eq0.true)

-- the bounds of a half
half_bound : (t : ℕ) (c : After-half_candidates t)
    → AboveLeaves c.args.c c.args.levels (tree_count c.half_candidates.result (c.args.levels - 1))
half_bound t c = above_leaves _ _ c.if-levels-eq0.false c.requires.some c.half_candidates.ensures refl

pub tree_count-half-requires : goal.tree_count-half-requires
tree_count-half-requires t c =
    let half = half_bound t c in (
      omega (arith, c.decreases),
      (
        rw c.half_candidates.ensures (half_pos _ c.requires.some),
        omega (arith, half.count_is, half.half_most, half.both_most, c.requires.few),
      ),
    )

-- and of the whole
bound : (t : ℕ) (c : After-tree_count-half t)
    → AboveLeaves c.args.c c.args.levels c.tree_count-half.result
bound t c = above_leaves _ _ c.if-levels-eq0.false c.requires.some c.half_candidates.ensures c.tree_count-half.ensures

pub overflow_mul-result : goal.overflow_mul-result
overflow_mul-result t c = let b = bound t c in omega (arith, b.count_is, b.both_most, c.requires.few)

pub overflow_mul-result-2 : goal.overflow_mul-result-2
overflow_mul-result-2 t c = omega (arith, (bound t c).count_is, c.requires.few)

pub returns : goal.returns
returns t c = sym (bound t c).count_is
