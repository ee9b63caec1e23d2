-- `Size::candidates` meets its contract.
use mathlib.Core.Path.{◌≡◌, ap₂, ◌∙◌}
use Prim.Native.Nat.{ℕ, ◌*◌, ◌^◌, ◌≤◌, ◌<◌}
use native.Mathlib.Omega.{arith}
use Rattle.tree_sizes.specs.Sizes.{candidates, ceil_div, digits}
use Rattle.tree_sizes.proofs.SizeLaws.{digits_most, step_most, step_pos, div_ceil_is}
use Rattle.tree_sizes.proofs.Size.candidates.Goals.{After-power}
use Rattle.tree_sizes.proofs.Size.candidates.Goals as goal

-- The value of the local `step`.
abbrev step : After-power → ℕ
step c = 4 * c.digits.result * c.power.result

step_is : (c : After-power) → step c ≡ 4 * digits c.args.self.m * 2 ^ c.args.depth
step_is c = cc

step_range : (c : After-power) → (0 < step c) × (step c ≤ 2 ^ 38)
step_range c =
    let a = c.args in
    rw (step_is c)
    (step_pos a.self.m a.depth, step_most a.self.m a.depth 32 31 (omega arith) (omega arith) (omega arith))

pub overflow_mul-step : goal.overflow_mul-step
overflow_mul-step c = omega (arith, digits_most c.args.self.m 32 (omega arith) (omega arith))

pub overflow_mul-step-2 : goal.overflow_mul-step-2
overflow_mul-step-2 c = omega (arith, step_range c)

pub div_ceil-requires : goal.div_ceil-requires
div_ceil-requires c = omega (arith, step_range (goal.at.div_ceil-requires c).After-power)

pub returns : goal.returns
unfolding candidates
returns c =
    let at = goal.at.returns c in
    c.div_ceil.ensures ∙ div_ceil_is _ _ (step_range at.After-power).0 ∙ ap₂ ceil_div (omega arith) (step_is at.After-power)
