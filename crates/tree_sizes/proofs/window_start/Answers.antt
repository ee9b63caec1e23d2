-- `window_start` meets its contract.
use mathlib.Core.Path.{ap₂, ◌∙◌}
use Prim.Native.Nat.{◌-◌}
use native.Mathlib.Omega.{arith}
use Rattle.tree_sizes.specs.Sizes.{window_start}
use Rattle.tree_sizes.proofs.SizeLaws.{div_ceil_is}
use Rattle.tree_sizes.proofs.window_start.Goals as goal

pub returns : goal.returns
unfolding window_start
returns c = ap₂ ◌-◌ (c.div_ceil.ensures ∙ div_ceil_is c.args.n 2 (omega arith)) (c.div_ceil-2.ensures ∙ div_ceil_is c.args.c 2 (omega arith))
