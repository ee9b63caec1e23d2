-- `Size::half_candidates` meets its contract.
use mathlib.Core.Path.{◌∙◌}
use native.Mathlib.Omega.{arith}
use Rattle.tree_sizes.specs.Sizes.{half_candidates, ceil_div}
use Rattle.tree_sizes.proofs.SizeLaws.{div_ceil_is}
use Rattle.tree_sizes.proofs.Size.half_candidates.Goals as goal

pub returns : goal.returns
unfolding half_candidates ceil_div
returns c = omega (arith, c.div_ceil.ensures ∙ div_ceil_is _ _ (omega arith))
