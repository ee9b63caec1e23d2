-- `root_candidates` meets its contract.
use mathlib.Core.Path.{sym, ◌∙◌}
use mathlib.Core.Logic.{◌≢◌}
use native.Mathlib.Omega.{arith}
use Rattle.tree_sizes.specs.Sizes.{height}
use Rattle.tree_shapes.specs.RootLaws.{root_leaf, root_above, root_large}
use Rattle.tree_shapes.proofs.root_candidates.Goals.{Else-levels-eq0}
use Rattle.tree_shapes.proofs.root_candidates.Goals as goal

above : (c : Else-levels-eq0) → height c.args.size.m ≢ 0
above c e = c.if-levels-eq0.false (c.height-levels.ensures ∙ e)

pub returns-then-levels-eq0 : goal.returns-then-levels-eq0
returns-then-levels-eq0 c = sym (root_leaf _ (sym c.height-levels.ensures ∙ c.if-levels-eq0.true))

pub candidates-requires : goal.candidates-requires
candidates-requires c =
    record { least = omega (arith, root_large _ (above c)); most = c.requires; deepest = omega arith }

pub returns : goal.returns
returns c = c.candidates.ensures ∙ sym (root_above _ (above (goal.at.returns c).Else-levels-eq0))
