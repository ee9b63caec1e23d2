-- `tree_rules::grow` meets its contract.
use mathlib.Core.Path.{sym, ◌∙◌}
use native.Mathlib.Omega.{arith}
use Rattle.draw.specs.DrawLaws.{draw_sound}
use Rattle.draw_shares.proofs.TapeLaws.{run_done, run_face, run_ended}
use Rattle.tree_rules.specs.Rules.{grow}
use Rattle.tree_rules.specs.Step.{stepped_as}
use Rattle.tree_rules.proofs.grow.Goals as goal

pub overflow_add-result : goal.overflow_add-result
overflow_add-result c =
    let a = c.args in
    omega (arith, (draw_sound 2 a.tape.now a.at _ _ (sym c.draw.ensures ∙ c.in_ok-face.was)).below)

pub returns : goal.returns
unfolding grow stepped_as
returns c = rw (run_face 2 _ _ _ _ _ (sym c.draw.ensures ∙ c.in_ok-face.was), run_done)

pub returns-in_err-face : goal.returns-in_err-face
unfolding grow stepped_as
returns-in_err-face c = rw (c.from_residual.ensures, run_ended 2 _ _ _ (sym c.draw.ensures ∙ c.in_err-face.was))
