-- `tree_rules::delete_size` meets its contract: the body follows the cases of the rule.
use mathlib.Core.Path.{◌≡◌, sym, ◌∙◌}
use Prim.Native.Nat.{ℕ, ◌+◌, ◌-◌, ◌*◌}
use Rattle.base.specs.Cases.{if_lt}
use Rattle.base.specs.CaseLaws.{if_eq_yes, if_eq_no, if_lt_yes, if_lt_no, if_le_yes, if_le_no}
use Rattle.draw_shares.specs.Tape.{ran, run_at}
use Rattle.draw_shares.proofs.TapeLaws.{run_done, run_face, run_ended}
use Rattle.tree_rules.specs.Rules.{anew, delete_size, shrink}
use Rattle.tree_rules.specs.Step.{stepped_as}
use Rattle.tree_rules.proofs.delete_size.Goals.{Else-m-faces, In_ok-face}
use Rattle.tree_rules.proofs.delete_size.Goals as goal

-- a face f below this gives N + f
abbrev bound : In_ok-face → ℕ
bound c = c.args.n - 2

-- 1 < N and 2 N - 2 ≤ M: the rule draws.
shrinks : (c : Else-m-faces) → let a = c.args in delete_size a.n a.m ≡ shrink a.n
unfolding delete_size
shrinks c =
    let a = c.args in
    if_eq_no _ 1 _ _ c.if-n-eq1.false ∙ if_le_yes (2 * a.n - 2) a.m _ _ c.if-m-faces.false

-- The face gives the size.
set_anew : (c : In_ok-face) →
    let a = c.args in
    let f = c.in_ok-face.field-0.face in
    run_at (delete_size a.n a.m) a.tape.now a.at
    ≡ ran (anew (if_lt f (bound c) (a.n + f) (a.n - 1))) c.in_ok-face.field-0.next
unfolding shrink
set_anew c =
    rw (shrinks (goal.at.In_ok-face c).Else-m-faces, run_face _ _ _ _ _ _ (sym c.draw.ensures ∙ c.in_ok-face.was), run_done)

pub returns-then-n-eq1 : goal.returns-then-n-eq1
unfolding delete_size stepped_as
returns-then-n-eq1 c = rw (if_eq_yes _ 1 _ _ c.if-n-eq1.true, run_done)

pub returns-then-m-faces : goal.returns-then-m-faces
unfolding delete_size stepped_as
returns-then-m-faces c = rw (if_eq_no _ 1 _ _ c.if-n-eq1.false, if_le_no _ _ _ _ c.if-m-faces.true, run_done)

pub returns-then-face-n : goal.returns-then-face-n
unfolding stepped_as
returns-then-face-n c = rw (set_anew (goal.at.returns-then-face-n c).In_ok-face, if_lt_yes _ (bound (goal.at.returns-then-face-n c).In_ok-face) _ _ c.if-face-n.true)

pub returns : goal.returns
unfolding stepped_as
returns c = rw (set_anew (goal.at.returns c).In_ok-face, if_lt_no _ (bound (goal.at.returns c).In_ok-face) _ _ c.if-face-n.false)

pub returns-in_err-face : goal.returns-in_err-face
unfolding shrink stepped_as
returns-in_err-face c =
    rw (c.from_residual.ensures, shrinks (goal.at.returns-in_err-face c).Else-m-faces, run_ended _ _ _ _ (sym c.draw.ensures ∙ c.in_err-face.was))
