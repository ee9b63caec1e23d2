-- `tree_rules::insert_size` meets its contract: the body follows the cases of the rule.
use mathlib.Core.Path.{◌≡◌, sym, ◌∙◌}
use Prim.Native.Nat.{◌+◌}
use Rattle.base.specs.Cases.{if_eq}
use Rattle.base.specs.CaseLaws.{if_eq_yes, if_eq_no}
use Rattle.draw_shares.specs.Program.{done, draw}
use Rattle.draw_shares.specs.Tape.{run_at}
use Rattle.draw_shares.proofs.TapeLaws.{run_done, run_face, run_ended}
use Rattle.tree_rules.specs.Rules.{kept, grow, insert_size}
use Rattle.tree_rules.specs.Step.{stepped_as}
use Rattle.tree_rules.proofs.insert_size.Goals.{Else-m-n, In_ok-face}
use Rattle.tree_rules.proofs.insert_size.Goals as goal

-- 0 < N and M ≠ N: the rule draws among N + 1.
draws : (c : Else-m-n) →
    let a = c.args in
    insert_size a.n a.m ≡ draw (a.n + 1) (λ face. if_eq face 0 (grow a.n) (done kept))
unfolding insert_size
draws c = if_eq_no _ 0 _ _ c.if-n-eq0.false ∙ if_eq_no _ _ _ _ c.if-m-n.false

-- It goes on by the face.
goes_on : (c : In_ok-face) →
    let a = c.args in
    run_at (insert_size a.n a.m) a.tape.now a.at
    ≡ run_at (if_eq c.in_ok-face.field-0.face 0 (grow a.n) (done kept)) a.tape.now c.in_ok-face.field-0.next
goes_on c =
    rw (draws (goal.at.In_ok-face c).Else-m-n) (run_face _ _ _ _ _ _ (sym c.draw.ensures ∙ c.in_ok-face.was))

pub returns-then-n-eq0 : goal.returns-then-n-eq0
unfolding insert_size stepped_as
returns-then-n-eq0 c = rw (if_eq_yes _ 0 _ _ c.if-n-eq0.true, run_done)

pub returns-then-m-n : goal.returns-then-m-n
unfolding insert_size
returns-then-m-n c = rw (if_eq_no _ 0 _ _ c.if-n-eq0.false, if_eq_yes _ _ _ _ c.if-m-n.true) c.grow.ensures

pub returns-then-face-eq0 : goal.returns-then-face-eq0
returns-then-face-eq0 c = rw (goes_on (goal.at.returns-then-face-eq0 c).In_ok-face, if_eq_yes _ 0 _ _ c.if-face-eq0.true) c.grow-then-face-eq0.ensures

pub returns : goal.returns
unfolding stepped_as
returns c = rw (goes_on (goal.at.returns c).In_ok-face, if_eq_no _ 0 _ _ c.if-face-eq0.false, run_done)

pub returns-in_err-face : goal.returns-in_err-face
unfolding stepped_as
returns-in_err-face c =
    rw (c.from_residual.ensures, draws (goal.at.returns-in_err-face c).Else-m-n, run_ended _ _ _ _ (sym c.draw.ensures ∙ c.in_err-face.was))
