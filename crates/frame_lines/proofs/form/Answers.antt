-- `form` meets its contract: each arm is a case of the definition.
use mathlib.Core.Path.{sym, ◌∙◌}
use native.Mathlib.Omega.{arith}
use Rattle.base.specs.Cases.{if_eq}
use Rattle.frame_lines.specs.Frame.{form_of}
use Rattle.frame_lines.specs.FrameLaws.{at_first, first_other}
use Rattle.frame_lines.proofs.form.Goals as goal

pub returns-in-1 : goal.returns-in-1
unfolding form_of if_eq
returns-in-1 c =
    let a = c.args in c.insert.ensures ∙ at_first a.line.now a.first 1 (omega arith)

pub returns-in-2 : goal.returns-in-2
unfolding form_of if_eq
returns-in-2 c =
    let a = c.args in c.delete.ensures ∙ at_first a.line.now a.first 2 (omega arith)

pub returns-in-3 : goal.returns-in-3
unfolding form_of if_eq
returns-in-3 c =
    let a = c.args in c.read.ensures ∙ at_first a.line.now a.first 3 (omega arith)

pub returns-in-4 : goal.returns-in-4
unfolding form_of if_eq
returns-in-4 c =
    let a = c.args in c.tape.ensures ∙ at_first a.line.now a.first 4 (omega arith)

pub returns-in-5 : goal.returns-in-5
unfolding form_of if_eq
returns-in-5 c =
    let a = c.args in c.alone.ensures ∙ at_first a.line.now a.first 5 (omega arith)

pub returns-in-6 : goal.returns-in-6
unfolding form_of if_eq
returns-in-6 c =
    let a = c.args in c.alone-in-6.ensures ∙ at_first a.line.now a.first 6 (omega arith)

pub returns-in-7 : goal.returns-in-7
unfolding form_of if_eq
returns-in-7 c =
    let a = c.args in c.place.ensures ∙ at_first a.line.now a.first 7 (omega arith)

pub returns-in_default : goal.returns-in_default
returns-in_default c =
    let r = c.in_default.in_default-own.rest in
    sym (first_other _ _ r.0.0.0.0.0.0.1 r.0.0.0.0.0.1 r.0.0.0.0.1 r.0.0.0.1 r.0.0.1 r.0.1 r.1)
