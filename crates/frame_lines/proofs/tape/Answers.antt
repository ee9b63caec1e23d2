-- `tape` meets its contract: the tests are those of the definition.
use mathlib.Core.Path.{sym, ◌∙◌}
use Prim.Native.Nat.{◌/◌}
use native.Mathlib.Omega.{arith}
use lib.ListN.{length}
use Rattle.base.specs.CaseLaws.{if_eq_yes, if_eq_no, if_lt_yes, if_lt_no}
use Rattle.frame_lines.specs.Frame.{tape_of}
use Rattle.frame_lines.proofs.tape.Goals as goal

pub returns-then-line-ne2 : goal.returns-then-line-ne2
unfolding tape_of
returns-then-line-ne2 c = sym (if_eq_no _ 2 _ _ c.if-line-ne2.true)

pub returns-then-words-lt1 : goal.returns-then-words-lt1
unfolding tape_of
returns-then-words-lt1 c = sym (if_eq_yes _ 2 _ _ c.if-line-ne2.false ∙ if_lt_yes _ 1 _ _ c.if-words-lt1.true)

pub returns-then-words-gt16 : goal.returns-then-words-gt16
unfolding tape_of
returns-then-words-gt16 c =
    let words = length c.args.line.now / 8 in
    sym (if_eq_yes _ 2 _ _ c.if-line-ne2.false ∙ if_lt_no _ 1 _ _ c.if-words-lt1.false ∙ if_lt_yes 16 words _ _ (omega arith))

pub returns : goal.returns
unfolding tape_of
returns c =
    let words = length c.args.line.now / 8 in
    sym (if_eq_yes _ 2 _ _ c.if-line-ne2.false ∙ if_lt_no _ 1 _ _ c.if-words-lt1.false ∙ if_lt_no 16 words _ _ (omega arith))
