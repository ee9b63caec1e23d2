-- `draw::draw_at` meets its contract. The loop's invariant: the scan from `i` on is the scan from `at` on.
use mathlib.Core.Path.{sym, ◌∙◌}
use Prim.Native.Nat.{◌^◌}
use native.Mathlib.Omega.{arith}
use Rattle.draw.specs.Draw.{draw_at}
use Rattle.draw.specs.DrawLaws.{scan_taken, scan_passed, scan_ended, draw_none, draw_one, draw_above, draw_many, word_below, word_above}
use Rattle.draw.proofs.draw_at.Goals as goal

pub returns-then-m-eq1 : goal.returns-then-m-eq1
unfolding draw_at
returns-then-m-eq1 c = rw c.if-m-eq1.true (sym (draw_one (2 ^ 32) _ _))

pub returns-then-m-eq0 : goal.returns-then-m-eq0
unfolding draw_at
returns-then-m-eq0 c = rw c.if-m-eq0.true (sym (draw_none (2 ^ 32) _ _))

pub returns-then-m-gt4294967296 : goal.returns-then-m-gt4294967296
unfolding draw_at
returns-then-m-gt4294967296 c = sym (draw_above (2 ^ 32) _ _ _ c.if-m-eq1.false c.if-m-gt4294967296.true)

pub returns-then-word-face : goal.returns-then-word-face
unfolding draw_at
returns-then-word-face c =
    let a = c.args in
    sym (draw_many (2 ^ 32) a.tape.now a.at a.m c.if-m-eq1.false
    ∙ c.loop-i.invariant
    ∙ scan_taken _ _ _ _ c.loop-i-test.true (word_below (2 ^ 32) a.m _ (omega arith) c.if-m-gt4294967296.false c.if-word-face.true))

pub loop-i-preserved : goal.loop-i-preserved
loop-i-preserved c =
    c.loop-i.invariant
    ∙ scan_passed _ _ _ _ c.loop-i-test.true (word_above (2 ^ 32) _ _ (omega arith) c.if-m-gt4294967296.false c.if-word-face.false)

pub returns : goal.returns
unfolding draw_at
returns c =
    let a = c.args in
    sym (draw_many (2 ^ 32) a.tape.now a.at a.m c.if-m-eq1.false
    ∙ c.loop-i.invariant
    ∙ scan_ended _ _ _ _ c.loop-i-test.false)
