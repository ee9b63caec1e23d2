-- `collect` meets its contract. The loop's invariant: what is collected from the start is what is collected from here.
use mathlib.Core.Path.{refl, sym, ◌∙◌}
use lib.ListN.{length-set}
use Rattle.frame_input.proofs.CollectLaws.{collect_end, collect_lf, collect_room, collect_full}
use Rattle.frame_input.proofs.collect.Goals as goal

pub loop-at-init : goal.loop-at-init
loop-at-init c = (refl, refl)

pub returns-then-byte-eq10 : goal.returns-then-byte-eq10
returns-then-byte-eq10 c =
    sym (c.loop-at.invariant.0 ∙ collect_lf _ _ _ _ c.loop-at-test.true c.if-byte-eq10.true)

pub loop-at-preserved-then-held-line : goal.loop-at-preserved-then-held-line
loop-at-preserved-then-held-line c =
    let h = c.loop-at in (
      h.invariant.0 ∙ collect_room _ _ _ _ c.loop-at-test.true c.if-byte-eq10.false c.if-held-line.true,
      length-set h.line h.held _ ∙ h.invariant.1,
    )

pub loop-at-preserved : goal.loop-at-preserved
loop-at-preserved c =
    let h = c.loop-at in
    (h.invariant.0 ∙ collect_full _ _ _ _ c.loop-at-test.true c.if-byte-eq10.false c.if-held-line.false, h.invariant.1)

pub returns : goal.returns
returns c = sym (c.loop-at.invariant.0 ∙ collect_end _ _ _ _ c.loop-at-test.false)
