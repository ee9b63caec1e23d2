-- `answer_lines` meets its contract. The loop's invariant: lines of the chunk are answered from the start to here.
use mathlib.Core.Path.{refl, ◌∙◌}
use native.Mathlib.Omega.{arith}
use Rattle.frame_replies.specs.WroteLaws.{wrote_length}
use Rattle.frame_chunks.specs.ChunkLaws.{reached_start, reached_more, reached_full}
use borrow.Author.Rules.{rules}
use Rattle.frame_chunks.proofs.answer_lines.Goals as goal

pub loop-reached-init : goal.loop-reached-init
loop-reached-init c = (reached_start c.requires.held, refl, refl, refl, refl)

pub overflow_sub-output : goal.overflow_sub-output
overflow_sub-output c =
    let i = c.loop-reached.invariant.0.lines.wrote in
    search (rules, i.room, wrote_length i)

pub returns-then-output-reached-lt-LONGEST : goal.returns-then-output-reached-lt-LONGEST
returns-then-output-reached-lt-LONGEST c =
    let i = c.loop-reached.invariant.0 in
    (i.lines, λ more room. reached_full i c.if-output-reached-lt-LONGEST.true room)

pub answer_next-reached-requires : goal.answer_next-reached-requires
answer_next-reached-requires c =
    record { held = c.loop-reached.invariant.0.lines.held; more = c.loop-reached-test.true; room = omega (arith, c.if-output-reached-lt-LONGEST.false) }

pub loop-reached-smaller : goal.loop-reached-smaller
loop-reached-smaller c = omega (arith, c.loop-reached-test.true, c.answer_next-reached.ensures.1)

pub loop-reached-preserved : goal.loop-reached-preserved
loop-reached-preserved c =
    let n = c.answer_next-reached in
    let i = c.loop-reached.invariant in
    (reached_more i.0 n.ensures.0 n.ensures.1, n.auto.line ∙ i.1, n.auto.slots ∙ i.2, n.auto.counts ∙ i.3, n.auto.tallies ∙ i.4)

pub returns : goal.returns
returns c =
    let i = c.loop-reached.invariant.0 in
    (i.lines, λ more room. omega (arith, c.loop-reached-test.false))
