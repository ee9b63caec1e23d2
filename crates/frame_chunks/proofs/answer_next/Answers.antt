-- `answer_next` meets its contract.
use borrow.Author.Tests.{not-true, not-false}
use Prim.Native.Nat.{◌+◌, ◌≤◌}
use native.Mathlib.Omega.{arith}
use lib.ListN.{length}
use borrow.Author.Rules.{rules}
use Rattle.frame_input.proofs.CollectLaws.{collected_within, collected_further}
use Rattle.frame_chunks.specs.ChunkLaws.{answers_open, answers_ended}
use Rattle.frame_chunks.proofs.answer_next.Goals as goal

pub returns-then-not-collected : goal.returns-then-not-collected
returns-then-not-collected c =
    let k = c.collect-collected in (
      answers_open c.requires.held c.requires.more k.result _ k.auto.line k.ensures (not-true _ c.if-not-collected.true) (omega (arith, c.requires.room)),
      collected_further _ _ _ _ k.result _ k.ensures c.requires.more,
    )

pub answer_line-stepped-requires : goal.answer_line-stepped-requires
answer_line-stepped-requires c =
    let k = c.collect-collected in
    record { line = rw k.auto.line (collected_within _ _ _ _ k.result _ k.ensures c.requires.held.line); tape = c.requires.held.tape; room = c.requires.room }

pub overflow_add-result : goal.overflow_add-result
overflow_add-result c =
    let a = c.answer_line-stepped in
    let room : c.args.before.bytes + a.result.bytes ≤ length c.args.output.now = a.ensures.wrote.room in
    search (rules, room)

pub returns : goal.returns
returns c =
    let k = c.collect-collected in (
      answers_ended c.requires.held c.requires.more k.result _ k.auto.line k.ensures (not-false _ c.if-not-collected.false) c.answer_line-stepped.ensures,
      collected_further _ _ _ _ k.result _ k.ensures c.requires.more,
    )
