-- `tape_line` meets its contract.
use native.Mathlib.Omega.{arith}
use Rattle.frame_answers.specs.StepLaws.{taped_full, taped_more}
use Rattle.frame_answers.proofs.tape_line.Goals as goal

pub returns-then-tape-waiting : goal.returns-then-tape-waiting
returns-then-tape-waiting c =
    taped_full _ _ _ _ _ _ _ (omega (arith, c.if-tape-waiting.true, c.requires.tape)) (rw c.from-full.ensures at c.answer-refused.ensures)

pub returns : goal.returns
returns c =
    taped_more _ _ _ _ _ _ _ (omega (arith, c.if-tape-waiting.false, c.requires.tape, c.requires.waiting)) c.add_words.ensures c.answer-bytes.ensures
