-- `add_words` meets its contract.
use native.Mathlib.Omega.{arith}
use borrow.Author.Rules.{rules}
use Rattle.store_slices.specs.PastedLaws.{pasted_none}
use Rattle.frame_tape.specs.TapeLaws.{add_words_next, add_words_done}
use Rattle.frame_tape.proofs.add_words.Goals as goal

pub loop-k-init : goal.loop-k-init
loop-k-init c = (omega arith, pasted_none (omega arith))

pub loop-k-preserved : goal.loop-k-preserved
loop-k-preserved c =
    (omega arith, add_words_next _ _ _ _ (search rules) _ _ c.loop-k.invariant.1 c.loop-k-test.true c.word_at.ensures)

pub returns : goal.returns
returns c = add_words_done _ _ _ _ (search rules) _ c.loop-k.invariant.1 (omega (arith, c.loop-k.invariant.0, c.loop-k-test.false))
