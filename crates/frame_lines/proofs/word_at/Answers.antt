-- `word_at` meets its contract: a tape line is as long as its words, and 8 digits fit 32 bits.
use native.Mathlib.Omega.{arith}
use Prim.Native.Nat.{◌+◌, ◌*◌}
use Rattle.frame_lines.specs.Frame.{word_at}
use Rattle.frame_lines.specs.FrameLaws.{word_inside, word_lt}
use Rattle.frame_lines.proofs.word_at.Goals as goal

pub overflow_mul-k : goal.overflow_mul-k
overflow_mul-k c = omega (arith, word_inside c.args.line.now c.args.k c.requires.word)

pub overflow_add-k : goal.overflow_add-k
overflow_add-k c = omega (arith, word_inside c.args.line.now c.args.k c.requires.word)

pub number-requires : goal.number-requires
number-requires c =
    record { inside = omega (arith, word_inside c.args.line.now c.args.k c.requires.word); digits = omega arith }

pub overflow_cast-result : goal.overflow_cast-result
overflow_cast-result c = let a = c.args in omega (arith, word_lt a.line.now (2 + 8 * a.k))

pub returns : goal.returns
unfolding word_at
returns c = c.number.ensures
