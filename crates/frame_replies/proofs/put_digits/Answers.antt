-- `put_digits` meets its contract.
use Rattle.std.proofs.Common.{arith}
use Rattle.frame_replies.specs.DigitLaws.{digits_next, digits_done}
use Rattle.frame_replies.proofs.put_digits.Goals as goal

pub loop-left-preserved : goal.loop-left-preserved
loop-left-preserved c =
    rw c.hex_digit.ensures (digits_next _ _ _ _ c.loop-left.invariant c.requires c.loop-left-test.true)

pub returns : goal.returns
returns c = digits_done _ _ _ _ c.loop-left.invariant c.requires (omega (arith, c.loop-left-test.false))
