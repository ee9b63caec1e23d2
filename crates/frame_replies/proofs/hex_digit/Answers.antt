-- `hex_digit` meets its contract.
use Rattle.std.proofs.Common.{arith}
use Rattle.std.proofs.lemmas.Bool.Decides.{nat_tests}
use Rattle.base.specs.Cases.{if_lt}
use Rattle.frame_replies.specs.Reply.{hex_digit}
use Rattle.frame_replies.proofs.hex_digit.Goals as goal

pub returns-then-v-lt10 : goal.returns-then-v-lt10
unfolding hex_digit if_lt
returns-then-v-lt10 c = grind (arith, nat_tests)

pub returns-else-v-lt10 : goal.returns-else-v-lt10
unfolding hex_digit if_lt
returns-else-v-lt10 c = grind (arith, nat_tests)
