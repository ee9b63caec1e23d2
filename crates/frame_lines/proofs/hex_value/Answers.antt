-- `hex_value` meets its contract: the ranges are those of the definition.
use Rattle.std.proofs.Common.{arith}
use Rattle.std.proofs.lemmas.Bool.Decides.{nat_tests}
use Rattle.base.specs.Cases.{if_lt}
use Rattle.frame_lines.specs.Frame.{hex_value}
use Rattle.frame_lines.proofs.hex_value.Goals as goal

pub returns-in-48-to-57 : goal.returns-in-48-to-57
unfolding hex_value if_lt
returns-in-48-to-57 c = grind (arith, nat_tests)

pub returns-in-65-to-70 : goal.returns-in-65-to-70
unfolding hex_value if_lt
returns-in-65-to-70 c = grind (arith, nat_tests)

pub returns-in_default : goal.returns-in_default
unfolding hex_value if_lt
returns-in_default c = grind (arith, nat_tests)

pub returns-in_default-2 : goal.returns-in_default-2
unfolding hex_value if_lt
returns-in_default-2 c = grind (arith, nat_tests)

pub returns-in_default-3 : goal.returns-in_default-3
unfolding hex_value if_lt
returns-in_default-3 c = grind (arith, nat_tests)
