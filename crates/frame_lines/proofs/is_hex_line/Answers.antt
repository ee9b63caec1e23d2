-- `is_hex_line` meets its contract: the two tests are those of the definition.
use Rattle.std.proofs.Common.{rules, tests, arith}
use Rattle.std.proofs.lemmas.Bool.Decides.{nat_tests}
use Rattle.std.proofs.lemmas.Iterator.{YieldsList-from_slice}
use Rattle.std.proofs.lemmas.Iterator.Search.{all_from_yields_List}
use Rattle.frame_lines.specs.Frame.{is_hex_digit, all_hex, is_hex_line}
use Rattle.frame_lines.proofs.is_hex_line.Goals as goal

pub returns-then-line-eq0 : goal.returns-then-line-eq0
unfolding is_hex_line all_hex
returns-then-line-eq0 c =
    rw (c.if-line-eq0.true) (all_from_yields_List is_hex_digit _ _ _ c.all.ensures.ran (YieldsList-from_slice c.args.line.now cc) (λ x b q k. search (rules, tests)))

pub returns-else-line-eq0 : goal.returns-else-line-eq0
unfolding is_hex_line
returns-else-line-eq0 c = grind (arith, nat_tests)
