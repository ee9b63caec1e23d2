-- `print_line` meets its contract.
use native.Mathlib.Omega.{arith}
use Rattle.frame_replies.specs.WroteLaws.{wrote_room}
use Rattle.frame_replies.specs.DigitLaws.{length_brief}
use Rattle.frame_print.specs.PrintLaws.{print_refused, print_accepted, printable, print_room}
use Rattle.frame_print.proofs.print_line.Goals as goal

pub returns-then-number-ne0 : goal.returns-then-number-ne0
returns-then-number-ne0 c =
    print_refused c.check.ensures c.from-number.ensures c.answer-next.ensures c.if-number-ne0.true

pub print_sheet-requires : goal.print_sheet-requires
print_sheet-requires c =
    record {
      sheet = printable _ _ _ _ _ _ c.check.ensures c.from-number.ensures c.if-number-ne0.false;
      room = wrote_room c.answer-next.ensures 9 _ (length_brief _ _ _)
          (omega (arith, print_room _ _ _ _ _ _ c.check.ensures c.from-number.ensures c.if-number-ne0.false));
    }

pub returns : goal.returns
returns c =
    print_accepted c.check.ensures c.from-number.ensures c.answer-next.ensures c.if-number-ne0.false
    c.print_sheet.ensures
