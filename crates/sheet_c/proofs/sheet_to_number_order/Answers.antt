-- `sheet_to_number_order` meets its contract.
use Rattle.sheet_c.specs.HandedCountsLaws.{conversion_short, conversion_handed}
use Rattle.sheet_c.proofs.sheet_to_number_order.Goals as goal

pub returns-then-answer-lt2 : goal.returns-then-answer-lt2
returns-then-answer-lt2 c = conversion_short _ _ _ c.if-answer-lt2.true

pub returns : goal.returns
returns c =
    conversion_handed _ _ _ c.if-answer-lt2.false c.to_number_order.ensures c.into.ensures c.hand.ensures
