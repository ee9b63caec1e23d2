-- `timed_place` meets its contract.
use Rattle.call_handed.specs.HandedLaws.{handed_short, handed_done}
use Rattle.timed_c.proofs.timed_place.Goals as goal

pub returns-then-answer-lt3 : goal.returns-then-answer-lt3
returns-then-answer-lt3 c = handed_short _ _ _ _ _ c.if-answer-lt3.true

pub returns : goal.returns
returns c =
    handed_done _ _ _ _ _ c.if-answer-lt3.false c.place.ensures c.into.ensures c.hand.ensures
