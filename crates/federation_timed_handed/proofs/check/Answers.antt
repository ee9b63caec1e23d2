-- `check` meets its contract.
use Rattle.call_handed.specs.HandedLaws.{handed_short, handed_done}
use Rattle.federation_timed_handed.proofs.check.Goals as goal

pub returns-then-answer-lt2 : goal.returns-then-answer-lt2
returns-then-answer-lt2 c = handed_short _ _ _ _ _ c.if-answer-lt2.true

pub returns : goal.returns
returns c =
    handed_done _ _ _ _ _ c.if-answer-lt2.false c.check.ensures c.into.ensures c.hand.ensures
