-- `place_line` meets its contract.
use Rattle.frame_answers.specs.StepLaws.{place_refused, place_accepted}
use Rattle.frame_answers.proofs.place_line.Goals as goal

pub returns-then-number-ne0 : goal.returns-then-number-ne0
returns-then-number-ne0 c =
    rw (← place_refused c.place.ensures c.from-back.ensures c.if-number-ne0.true) c.answer.ensures

pub returns : goal.returns
returns c =
    rw (← place_accepted c.place.ensures c.from-back.ensures c.if-number-ne0.false, ← c.entry_count-n.ensures)
    c.put_place.ensures
