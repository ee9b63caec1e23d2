-- `clear_line` meets its contract.
use Rattle.frame_answers.specs.StepLaws.{clear_gives}
use Rattle.frame_answers.proofs.clear_line.Goals as goal

pub returns : goal.returns
returns c =
    clear_gives c.clear.ensures c.from-back.ensures c.answer.ensures
