-- `change_answer` meets its contract.
use Rattle.frame_changes.specs.ChangeLaws.{change_gives}
use Rattle.frame_changes.proofs.change_answer.Goals as goal

pub returns : goal.returns
returns c =
    change_gives _ _ _ _ _ _ _ _ c.read_off.ensures c.answer-bytes.ensures
