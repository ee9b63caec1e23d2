-- `answer` meets its contract.
use Rattle.frame_answers.proofs.answer.Goals as goal

pub returns : goal.returns
returns c = rw (← c.entry_count-n.ensures) c.put_brief.ensures
