-- `put_end` meets its contract.
use Rattle.frame_replies.specs.WroteLaws.{wrote_one}
use Rattle.frame_replies.proofs.put_end.Goals as goal

pub returns : goal.returns
returns c = wrote_one _ _ 10 c.requires
