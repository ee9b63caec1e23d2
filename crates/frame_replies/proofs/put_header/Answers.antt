-- `put_header` meets its contract.
use Rattle.frame_replies.specs.Reply.{header}
use Rattle.frame_replies.proofs.put_header.Goals as goal

pub returns : goal.returns
unfolding header
returns c = c.put_numbers.ensures
