-- `kind_of` meets its contract.
use Rattle.frame_lines.specs.Frame.{kind_of}
use Rattle.frame_lines.proofs.kind_of.Goals as goal

pub returns-in-Some : goal.returns-in-Some
unfolding kind_of
returns-in-Some c = rw (← c.decode.ensures, c.in-Some.is) c.kind.ensures

pub returns-in-None : goal.returns-in-None
unfolding kind_of
returns-in-None c = rw (← c.decode.ensures, c.in-None.is)
