-- `alone` meets its contract: the line has 2 digits or not.
use mathlib.Core.Path.{sym}
use Rattle.frame_lines.specs.FrameLaws.{length_is, length_other}
use Rattle.frame_lines.proofs.alone.Goals as goal

pub returns-then-line-ne2 : goal.returns-then-line-ne2
returns-then-line-ne2 c = sym (length_other _ 2 _ c.if-line-ne2.true)

pub returns : goal.returns
returns c = sym (length_is _ 2 _ c.if-line-ne2.false)
