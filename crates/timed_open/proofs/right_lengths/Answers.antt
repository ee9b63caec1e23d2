-- `right_lengths` meets its contract.
use mathlib.Core.Path.{sym, ◌∙◌}
use Rattle.timed_open.proofs.right_lengths.Goals as goal

pub returns-then-not-right_lengths : goal.returns-then-not-right_lengths
returns-then-not-right_lengths c = rw (sym c.right_lengths.ensures ∙ c.if-not-right_lengths.true)

pub returns : goal.returns
returns c = rw (sym c.right_lengths.ensures ∙ c.if-not-right_lengths.false)
