-- `scores` meets its contract.
use mathlib.Core.Path.{sym, ◌∙◌}
use Rattle.store_scoring.specs.ScoringLaws.{tally_empty, tally_out, tally_in}
use Rattle.store_scoring.proofs.scores.Goals as goal

pub returns-then-slot-eq0 : goal.returns-then-slot-eq0
returns-then-slot-eq0 c = sym (tally_empty c.args.slot c.if-slot-eq0.true)

pub returns-then-is_retired : goal.returns-then-is_retired
returns-then-is_retired c = sym (tally_out c.args.slot (sym c.is_retired.ensures ∙ c.if-is_retired.true))

pub returns : goal.returns
returns c =
    sym (tally_in c.args.slot c.if-slot-eq0.false (sym c.is_retired.ensures ∙ c.if-is_retired.false))
