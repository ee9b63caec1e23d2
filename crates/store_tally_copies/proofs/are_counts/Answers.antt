-- `are_counts` meets its contract.
use Rattle.std.proofs.Common.{rules, ◌∙◌, drop, ne_eqb}
use Rattle.base.specs.ListLaws.{equal_pointwise}
use Rattle.store_tally_copies.specs.CopyLaws.{first_other, first_zero, behind_first}
use Rattle.store_tally_copies.proofs.are_counts.Goals as goal

pub returns-then-tallies-eq0 : goal.returns-then-tallies-eq0
returns-then-tallies-eq0 c =
    let a = c.args in
    c.eq.ensures ∙ search (rules, behind_first a.tallies.now, behind_first a.counts.now)
    ∙ equal_pointwise (drop 1 a.tallies.now) (drop 1 a.counts.now)
    ∙ first_zero a.tallies.now a.counts.now c.requires.some c.if-tallies-eq0.true

pub returns-else-tallies-eq0 : goal.returns-else-tallies-eq0
returns-else-tallies-eq0 c =
    let a = c.args in
    ne_eqb _ 0 c.if-tallies-eq0.false ∙ first_other a.tallies.now a.counts.now c.requires.some c.if-tallies-eq0.false
