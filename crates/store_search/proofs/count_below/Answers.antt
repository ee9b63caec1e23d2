-- `count_below` meets its contract: of one slot at most one entry is counted.
use mathlib.Core.Path.{sym, ◌∙◌}
use native.Mathlib.Omega.{arith}
use Rattle.base.specs.CaseLaws.{if_lt_yes, if_lt_no}
use Rattle.store_search.specs.LeafLoopLaws.{rank_none, rank_one}
use Rattle.store_search.proofs.count_below.Goals as goal

pub returns-then-held-eq0 : goal.returns-then-held-eq0
returns-then-held-eq0 c = sym (rank_none c.args.held c.args.k c.if-held-eq0.true)

pub returns-then-key-k : goal.returns-then-key-k
returns-then-key-k c =
    let a = c.args in
    sym (rank_one a.held a.k c.if-held-eq0.false ∙ if_lt_yes _ a.k 1 0 (omega (arith, c.key.ensures)))

pub returns-else-key-k : goal.returns-else-key-k
returns-else-key-k c =
    let a = c.args in
    sym (rank_one a.held a.k c.if-held-eq0.false ∙ if_lt_no _ a.k 1 0 (omega (arith, c.key.ensures)))
