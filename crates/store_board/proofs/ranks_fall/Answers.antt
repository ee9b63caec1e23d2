-- `ranks_fall` meets its contract. The loop's invariant: whether the ranks fall is whether those that are left do, the first of them from `low` on.
use mathlib.Core.Path.{refl, sym, ◌∙◌}
use native.Mathlib.Omega.{arith}
use Rattle.store_board.specs.BoardLaws.{falls_here, falls_behind, falls_none}
use Rattle.store_board.proofs.ranks_fall.Goals as goal

pub loop-rank-init : goal.loop-rank-init
loop-rank-init c = refl

pub returns-then-rank-low : goal.returns-then-rank-low
returns-then-rank-low c =
    sym (c.loop-rank.invariant ∙ falls_here c.args.ranks.now c.loop-rank.rank-index (omega arith) c.loop-rank.low c.if-rank-low.true)

pub loop-rank-preserved : goal.loop-rank-preserved
loop-rank-preserved c =
    c.loop-rank.invariant ∙ falls_behind c.args.ranks.now c.loop-rank.rank-index (omega arith) c.loop-rank.low c.if-rank-low.false

pub returns : goal.returns
returns c =
    sym (c.loop-rank.invariant ∙ falls_none c.loop-rank.low c.args.ranks.now c.loop-rank.rank-index (omega arith))
