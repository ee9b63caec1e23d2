-- `tree_walk::Walked::half` meets its contract.
use Rattle.tree_walk.specs.WalkLaws.{half_left, half_right}
use Rattle.tree_walk.proofs.Walked.half.Goals as goal

pub returns-then-b-rank : goal.returns-then-b-rank
returns-then-b-rank c =
    rw c.right.ensures (half_right c.args.self _ _ c.rank-rank.ensures _ c.if-b-rank.true c.at_rank.ensures)

pub returns : goal.returns
returns c =
    rw c.left.ensures (half_left c.args.self _ _ c.rank-rank.ensures c.if-b-rank.false)
