-- `lay_leaves` meets its contract. The loop's invariant: so many leaves are laid out as counts are seen (`Laid`).
use Rattle.std.proofs.Common.{◌≡◌, ◌+◌, get_or, take, drop, ◌-◌, arith}
use Rattle.std.proofs.lemmas.List.Edits.{get_or-between}
use Rattle.store_layout.proofs.LeavesLoop.{laid_none, laid_more, leaf_ready}
use Rattle.store_layout.proofs.lay_leaves.Goals.{In-loop-count}
use Rattle.store_layout.proofs.lay_leaves.Goals as goal

-- The number of a turn's leaf.
here : (c : In-loop-count)
    → let a = c.args in
    get_or (take (a.first + a.leaves - a.first) (drop a.first a.counts.now)) c.loop-count.count-index 0
    ≡ get_or a.counts.now (a.first + c.loop-count.count-index) 0
here c = get_or-between c.args.counts.now c.args.first (c.args.first + c.args.leaves) c.loop-count.count-index 0 (omega arith)

pub loop-count-init : goal.loop-count-init
loop-count-init c = laid_none c.requires

-- At each turn the next leaf has its slots and its entries.
pub spread_leaf-requires : goal.spread_leaf-requires
spread_leaf-requires c =
    leaf_ready c.requires c.loop-count.invariant (omega arith) (omega arith) (here (goal.at.spread_leaf-requires c).In-loop-count)

pub overflow_add-at : goal.overflow_add-at
overflow_add-at c =
    omega (
      arith,
      (leaf_ready c.requires c.loop-count.invariant (omega arith) (omega arith) (here (goal.at.overflow_add-at c).In-loop-count)).list_room,
    )

pub loop-count-preserved : goal.loop-count-preserved
loop-count-preserved c =
    laid_more c.requires c.loop-count.invariant (omega arith) (omega arith) (here (goal.at.loop-count-preserved c).In-loop-count) c.spread_leaf.ensures
