-- `tree_walk::walk` meets its contract.
use Rattle.std.proofs.Common.{rules, ◌≡◌, refl, Some, None}
use Rattle.tree_walk.specs.Updated.{rebuilt_to}
use Rattle.tree_walk.specs.Walk.{Stopped}
use Rattle.tree_walk.specs.WalkLaws.{walk_updated, walk_ended}
use Rattle.tree_walk.proofs.walk.Goals.{In_ok-stop}
use Rattle.tree_walk.proofs.walk.Goals as goal

-- where the walk stopped
stopped : (c : In_ok-stop) →
    let a = c.args in
    Stopped a.change a.n a.size.m a.counts.now a.tape.now a.at c.in_ok-stop.stop c.descend.new.counts
stopped c = rw c.in_ok-stop.was at c.descend.ensures

pub returns : goal.returns
unfolding rebuilt_to
returns c =
    let rebuilt : c.rebuild_at.result ≡ Some c.in_ok-next.next = search rules in
    walk_updated c.requires (stopped (goal.at.returns c).In_ok-stop) _ _ _ _ c.part.ensures c.rebuild_at.ensures (rw rebuilt)

pub returns-in_err-stop : goal.returns-in_err-stop
returns-in_err-stop c =
    rw c.from_residual.ensures (walk_ended c.requires _ _ _ (rw c.in_err-stop.was at c.descend.ensures))

pub returns-in_err-next : goal.returns-in_err-next
unfolding rebuilt_to
returns-in_err-next c =
    let ended : c.rebuild_at.result ≡ None = search rules in
    walk_updated c.requires (stopped (goal.at.returns-in_err-next c).In_ok-stop) _ _ _ _ refl c.rebuild_at.ensures
    (rw (c.from_residual-in_err-next.ensures, ended))
