-- `tree_counts::rebuild_above` meets its contract; the levels above the leaves fall from call to call.
use Rattle.tree_counts.proofs.+rebuild_above.Given as goal

abbrev pub decreases-rebuild_above : goal.decreases-rebuild_above
decreases-rebuild_above l = l.here.levels
