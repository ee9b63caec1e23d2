-- `tree_count` meets its contract; the levels above the leaves fall from call to call.
use Rattle.tree_shapes.proofs.+tree_count.Given as goal

abbrev pub decreases-tree_count : goal.decreases-tree_count
decreases-tree_count l = l.levels
