-- `put_words` meets its contract; the levels above the leaves fall from call to call.
use Rattle.tree_shapes.proofs.+put_words.Given as goal

abbrev pub decreases-put_words : goal.decreases-put_words
decreases-put_words l = l.levels
