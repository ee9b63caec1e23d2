-- The tallies as the counts of a tree. Definitions only.
use Rattle.std.specs.Prelude.{List, ℕ, take, drop}
use Rattle.tree_rules.specs.Tree.{Tree, leaf, node, Shape}
use Rattle.store_scoring.specs.Scoring.{tally}

-- The tree of a range with these entries, with the number of scoring entries of the left half in place of the number of its entries.
unfoldable pub tally_tree : List ℕ → Tree → Tree
tally_tree entries leaf = leaf
tally_tree entries (node b l r) = node (tally (take b entries)) (tally_tree (take b entries) l) (tally_tree (drop b entries) r)

-- The shape whose counts are the tallies of a list with a shape: its size is 0, for 0 stands at number 0.
abbrev pub tally_shape : List ℕ → Shape → Shape
tally_shape list s = record { size = 0; tree = tally_tree list s.tree }
