-- The tallies of a sheet (document 02, F-11): for each range the number of its scoring entries. Definitions only.
use Rattle.std.specs.Prelude.{List, ℕ, ◌+◌, ◌*◌, set, take, drop, replicate}
use Rattle.tree_sizes.specs.Sizes.{height}
use Rattle.tree_rules.specs.Tree.{Tree, leaf, node, Shape}
use Rattle.store_order.specs.CountOrder.{count_order}
use Rattle.store_scoring.specs.Scoring.{tally}

-- The numbers with the tallies of the range k and of those below it written in. The range has these entries and this tree: its left half has
-- as many of them as its balance rank says.
unfoldable pub write_tallies : List ℕ → ℕ → List ℕ → Tree → List ℕ
write_tallies words k entries leaf = set words k (tally entries)
write_tallies words k entries (node b l r) =
    write_tallies (write_tallies (set words k (tally entries)) (2 * k) (take b entries) l) (2 * k + 1) (drop b entries) r

-- The tallies by range number, of a list with a shape: the root has the number 1. Number 0 and the numbers that no range has are 0.
unfoldable pub range_tallies : ℕ → List ℕ → Shape → List ℕ
range_tallies room list s = write_tallies (replicate room 0) 1 list s.tree

-- The slice of tallies, of `room` numbers: in the order of the counts.
unfoldable pub lay_tallies : ℕ → List ℕ → Shape → List ℕ
lay_tallies room list s = count_order (height s.size) (range_tallies room list s)
