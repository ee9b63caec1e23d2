-- The list and the shape that slots and a size parameter give (document 02, F-13). Definitions only.
use Rattle.std.specs.Prelude.{List, ℕ, zero, suc, ◌*◌, ◌^◌, length, take, drop}
use Rattle.tree_sizes.specs.Sizes.{height, leaf_slots}
use Rattle.tree_rules.specs.Tree.{Tree, leaf, node}
use Rattle.store_layout.specs.Leaf.{nonzero}
use Rattle.store_layout.specs.Decode.{Contents}

-- The tree of a range with these slots, in leaves of s slots: the balance rank of each range is the number of entries in the slots of its left half.
unfoldable pub tree_in : ℕ → ℕ → List ℕ → Tree
tree_in s zero slots = leaf
tree_in s (suc levels) slots =
    node (length (nonzero (take (s * 2 ^ levels) slots))) (tree_in s levels (take (s * 2 ^ levels) slots)) (tree_in s levels (drop (s * 2 ^ levels) slots))

-- The contents that a sheet with these slots and this size parameter has, if there is one.
unfoldable pub contents_in : List ℕ → ℕ → Contents
contents_in slots M = record { list = nonzero slots; shape = record { size = M; tree = tree_in (leaf_slots M) (height M) slots } }
