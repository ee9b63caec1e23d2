-- The layout of written lists.
use Rattle.std.specs.Prelude.{◌≡◌, refl, [], ◌∷◌}
use Rattle.std.proofs.Math.Option.{some, none}
use Rattle.base.specs.Cases.{if_eq, if_lt, if_le}
use Rattle.base.specs.Lists.{tabulate, equal_lists}
use Rattle.tree_sizes.specs.Sizes.{doublings, digits, height, leaf_slots}
use Rattle.tree_rules.specs.Tree.{leaf}
use Rattle.tree_counts.specs.Counts.{write_tree, read_tree, shape_counts, shape_in}
use Rattle.store_layout.specs.Leaf.{slot_of, put_entries, spread, nonzero}
use Rattle.store_layout.specs.declared.Capacity.{Capacity}
use Rattle.store_layout.specs.Layout.{leaf_counts, lay_leaves, pad_to, lay_slots, lay_counts, lay_out}
use Rattle.store_order.specs.Occurs.{index_of}
use Rattle.store_order.specs.TreeOrder.{each, order_by, tree_order}
use Rattle.store_order.specs.CountOrder.{stored, count_place, range_at, reorder, count_order, number_order}
use Rattle.store_layout.specs.Decode.{numbered, list_of, shape_of, balanced_test, shape_test, laid_test, sheet_test, decode}

tiny : Capacity
tiny = record { entries = 3; slots = 6; counts = 4 }

-- the sheet that document 01 prints, by the leaf rule of document 02: entries A and B, M = 3
printed : lay_out tiny (0xA ∷ 0xB ∷ []) (record { size = 3; tree = leaf })
    ≡ record { slots = 0xA ∷ 0 ∷ 0xB ∷ 0 ∷ 0 ∷ 0 ∷ []; counts = 3 ∷ 2 ∷ 0 ∷ 0 ∷ [] }
unfolding tiny lay_out lay_slots lay_counts pad_to lay_leaves leaf_counts spread put_entries slot_of leaf_slots height digits doublings count_order reorder tabulate range_at stored tree_order order_by each index_of shape_counts write_tree if_le if_lt if_eq
printed = refl

read_back : decode tiny (record { slots = 0xA ∷ 0 ∷ 0xB ∷ 0 ∷ 0 ∷ 0 ∷ []; counts = 3 ∷ 2 ∷ 0 ∷ 0 ∷ [] })
    ≡ some (record { list = 0xA ∷ 0xB ∷ []; shape = record { size = 3; tree = leaf } })
unfolding tiny decode sheet_test laid_test shape_test balanced_test shape_of shape_in numbered number_order count_place list_of nonzero read_tree equal_lists lay_out lay_slots lay_counts pad_to lay_leaves leaf_counts spread put_entries slot_of leaf_slots height digits doublings count_order reorder tabulate range_at stored tree_order order_by each index_of shape_counts write_tree if_le if_lt if_eq
read_back = refl

-- an old entry in a gap
gap : decode tiny (record { slots = 0xA ∷ 0 ∷ 0xB ∷ 7 ∷ 0 ∷ 0 ∷ []; counts = 3 ∷ 2 ∷ 0 ∷ 0 ∷ [] }) ≡ none
unfolding tiny decode sheet_test laid_test shape_test balanced_test shape_of shape_in numbered number_order count_place list_of nonzero read_tree equal_lists lay_out lay_slots lay_counts pad_to lay_leaves leaf_counts spread put_entries slot_of leaf_slots height digits doublings count_order reorder tabulate range_at stored tree_order order_by each index_of shape_counts write_tree if_le if_lt if_eq
gap = refl
