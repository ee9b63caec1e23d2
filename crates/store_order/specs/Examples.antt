-- The order of small trees.
use Rattle.std.specs.Prelude.{◌≡◌, refl, [], ◌∷◌}
use Rattle.base.specs.Cases.{if_eq, if_lt, if_le}
use Rattle.base.specs.Lists.{tabulate}
use Rattle.store_order.specs.Occurs.{index_of}
use Rattle.store_order.specs.TreeOrder.{each, order_by, tree_order}
use Rattle.store_order.specs.CountOrder.{stored, count_place, range_at, reorder, count_order, number_order}

-- three levels: the root, then the two subtrees of two levels
three : tree_order 3 1 ≡ 1 ∷ 2 ∷ 4 ∷ 5 ∷ 3 ∷ 6 ∷ 7 ∷ []
unfolding tree_order order_by each if_le
three = refl

-- four levels: the top two levels, then the four subtrees of two levels
four : tree_order 4 1 ≡ 1 ∷ 2 ∷ 3 ∷ 4 ∷ 8 ∷ 9 ∷ 5 ∷ 10 ∷ 11 ∷ 6 ∷ 12 ∷ 13 ∷ 7 ∷ 14 ∷ 15 ∷ []
unfolding tree_order order_by each if_le
four = refl

-- five levels below range 3: the top two levels, then the four subtrees of three levels
five : tree_order 5 3
    ≡ 3 ∷ 6 ∷ 7 ∷ 12 ∷ 24 ∷ 48 ∷ 49 ∷ 25 ∷ 50 ∷ 51 ∷ 13 ∷ 26 ∷ 52 ∷ 53 ∷ 27 ∷ 54 ∷ 55
    ∷ 14 ∷ 28 ∷ 56 ∷ 57 ∷ 29 ∷ 58 ∷ 59 ∷ 15 ∷ 30 ∷ 60 ∷ 61 ∷ 31 ∷ 62 ∷ 63 ∷ []
unfolding tree_order order_by each if_le
five = refl

-- the counts of a tree of three levels, with two unused
put : count_order 2 (70 ∷ 1 ∷ 2 ∷ 3 ∷ 4 ∷ 5 ∷ 6 ∷ 7 ∷ 8 ∷ 9 ∷ []) ≡ 70 ∷ 1 ∷ 2 ∷ 4 ∷ 5 ∷ 3 ∷ 6 ∷ 7 ∷ 8 ∷ 9 ∷ []
unfolding count_order reorder tabulate range_at stored tree_order order_by each if_lt if_le
put = refl

back : number_order 2 (70 ∷ 1 ∷ 2 ∷ 4 ∷ 5 ∷ 3 ∷ 6 ∷ 7 ∷ 8 ∷ 9 ∷ []) ≡ 70 ∷ 1 ∷ 2 ∷ 3 ∷ 4 ∷ 5 ∷ 6 ∷ 7 ∷ 8 ∷ 9 ∷ []
unfolding number_order reorder tabulate count_place stored tree_order order_by each index_of if_eq if_lt if_le
back = refl
