-- The third slice of a written list: seven entries in four leaves of 2, 2, 1 and 2.
use Rattle.std.specs.Prelude.{◌≡◌, refl, [], ◌∷◌}
use Rattle.tree_rules.specs.Tree.{leaf, node}
use Rattle.store_balance.specs.Balance.{write_balance, lay_balance}

-- the first entries of the right halves: of the root 15, of range 2 13, of range 3 16; 0 at the number 0 and at those of the leaves
four_leaves : lay_balance 8 (11 ∷ 12 ∷ 13 ∷ 14 ∷ 15 ∷ 16 ∷ 17 ∷ []) (record { size = 65; tree = node 4 (node 2 leaf leaf) (node 1 leaf leaf) })
    ≡ 0 ∷ 15 ∷ 13 ∷ 16 ∷ 0 ∷ 0 ∷ 0 ∷ 0 ∷ []
unfolding lay_balance write_balance
four_leaves = refl

one_range : lay_balance 4 (11 ∷ 12 ∷ []) (record { size = 3; tree = leaf }) ≡ 0 ∷ 0 ∷ 0 ∷ 0 ∷ []
unfolding lay_balance write_balance
one_range = refl
