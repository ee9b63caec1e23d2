-- The test of leaves: their entries stand where the leaf rule has them, and every other slot is 0. Definitions only.
use Rattle.std.specs.Prelude.{Bool, true, ◌&&◌, List, [], ◌∷◌, ℕ, eqb, length, take, drop}
use Rattle.base.specs.Lists.{equal_lists}
use Rattle.store_layout.specs.Leaf.{spread, nonzero}

-- A leaf of s slots with n entries: they stand where the leaf rule has them, and every other slot is 0.
unfoldable pub leaf_test : ℕ → ℕ → List ℕ → Bool
leaf_test s n leaf = eqb (length (nonzero leaf)) n && equal_lists leaf (spread s (nonzero leaf))

-- Leaves of s slots one after the other, with these numbers of entries.
unfoldable pub leaves_test : ℕ → List ℕ → List ℕ → Bool
leaves_test s [] all = true
leaves_test s (n ∷ ns) all = leaf_test s n (take s all) && leaves_test s ns (drop s all)
