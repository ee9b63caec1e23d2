-- Every shape that N entries can have (document 02, F-12), in rising M, then by the balance ranks of the ranges taken root, left, right.
-- Definitions only.
use Rattle.std.specs.Prelude.{List, [], ◌∷◌, ◌++◌, map, ℕ, zero, suc, ◌+◌, ◌-◌, ◌*◌, get_or}
use Rattle.draw_shares.specs.Fraction.{Fraction, plus, whole, unit}
use Rattle.draw_shares.specs.Course.{concat_below}
use Rattle.tree_sizes.specs.Sizes.{height, candidates, half_candidates, window_start}
use Rattle.tree_rules.specs.Tree.{Tree, leaf, node, Shape}

-- The ranges with the balance rank b and one of these left halves and one of these right halves: by the left half, then by the right half.
unfoldable pub with_halves : ℕ → List Tree → List Tree → List Tree
with_halves b [] rights = []
with_halves b (l ∷ lefts) rights = map (node b l) rights ++ with_halves b lefts rights

-- The trees of a range of n entries at depth d, `levels` above the leaves: by its balance rank, then by its left half, then by its right half.
unfoldable pub trees : ℕ → ℕ → ℕ → ℕ → List Tree
trees M zero d n = leaf ∷ []
trees M (suc levels) d n =
    concat_below (candidates M d) (λ i.
    let b = window_start n (candidates M d) + i in
    with_halves b (trees M levels (suc d) b) (trees M levels (suc d) (n - b)))

-- The shapes of N entries that have the size parameter M.
unfoldable pub shapes_of_size : ℕ → ℕ → List Shape
shapes_of_size N M = map (λ t. record { size = M; tree = t }) (trees M (height M) 0 N)

-- Number k of them, from 0.
unfoldable pub shape_at : ℕ → ℕ → ℕ → Shape
shape_at N M k = get_or (shapes_of_size N M) k (record { size = M; tree = leaf })

-- How many size parameters N entries can have: M = 0 alone for N = 0, otherwise N to 2 N - 1.
unfoldable pub size_count : ℕ → ℕ
size_count zero = 1
size_count (suc n) = suc n

-- The shapes of N entries.
unfoldable pub shapes : ℕ → List Shape
shapes N = concat_below (size_count N) (λ i. shapes_of_size N (N + i))

-- How many trees a range with c candidates, `levels` above the leaves, can have.
unfoldable pub tree_count : ℕ → ℕ → ℕ
tree_count c zero = 1
tree_count c (suc levels) = c * (tree_count (half_candidates c) levels * tree_count (half_candidates c) levels)

-- How many shapes with the size parameter M there are, whatever the number of entries.
unfoldable pub shape_count : ℕ → ℕ
shape_count M = tree_count (candidates M 0) (height M)

-- The sum of 1 over each of some numbers.
unfoldable pub sum_of_units : List ℕ → Fraction
sum_of_units [] = whole 0
sum_of_units (n ∷ ns) = plus (unit n) (sum_of_units ns)
