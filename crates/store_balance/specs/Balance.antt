-- The third slice of a timed sheet (document 02, F-1): at the number of each range above the leaves its balance entry, and 0 elsewhere.
-- Definitions only.
use Rattle.std.specs.Prelude.{List, ◌≡◌, ℕ, ◌+◌, ◌*◌, get_or, set, replicate}
use Rattle.tree_rules.specs.Tree.{Tree, leaf, node, Shape}

-- The words with the balance entries of the range k and of those below it written in. The range has this tree, and its entries are those of
-- the list from the rank `first` on: the balance entry is the first one of the right half.
unfoldable pub write_balance : List ℕ → List ℕ → ℕ → ℕ → Tree → List ℕ
write_balance list words k first leaf = words
write_balance list words k first (node b l r) =
    write_balance list (write_balance list (set words k (get_or list (first + b) 0)) (2 * k) first l) (2 * k + 1) (first + b) r

-- The third slice, of `room` words, of a list with a shape.
unfoldable pub lay_balance : ℕ → List ℕ → Shape → List ℕ
lay_balance room list s = write_balance list (replicate room 0) 1 0 s.tree

-- The words hold the balance entries of the range k and of those below it.
unfoldable pub HoldsBalance : List ℕ → List ℕ → ℕ → ℕ → Tree → Type 0
HoldsBalance list words k first leaf = Unit {0}
HoldsBalance list words k first (node b l r) =
    (get_or words k 0 ≡ get_or list (first + b) 0) × HoldsBalance list words (2 * k) first l × HoldsBalance list words (2 * k + 1) (first + b) r
