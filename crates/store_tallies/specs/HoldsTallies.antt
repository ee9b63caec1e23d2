-- The tallies in terms of the list and the counts: which entries a range has. Definitions only.
use Rattle.std.specs.Prelude.{◌≡◌, List, ℕ, ◌+◌, ◌-◌, ◌*◌, ◌^◌, get_or, take, drop}
use Rattle.base.specs.Lists.{total}
use Rattle.tree_rules.specs.Tree.{Tree, leaf, node}
use Rattle.store_scoring.specs.Scoring.{tally}

-- The numbers are the tallies of the range k and of those below it. The range has this tree, and n entries of the list, from the rank `first` on.
unfoldable pub HoldsTallies : List ℕ → List ℕ → ℕ → ℕ → ℕ → Tree → Type 0
HoldsTallies list words k first n leaf = get_or words k 0 ≡ tally (take n (drop first list))
HoldsTallies list words k first n (node b l r) =
    (get_or words k 0 ≡ tally (take n (drop first list)))
    × HoldsTallies list words (2 * k) first b l
    × HoldsTallies list words (2 * k + 1) (first + b) (n - b) r

-- The entries of the range k, one of the ranges at depth d, by the counts of the ranges: they stand behind those of the ranges before it at this
-- depth, and are as many as its count says.
unfoldable pub entries_of : List ℕ → List ℕ → ℕ → ℕ → List ℕ
entries_of list counts d k = take (get_or counts k 0) (drop (total (take (k - 2 ^ d) (drop (2 ^ d) counts))) list)
