-- `count_leaves` meets its contract. The loop's invariant: the leaves before k are counted.
use mathlib.Core.List.{List}
use Prim.Native.Nat.{ℕ, ◌-◌, ◌*◌}
use lib.ListN.{take, drop}
use Rattle.tree_sizes.specs.Sizes.{slots}
use Rattle.store_layout.specs.Leaf.{nonzero}
use Rattle.store_scoring.specs.Scoring.{tally}
use Rattle.store_sums.specs.Updating.{Filled}
use Rattle.store_tallies.proofs.count_leaves.Given as goal

-- The number of scoring entries of the leaf k, in a tree whose first leaf has the number `leaves`.
abbrev pub counted : List ℕ → ℕ → ℕ → ℕ → ℕ
counted slots s leaves k = tally (nonzero (take s (drop (s * (k - leaves)) slots)))

abbrev pub invariant-loop-k : goal.invariant-loop-k
invariant-loop-k l = Filled (counted l.slots l.s l.leaves) l.first l.k l.initial.tallies l.tallies
