-- The canonical distribution of the shapes of N entries: the size parameter is equally likely each of those allowed, and then everything
-- is rebuilt. It depends on N alone. Definitions only.
use Rattle.std.specs.Prelude.{ℕ, zero, suc, ◌+◌, ◌*◌}
use Rattle.draw_shares.specs.Program.{Program, done, draw, ◌>>=◌}
use Rattle.tree_sizes.specs.Sizes.{candidates}
use Rattle.tree_rules.specs.declared.Change.{Change}
use Rattle.tree_rules.specs.Tree.{Tree, leaf, node, Shape}
use Rattle.tree_rules.specs.Rules.{size_step, size_after, fresh}

-- 0 for N = 0, otherwise one of N, .., 2 N - 1.
unfoldable pub canonical_size : ℕ → Program ℕ
canonical_size zero = done 0
canonical_size (suc n) = draw (suc n) (λ face. done (suc n + face))

unfoldable pub canonical : ℕ → Program Shape
canonical N = canonical_size N >>= λ M. fresh M N

unfoldable pub new_size : Change → ℕ → ℕ → Program ℕ
new_size change N M = size_step change N M >>= λ step. done (size_after M step)

-- The product of the numbers of candidates of the ranges above the leaves, from depth d on.
unfoldable pub candidates_product : ℕ → ℕ → Tree → ℕ
candidates_product M d leaf = 1
candidates_product M d (node b l r) = candidates M d * (candidates_product M (suc d) l * candidates_product M (suc d) r)
