-- What the canonical distribution ends with: shapes of N entries. It always has a face to draw.
use Rattle.std.specs.Prelude.{ℕ, zero, suc}
use Rattle.std.proofs.Common.{arith}
use Rattle.draw_shares.specs.Program.{Live, Draws, Ends}
use Rattle.draw_shares.specs.ProgramLaws.{ends_bind, draws_bind, draws_bind_ends, draws_done}
use Rattle.tree_sizes.specs.Sizes.{Allowed, height}
use Rattle.tree_sizes.proofs.Fit.{fit}
use Rattle.tree_rules.specs.Tree.{IsShape}
use Rattle.tree_rules.proofs.ShapeLaws.{fresh_ends}
use Rattle.tree_rules.specs.Rules.{rebuild, fresh}
use Rattle.tree_canonical.specs.Canonical.{canonical_size, canonical}
use Rattle.tree_canonical.specs.VisitLaws.{live_rebuild}

-- ---- rebuilding

pub live_fresh : (M N : ℕ) → Allowed N M → Live (fresh M N)
unfolding fresh
live_fresh M N a = draws_bind _ (rebuild M (height M) 0 N) _ (live_rebuild M (height M) 0 N (fit N M a)) (λ t. draws_done _ _)

-- ---- the canonical distribution

pub canonical_size_ends : (N : ℕ) → Ends (Allowed N) (canonical_size N)
unfolding canonical_size Ends
canonical_size_ends zero = record { least = omega arith; most = omega arith }
canonical_size_ends (suc n) = λ face l. record { least = omega arith; most = omega arith }

-- Every shape that it ends with is one of N entries.
pub canonical_ends : (N : ℕ) → Ends (IsShape N) (canonical N)
unfolding canonical
canonical_ends N = ends_bind (Allowed N) (IsShape N) (canonical_size N) _ (canonical_size_ends N) (λ M a. fresh_ends M N a)

live_size : (N : ℕ) → Live (canonical_size N)
unfolding canonical_size Draws
live_size zero = tt
live_size (suc n) = (omega arith, λ face l. tt)

-- It always has a face to draw.
pub canonical_live : (N : ℕ) → Live (canonical N)
unfolding canonical
canonical_live N = draws_bind_ends _ (Allowed N) (canonical_size N) _ (live_size N) (canonical_size_ends N) (λ M a. live_fresh M N a)
