-- Candidates always fit, no leaf has more entries than slots, and for M > 64 no leaf is empty: for every size parameter of the federation's sheets,
-- and so for those of the clubs' (documents 01, and 02, F-14).
use Rattle.std.specs.Prelude.{ℕ, ◌≤◌}
use Rattle.std.proofs.Common.{arith}
use Rattle.tree_sizes.specs.Sizes.{height, Allowed, Fits}
use Rattle.tree_sizes.proofs.Fit.{fit}
use Rattle.call_outcomes.specs.Clubs.{clubs}
use Rattle.call_outcomes.specs.Federation.{federation}

pub federation_fit : (N M : ℕ) → N ≤ federation.entries → Allowed N M → (M ≤ 131071) × Fits M (height M) 0 N
federation_fit N M few allowed = (omega (arith, allowed.most), fit N M allowed)

pub clubs_fit : (N M : ℕ) → N ≤ clubs.entries → Allowed N M → Fits M (height M) 0 N
clubs_fit N M few allowed = (federation_fit N M (omega arith) allowed).1
