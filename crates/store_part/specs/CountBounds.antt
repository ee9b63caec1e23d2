-- Every count of a shape is at most its size.
use Rattle.std.specs.Prelude.{List, set, replicate}
use Prim.Native.Nat.{ℕ, zero, suc, zero-le, ◌+◌, ◌-◌, ◌*◌, ◌≤◌, ◌<◌}
use Rattle.std.proofs.Common.{le_refl, arith}
use Rattle.base.specs.Lists.{Every}
use Rattle.base.specs.ListLaws.{every_set, every_replicate}
use Rattle.tree_sizes.specs.Sizes.{height, candidates, Fits}
use Rattle.tree_sizes.proofs.SizeLaws.{candidate_below}
use Rattle.tree_sizes.proofs.Fit.{fit, fits_count, fits_halves}
use Rattle.tree_rules.specs.Tree.{Tree, leaf, node, Balanced, Shape, IsShape}
use Rattle.tree_counts.specs.Counts.{write_tree, shape_counts}

-- P holds of every number up to M.
module _ (P : ℕ → Type 0) (M : ℕ) (holds : (c : ℕ) → c ≤ M → P c) where
  -- A range of at most M entries keeps P of every count.
  write_tree_every : (levels d k n : ℕ) (t : Tree) (counts : List ℕ) → Fits M levels d n → Balanced M levels d n t → n ≤ M → Every P counts
      → Every P (write_tree counts k n t)
  unfolding write_tree Balanced
  write_tree_every levels d k n leaf counts fits balanced h p = every_set P counts k n p (holds n h)
  write_tree_every zero d k n (node b l r) counts fits balanced h p = absurd balanced
  write_tree_every (suc levels) d k n (node b l r) counts fits balanced h p =
      let halves = fits_halves M levels d n fits b balanced.0 in
      let below : b < n = candidate_below n (candidates M d) b (fits_count M levels d n fits) balanced.0 in
      let left = write_tree_every levels (suc d) (2 * k) b l (set counts k n) halves.0 balanced.1 (omega arith) (every_set P counts k n p (holds n h)) in
      write_tree_every levels (suc d) (2 * k + 1) (n - b) r (write_tree (set counts k n) (2 * k) b l) halves.1 balanced.2 (omega arith) left

-- What holds of every number up to the size holds of every count.
pub shape_counts_every : (P : ℕ → Type 0) (room N : ℕ) (s : Shape) → IsShape N s → ((c : ℕ) → c ≤ s.size → P c)
    → Every P (shape_counts room N s)
unfolding shape_counts
shape_counts_every P room N s shape holds =
    write_tree_every P s.size holds (height s.size) 0 1 N s.tree (set (replicate room 0) 0 s.size)
    (fit N s.size shape.allowed) shape.balanced shape.allowed.least
    (every_set P (replicate room 0) 0 s.size (every_replicate P room 0 (holds 0 zero-le)) (holds s.size (le_refl s.size)))

pub shape_counts_most : (room N : ℕ) (s : Shape) → IsShape N s → Every (λ c. c ≤ s.size) (shape_counts room N s)
shape_counts_most room N s shape = shape_counts_every (λ c. c ≤ s.size) room N s shape (λ c h. h)
