-- Laws of the range numbers: the ranges below a range and its halves, and which trees are perfect.
use Rattle.std.specs.Prelude.{◌≡◌, ◌⊎◌, ℕ, zero, suc, ◌+◌, ◌-◌, ◌*◌, ◌^◌, ◌≤◌, ◌<◌}
use Rattle.std.proofs.Common.{inl, inr, ⊎_elim, arith, mul-le-mul_left, mul-le-mul_right, pow_pos, pow_mono}
use Rattle.std.proofs.Math.Nat.{pow-succ'}
use Rattle.base.specs.CaseLaws.{le_or_gt, lt_or_ge}
use Rattle.tree_rules.specs.Tree.{Tree, leaf, node, Balanced}
use Rattle.tree_counts.specs.Ranges.{Below, InSubtree, Perfect}

-- ---- the ranges below a range

pub below_itself : (k : ℕ) → Below k 0 k
below_itself k = record { from = omega arith; before = omega arith }

pub below_only : (k j : ℕ) → Below k 0 j → j ≡ k
below_only k j w = omega (arith, w.from, w.before)

pub below_least : (k d j : ℕ) → Below k d j → k ≤ j
below_least k d j w = omega (arith, w.from, mul-le-mul_left k (pow_pos d))

below_half : (k h d j : ℕ) → 2 * k ≤ h → h ≤ 2 * k + 1 → Below h d j → Below k (suc d) j
below_half k h d j l r w = record {
  from = rw (pow-succ' 2 d) (omega (arith, w.from, mul-le-mul_right (2 ^ d) l));
  before = rw (pow-succ' 2 d) (omega (arith, w.before, mul-le-mul_right (2 ^ d) r));
}

pub below_left : (k d j : ℕ) → Below (2 * k) d j → Below k (suc d) j
below_left k d j = below_half k (2 * k) d j (omega arith) (omega arith)

pub below_right : (k d j : ℕ) → Below (2 * k + 1) d j → Below k (suc d) j
below_right k d j = below_half k (2 * k + 1) d j (omega arith) (omega arith)

pub below_halves : (k d j : ℕ) → Below k (suc d) j → Below (2 * k) d j ⊎ Below (2 * k + 1) d j
below_halves k d j w =
    let from : k * (2 * 2 ^ d) ≤ j = rw (pow-succ' 2 d) at w.from in
    let before : j < (k + 1) * (2 * 2 ^ d) = rw (pow-succ' 2 d) at w.before in
    ⊎_elim
    (λ (h : j < (2 * k + 1) * 2 ^ d). inl (record { from = omega arith; before = h }))
    (λ (h : (2 * k + 1) * 2 ^ d ≤ j). inr (record { from = h; before = omega arith }))
    (lt_or_ge j ((2 * k + 1) * 2 ^ d))

-- No range stands below both halves of a range.
pub halves_apart : (k d e j : ℕ) → 0 < k → Below (2 * k) d j → Below (2 * k + 1) e j → ⊥
halves_apart k d e j pos l r =
    ⊎_elim
    (λ (h : d ≤ e). omega (arith, l.before, r.from, mul-le-mul_left (2 * k + 1) (pow_mono h)))
    (λ (h : e < d).
    omega (
      arith,
      l.from,
      r.before,
      rw (pow-succ' 2 e) at (mul-le-mul_left (2 * k) (pow_mono h)),
      mul-le-mul_right (2 ^ e) pos,
    ))
    (le_or_gt d e)

-- Every number from 1 on is that of a range below the root.
pub below_root : (levels j : ℕ) → 0 < j → j < 2 * 2 ^ levels → (d : ℕ) × (d ≤ levels) × Below 1 d j
below_root zero j pos h = (0, omega arith, record { from = omega arith; before = omega arith })
below_root (suc levels) j pos h =
    ⊎_elim
    (λ (l : j < 2 * 2 ^ levels). let w = below_root levels j pos l in (w.0, omega (arith, w.1), w.2))
    (λ (l : 2 * 2 ^ levels ≤ j).
    (suc levels, omega arith, record { from = rw (pow-succ' 2 levels) (omega arith); before = omega arith }))
    (lt_or_ge j (2 * 2 ^ levels))

-- ---- subtrees

pub subtree_root : (k : ℕ) → InSubtree k k
subtree_root k = (0, below_itself k)

pub subtree_left : (k j : ℕ) → InSubtree (2 * k) j → InSubtree k j
subtree_left k j s = (suc s.0, below_left k s.0 j s.1)

pub subtree_right : (k j : ℕ) → InSubtree (2 * k + 1) j → InSubtree k j
subtree_right k j s = (suc s.0, below_right k s.0 j s.1)

-- A range is in the subtree of neither of its halves.
module _ (k : ℕ) (pos : 0 < k) where
  pub not_left : InSubtree (2 * k) k → ⊥
  not_left s = omega (arith, below_least (2 * k) s.0 k s.1)

  pub not_right : InSubtree (2 * k + 1) k → ⊥
  not_right s = omega (arith, below_least (2 * k + 1) s.0 k s.1)

-- ---- perfect trees

pub balanced_perfect : (M levels d n : ℕ) (t : Tree) → Balanced M levels d n t → Perfect levels t
unfolding Perfect Balanced
balanced_perfect M zero d n leaf w = tt
balanced_perfect M (suc levels) d n (node b l r) w =
    (balanced_perfect M levels (suc d) b l w.1, balanced_perfect M levels (suc d) (n - b) r w.2)
balanced_perfect M zero d n (node b l r) w = elim w [ ]
balanced_perfect M (suc levels) d n leaf w = elim w [ ]
