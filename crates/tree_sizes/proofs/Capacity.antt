-- Capacities: no size of g digits has more slots or counts than the size 2 ^ g, so the greatest number at a power of two up to a bound
-- is enough for every size up to it.
use Rattle.std.specs.Prelude.{◌≡◌}
use Rattle.std.proofs.Common.{sym, pow_pos, pow_mono, eq-or-lt_of_le, le_of_suc-le-suc, mul-le-mul_left, not-suc-le-zero, le_refl}
use Rattle.std.proofs.Math.Logic.{⊎_elim}
use Prim.Native.Nat.{ℕ, zero, suc, max, zero-le, ◌*◌, ◌^◌, ◌-◌, ◌≤◌, ◌<◌}
use Rattle.std.proofs.Math.Nat.{le_trans, pow-succ', le-max_left, le-max_right}
use native.Mathlib.Omega.{arith}
use Rattle.base.specs.CaseLaws.{le_or_gt}
use Rattle.tree_sizes.specs.Sizes.{digits, height, slots}
use Rattle.tree_sizes.proofs.SizeLaws.{digits_unique, digits_pos, digits_top, digits_most, height_is, height_largest, height_small, leaf_slots_small, leaf_slots_large}

-- ---- A size of g digits, and 2 ^ g

pub digits_power : (g : ℕ) → 0 < g → digits (2 ^ g) ≡ g
digits_power zero pos = absurd (not-suc-le-zero pos)
digits_power (suc k) pos =
    let e : suc k - 1 ≡ k = omega arith in
    sym
    (digits_unique (2 ^ suc k) (suc k)
    record { low = rw e (omega (arith, pow-succ' 2 k, pow_pos k)); high = omega (arith, pow_pos (suc k)) })

pub height_power : (M : ℕ) → height M ≤ height (2 ^ digits M)
height_power M =
    ⊎_elim
    (λ (small : M ≤ 64). rw (height_small M small) zero-le)
    (λ (large : 64 < M).
    height_largest (2 ^ digits M) (digits M) (height (2 ^ digits M))
    (rw (digits_power (digits M) (digits_pos M)) at (height_is (2 ^ digits M) (omega (arith, digits_top M)))) (height M)
    (omega (arith, (height_is M large).low, digits_top M)))
    (le_or_gt M 64)

pub slots_power : (M : ℕ) → slots M ≤ slots (2 ^ digits M)
unfolding slots
slots_power M =
    ⊎_elim
    (λ (small : M ≤ 64).
    let few : 2 ^ digits M ≤ 64 = pow_mono {j = 6} (digits_most M 6 (omega arith) small) in
    rw (leaf_slots_small M small, height_small M small, leaf_slots_small (2 ^ digits M) few, height_small (2 ^ digits M) few)
    (omega (arith, digits_top M)))
    (λ (large : 64 < M).
    rw (leaf_slots_large M large, leaf_slots_large (2 ^ digits M) (omega (arith, digits_top M)), digits_power (digits M) (digits_pos M))
    (mul-le-mul_left (3 * digits M) (pow_mono (height_power M))))
    (le_or_gt M 64)

-- ---- The greatest value at the powers of two

-- The greatest of f (2 ^ 0) to f (2 ^ k).
unfoldable pub greatest : (ℕ → ℕ) → ℕ → ℕ
greatest f zero = f (2 ^ 0)
greatest f (suc k) = max (f (2 ^ suc k)) (greatest f k)

module _ (f : ℕ → ℕ) where
  greatest_at : (k g : ℕ) → g ≤ k → f (2 ^ g) ≤ greatest f k
  unfolding greatest
  greatest_at zero g h = rw (zero_is g h) (le_refl (f (2 ^ 0)))
    where
      zero_is : (g : ℕ) → g ≤ 0 → g ≡ 0
      zero_is g h = omega arith
  greatest_at (suc k) g h =
      ⊎_elim
      (λ (e : g ≡ suc k). rw e (le-max_left (f (2 ^ suc k)) (greatest f k)))
      (λ (l : g < suc k). le_trans (greatest_at k g (le_of_suc-le-suc l)) (le-max_right (f (2 ^ suc k)) (greatest f k)))
      (eq-or-lt_of_le h)

  greatest_most : ((M : ℕ) → f M ≤ f (2 ^ digits M)) → (k M : ℕ) → 0 < k → M ≤ 2 ^ k → f M ≤ greatest f k
  greatest_most power k M pos h = le_trans (power M) (greatest_at k (digits M) (digits_most M k pos h))

pub slots_most : (k M : ℕ) → 0 < k → M ≤ 2 ^ k → slots M ≤ greatest slots k
slots_most = greatest_most slots slots_power

-- The counts in use are 2 * 2 ^ height M: the size and the ranges, whose numbers start at 1.
pub counts_most : (k M : ℕ) → 0 < k → M ≤ 2 ^ k → 2 * 2 ^ height M ≤ greatest (λ m. 2 * 2 ^ height m) k
counts_most = greatest_most (λ m. 2 * 2 ^ height m) (λ M. mul-le-mul_left 2 (pow_mono (height_power M)))
