-- The fit theorem, for every size M and every number N of entries that M allows: whichever candidates are the balance entries, the
-- candidates fit, no leaf has more entries than slots, and for M > 64 no leaf is empty.
use Rattle.std.specs.Prelude.{◌≡◌}
use Rattle.std.proofs.Common.{subst, ⊎_elim, pow_pos, lt_of_lt_of_le, not-le_of_lt, mul-le-mul_left, mul-le-mul_right, mul-pos, zero-lt-suc}
use Prim.Native.Nat.{ℕ, zero, suc, ◌+◌, ◌-◌, ◌*◌, ◌^◌, ◌≤◌, ◌<◌}
use Rattle.std.proofs.Math.Nat.{pow-succ'}
use native.Mathlib.Omega.{arith}
use Rattle.base.specs.CaseLaws.{le_or_gt}
use Rattle.tree_sizes.specs.Sizes.{ceil_div, Allowed, digits, height, leaf_slots, candidates, window_start, IsCandidate, Fits}
use Rattle.tree_sizes.proofs.SizeLaws.{candidates_are, candidates_pos, depth_room, digits_seven, height_below, height_is, height_small, leaf_slots_small, leaf_slots_large}

-- ---- Halves

-- m, the number of entries of a half of n entries, differs from n / 2 by no more than half of c + 1.
record Near (n c m : ℕ) : Type 0 where
  upper : 2 * m ≤ n + c + 1
  lower : n ≤ 2 * m + c + 1

left_near : (n c b : ℕ) → c ≤ n → IsCandidate n c b → Near n c b
unfolding window_start ceil_div
left_near n c b h w = record { upper = omega (arith, w.below); lower = omega (arith, w.from) }

right_near : (n c b : ℕ) → c ≤ n → IsCandidate n c b → Near n c (n - b)
unfolding window_start ceil_div
right_near n c b h w = record { upper = omega (arith, w.from); lower = omega (arith, w.below) }

-- ---- Bounds of the entries of a range

-- Bounds of n, the number of entries of a range at depth d, where N entries have the size M, which has g digits. P is 2 ^ d. Divided by
-- 4 * g * P they are N / P - e ≤ n ≤ M / P + e with e = d * M / (4 * g * P) + 2 - 2 / P. A half of a range meets the bounds at d + 1,
-- since c * 4 * g * P < M + 4 * g * P.
record EntryBounds (g M N d P n : ℕ) : Type 0 where
  upper : 4 * g * P * n + 8 * g ≤ (4 * g + d) * M + 8 * g * P
  lower : 4 * g * N + 8 * g ≤ 4 * g * P * n + d * M + 8 * g * P

bounds_root : (g M N : ℕ) → N ≤ M → EntryBounds g M N 0 1 N
bounds_root g M N h = record { upper = omega (arith, mul-le-mul_left g h); lower = omega arith }

bounds_half : (g M N d P n c m : ℕ) → 4 * g * P * c < M + 4 * g * P → Near n c m → EntryBounds g M N d P n
    → EntryBounds g M N (suc d) (2 * P) m
bounds_half g M N d P n c m few near b = record {
  upper = omega (arith, b.upper, mul-le-mul_left (g * P) near.upper);
  lower = omega (arith, b.lower, mul-le-mul_left (g * P) near.lower);
}

module _ (g M N d P n : ℕ) (seven : 7 ≤ g) (deep : d + 2 ≤ g) (b : EntryBounds g M N d P n) where
  bounds_least : (c : ℕ) → M < 2 * N → g * P ≤ M → 4 * g * P * c < M + 4 * g * P → c ≤ n
  bounds_least c half room few =
      ⊎_elim
      (λ h. h)
      (λ (h : n < c).
      omega (arith, b.lower, mul-le-mul_left (g * P) h, mul-le-mul_left g half, mul-le-mul_right M deep, mul-le-mul_right M seven))
      (le_or_gt c n)

  bounds_most : 0 < P → M < g * (2 * P) → n ≤ 3 * g
  bounds_most pos room =
      ⊎_elim
      (λ h. h)
      (λ (h : 3 * g < n).
      omega (
        arith,
        b.upper,
        mul-le-mul_left (g * P) h,
        mul-le-mul_left g room,
        mul-le-mul_right M deep,
        mul-le-mul_right (g * P) seven,
        mul-pos (lt_of_lt_of_le (zero-lt-suc 6) seven) pos,
      ))
      (le_or_gt n (3 * g))

-- ---- The theorem

module _ (N M : ℕ) (large : 64 < M) (half : M < 2 * N) where
  abbrev InBounds : ℕ → ℕ → Type 0
  InBounds d n = EntryBounds (digits M) M N d (2 ^ d) n

  range_least : (d n c : ℕ) → d ≤ height M → InBounds d n → 4 * digits M * 2 ^ d * c < M + 4 * digits M * 2 ^ d → c ≤ n
  range_least d n c h b few =
      bounds_least (digits M) M N d (2 ^ d) n (digits_seven M large) (omega (arith, height_below M large)) b c half
      (depth_room M d large h) few

  leaf_most : (n : ℕ) → InBounds (height M) n → n ≤ leaf_slots M
  leaf_most n b =
      rw (leaf_slots_large M large)
      (bounds_most (digits M) M N (height M) (2 ^ height M) n (digits_seven M large) (omega (arith, height_below M large)) b
      (pow_pos (height M)) (rw (pow-succ' 2 (height M)) at (height_is M large).high))

  range_half : (d n m : ℕ) → Near n (candidates M d) m → InBounds d n → InBounds (suc d) m
  range_half d n m near b =
      rw (pow-succ' 2 d) (bounds_half (digits M) M N d (2 ^ d) n (candidates M d) m (candidates_are M d).below near b)

  range_fits : (levels d n : ℕ) → levels + d ≡ height M → InBounds d n → Fits M levels d n
  unfolding Fits
  range_fits zero d n e b =
      (leaf_most n (subst (λ (x : ℕ). InBounds x n) (leaf_depth e) b), λ h. range_least d n 1 (omega arith) b (omega arith))
    where
      leaf_depth : 0 + d ≡ height M → d ≡ height M
      leaf_depth e = omega arith
  range_fits (suc levels) d n e b =
      let c : candidates M d ≤ n = range_least d n (candidates M d) (omega arith) b (candidates_are M d).below in (
        candidates_pos M d (omega arith),
        c,
        λ k w. (
          range_fits levels (suc d) k (omega arith) (range_half d n k (left_near n (candidates M d) k c w) b),
          range_fits levels (suc d) (n - k) (omega arith) (range_half d n (n - k) (right_near n (candidates M d) k c w) b),
        ),
      )

small_fits : (N M : ℕ) → N ≤ M → M ≤ 64 → Fits M 0 0 N
unfolding Fits
small_fits N M h small = (rw (leaf_slots_small M small) h, λ large. absurd (not-le_of_lt large small))

pub fit : (N M : ℕ) → Allowed N M → Fits M (height M) 0 N
fit N M a =
    ⊎_elim
    (λ (small : M ≤ 64). rw (height_small M small) (small_fits N M a.least small))
    (λ (large : 64 < M).
    range_fits N M large (omega (arith, a.most)) (height M) 0 N (omega arith) (bounds_root (digits M) M N a.least))
    (le_or_gt M 64)

-- ---- What a range that fits has

module _ (M levels d n : ℕ) (fits : Fits M (suc levels) d n) where
  pub fits_pos : 0 < candidates M d
  unfolding Fits
  fits_pos = fits.0

  pub fits_count : candidates M d ≤ n
  unfolding Fits
  fits_count = fits.1

  pub fits_halves : (b : ℕ) → IsCandidate n (candidates M d) b → Fits M levels (suc d) b × Fits M levels (suc d) (n - b)
  unfolding Fits
  fits_halves = fits.2

pub fits_leaf : (M d n : ℕ) → Fits M 0 d n → n ≤ leaf_slots M
unfolding Fits
fits_leaf M d n fits = fits.0

-- For M > 64 no range is empty.
pub fits_entry : (M levels d n : ℕ) → Fits M levels d n → 64 < M → 0 < n
unfolding Fits
fits_entry M zero d n fits large = fits.1 large
fits_entry M (suc levels) d n fits large = lt_of_lt_of_le fits.0 fits.1
