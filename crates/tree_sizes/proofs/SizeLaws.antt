-- Laws of the size rules, for every size M: digits and height as powers of two define them, rounding up, and windows.
use Rattle.std.specs.Prelude.{◌≡◌, ◌⊎◌, ℕ, zero, suc, ◌+◌, ◌-◌, ◌*◌, ◌/◌, ◌%◌, ◌^◌, ◌≤◌, ◌<◌, min}
use Rattle.std.proofs.Common.{sym, inl, inr, ⊎_elim, pow_pos, pow_mono, le_trans, lt_of_not-le, mod-lt, mul-le-mul, mul-le-mul_left, mul-le-mul_right, mul_assoc, mul-pos, pow-suc, zero-lt-suc, mul-suc, arith, le-leb}
use Rattle.std.specs.Int.{div_ceil}
use Rattle.std.specs.Int.Count.{count_leading_zeros}
use Rattle.std.proofs.lemmas.Nat.{leading_top}
use Rattle.std.proofs.Math.Nat.{div-add-mod, pow-succ'}
use Rattle.std.proofs.lemmas.Bool.{lt-leb}
use Rattle.base.specs.CaseLaws.{if_le_yes, if_le_no, eq_or_ne, le_or_gt, lt_or_ge}
use Rattle.tree_sizes.specs.Sizes.{doublings, ceil_div, digits, height, leaf_slots, slots, candidates, half_candidates, window_start, IsCandidate}

-- ---- Powers of two

pub below_power : (n : ℕ) → n < 2 ^ n
below_power zero = omega arith
below_power (suc n) = rw (pow-succ' 2 n) (omega (arith, below_power n))

pub power_order : (x m i j : ℕ) → x * 2 ^ i ≤ m → m < x * 2 ^ j → i < j
power_order x m i j low high =
    lt_of_not-le (λ (h : j ≤ i). omega (arith, mul-le-mul_left x (pow_mono h)))

-- ---- The largest number of doublings

-- h is the largest number with g * 2 ^ h ≤ M.
pub record Height (M g h : ℕ) : Type 0 where
  pub low : g * 2 ^ h ≤ M
  pub high : M < g * 2 ^ suc h

pub height_largest : (M g h : ℕ) → Height M g h → (k : ℕ) → g * 2 ^ k ≤ M → k ≤ h
height_largest M g h w k l = omega (arith, power_order g M k (suc h) l w.high)

pub height_only : (M g h k : ℕ) → Height M g h → Height M g k → h ≡ k
height_only M g h k a b = omega (arith, height_largest M g h a k b.low, height_largest M g k b h a.low)

-- `doublings` is the largest, where the fuel is enough.
pub doublings_largest : (fuel x m : ℕ) → x ≤ m → m < x * 2 ^ suc fuel → Height m x (doublings fuel x m)
unfolding doublings
doublings_largest zero x m low high = record { low = omega arith; high = high }
doublings_largest (suc fuel) x m low high =
    ⊎_elim
    (λ (h : 2 * x ≤ m). rw (le-leb (2 * x) m h, doublings)
    (next (doublings fuel (2 * x) m)
    (doublings_largest fuel (2 * x) m h (omega (arith, rw (pow-succ' 2 (suc fuel)) at high)))))
    (λ (h : m < 2 * x). rw (lt-leb (2 * x) m h, doublings) record { low = omega arith; high = omega arith })
    (le_or_gt (2 * x) m)
  where
    next : (k : ℕ) → Height m (2 * x) k → Height m x (suc k)
    next k w = record {
      low = rw (pow-succ' 2 k) (omega (arith, w.low));
      high = rw (pow-succ' 2 (suc k)) (omega (arith, w.high));
    }

-- ---- Digits

-- g is the number of binary digits of M - 1, which is not 0: the least number with M ≤ 2 ^ g.
pub record Digits (M g : ℕ) : Type 0 where
  pub low : 2 ^ (g - 1) ≤ M - 1
  pub high : M - 1 < 2 ^ g

pub digits_least : (M g : ℕ) → Digits M g → (k : ℕ) → M ≤ 2 ^ k → g ≤ k
digits_least M g w k h =
    omega (arith, power_order 1 (M - 1) (g - 1) k (omega (arith, w.low)) (omega (arith, w.low, pow_pos (g - 1))))

pub digits_are : (M : ℕ) → 1 < M → Digits M (digits M)
unfolding digits
digits_are M h =
    of (doublings M 1 (M - 1)) (doublings_largest M 1 (M - 1) (omega arith) (omega (arith, below_power M, pow-succ' 2 M)))
  where
    of : (k : ℕ) → Height (M - 1) 1 k → Digits M (suc k)
    of k w = let e : suc k - 1 ≡ k = omega arith in record { low = rw e (omega (arith, w.low)); high = omega (arith, w.high) }

pub digits_top : (M : ℕ) → M ≤ 2 ^ digits M
digits_top M =
    ⊎_elim (λ (h : 1 < M). omega (arith, (digits_are M h).high)) (λ (h : M ≤ 1). omega (arith, pow_pos (digits M))) (lt_or_ge 1 M)

pub digits_unique : (M g : ℕ) → Digits M g → g ≡ digits M
digits_unique M g w =
    let h : 1 < M = omega (arith, w.low, pow_pos (g - 1)) in
    let most : M ≤ 2 ^ g = omega (arith, w.high) in
    omega (arith, digits_least M g w (digits M) (digits_top M), digits_least M (digits M) (digits_are M h) g most)

pub digits_pos : (M : ℕ) → 0 < digits M
unfolding digits
digits_pos M = omega arith

pub digits_most : (M k : ℕ) → 0 < k → M ≤ 2 ^ k → digits M ≤ k
unfolding digits doublings
digits_most zero k pos h = pos
digits_most (suc zero) k pos h = pos
digits_most (suc (suc n)) k pos h = digits_least (suc (suc n)) (digits (suc (suc n))) (digits_are (suc (suc n)) (omega arith)) k h

pub digits_seven : (M : ℕ) → 64 < M → 7 ≤ digits M
digits_seven M h = lt_of_not-le (λ (k : digits M ≤ 6). omega (arith, digits_top M, pow_mono k))

pub digits_le : (M : ℕ) → 1 < M → digits M ≤ M
digits_le M h = omega (arith, (digits_are M h).low, below_power (digits M - 1))

-- A count of leading zeros, over the width w, gives the digits.
pub digits_leading : (w M : ℕ) → 1 < M → M ≤ 2 ^ w → w - count_leading_zeros w (M - 1) ≡ digits M
digits_leading w M h l =
    let t = leading_top w (M - 1) (omega arith) (omega arith) in
    let e : suc t.0 - 1 ≡ t.0 = omega arith in
    omega (arith, t.1, digits_unique M (suc t.0) record { low = rw e t.2; high = t.3 })

-- ---- Height, and the slots of a leaf

pub height_small : (M : ℕ) → M ≤ 64 → height M ≡ 0
unfolding height
height_small M h = if_le_yes M 64 0 _ h

pub height_is : (M : ℕ) → 64 < M → Height M (digits M) (height M)
unfolding height
height_is M h =
    rw if_le_no
    (doublings_largest M (digits M) M (digits_le M (omega arith))
    (omega (arith, below_power M, pow-succ' 2 M, mul-le-mul_right (2 ^ suc M) (digits_pos M))))

pub height_unique : (M k : ℕ) → 64 < M → Height M (digits M) k → k ≡ height M
height_unique M k h w = height_only M (digits M) k (height M) w (height_is M h)

pub leaf_slots_small : (M : ℕ) → M ≤ 64 → leaf_slots M ≡ M
unfolding leaf_slots
leaf_slots_small M h = if_le_yes M 64 M _ h

pub leaf_slots_large : (M : ℕ) → 64 < M → leaf_slots M ≡ 3 * digits M
unfolding leaf_slots
leaf_slots_large M h = if_le_no M 64 M _ h

pub height_below : (M : ℕ) → 64 < M → suc (height M) < digits M
height_below M h =
    lt_of_not-le (λ (k : digits M ≤ suc (height M)).
    omega (
      arith,
      pow-succ' 2 (height M),
      pow_mono k,
      pow_pos (height M),
      digits_top M,
      (height_is M h).low,
      mul-le-mul_right (2 ^ height M) (digits_seven M h),
    ))

pub height_most : (M k : ℕ) → 0 < k → M ≤ 2 ^ k → height M ≤ k
height_most M k pos l =
    ⊎_elim
    (λ (small : M ≤ 64). omega (arith, height_small M small))
    (λ (large : 64 < M). omega (arith, height_below M large, digits_most M k pos l))
    (le_or_gt M 64)

pub depth_room : (M d : ℕ) → 64 < M → d ≤ height M → digits M * 2 ^ d ≤ M
depth_room M d large h = le_trans (mul-le-mul_left (digits M) (pow_mono h)) (height_is M large).low

pub leaf_slots_most : (M : ℕ) → M < 2 ^ 32 → leaf_slots M < 2 ^ 32
leaf_slots_most M h =
    ⊎_elim
    (λ (small : M ≤ 64). rw (leaf_slots_small M small) (omega arith))
    (λ (large : 64 < M). rw (leaf_slots_large M large) (omega (arith, digits_most M 32 (omega arith) (omega arith))))
    (le_or_gt M 64)

pub slots_le : (M : ℕ) → slots M ≤ 3 * M
unfolding slots
slots_le M =
    ⊎_elim
    (λ (small : M ≤ 64). rw (leaf_slots_small M small, height_small M small) (omega arith))
    (λ (large : 64 < M). rw (leaf_slots_large M large) (omega (arith, (height_is M large).low)))
    (le_or_gt M 64)

-- ---- Rounding up

-- q is ⌈a / b⌉, the least number with a ≤ b * q.
pub record Ceiling (a b q : ℕ) : Type 0 where
  pub enough : a ≤ b * q
  pub below : b * q < a + b

pub ceiling_least : (a b q : ℕ) → Ceiling a b q → (k : ℕ) → a ≤ b * k → q ≤ k
ceiling_least a b q w k h =
    ⊎_elim (λ l. l) (λ (l : k < q). omega (arith, w.below, mul-le-mul_left b l)) (le_or_gt q k)

pub ceiling_pos : (a b q : ℕ) → Ceiling a b q → 0 < a → 0 < q
ceiling_pos a b q w h = lt_of_not-le (λ (l : q ≤ 0). omega (arith, w.enough, mul-le-mul_left b l))

pub ceil_div_is : (a b : ℕ) → 0 < b → Ceiling a b (ceil_div a b)
unfolding ceil_div
ceil_div_is a b h = record {
  enough = omega (arith, div-add-mod (a + (b - 1)) b, mod-lt (a + (b - 1)) h);
  below = omega (arith, div-add-mod (a + (b - 1)) b);
}

-- The quotient that the library rounds up is this one.
pub div_ceil_is : (a b : ℕ) → 0 < b → div_ceil a b ≡ ceil_div a b
div_ceil_is a b h =
    let same = ceil_div_is a b h in
    let mine = above (a % b) (div-add-mod a b) (mod-lt a h) in
    omega (arith, ceiling_least a b (div_ceil a b) mine (ceil_div a b) same.enough, ceiling_least a b (ceil_div a b) same (div_ceil a b) mine.enough)
  where
    above : (r : ℕ) → b * (a / b) + r ≡ a → r < b → Ceiling a b (a / b + min 1 r)
    above zero e l = let none : a / b + min 1 0 ≡ a / b = omega arith in rw none (record { enough = omega arith; below = omega arith })
    above (suc r) e l =
        let more : a / b + min 1 (suc r) ≡ suc (a / b) = omega arith in
        rw more (record { enough = rw mul-suc (omega arith); below = rw mul-suc (omega arith) })

pub ceil_div_half : (n : ℕ) → n - n / 2 ≡ ceil_div n 2
unfolding ceil_div
ceil_div_half n = omega arith

-- ---- Candidates and windows

pub step_pos : (M d : ℕ) → 0 < 4 * digits M * 2 ^ d
step_pos M d = mul-pos (mul-pos (zero-lt-suc 3) (digits_pos M)) (pow_pos d)

pub step_most : (M d i j : ℕ) → 0 < i → M ≤ 2 ^ i → d ≤ j → 4 * digits M * 2 ^ d ≤ 4 * i * 2 ^ j
step_most M d i j pos size depth = mul-le-mul (mul-le-mul_left 4 (digits_most M i pos size)) (pow_mono depth)

pub candidates_are : (M d : ℕ) → Ceiling M (4 * digits M * 2 ^ d) (candidates M d)
unfolding candidates
candidates_are M d = ceil_div_is M (4 * digits M * 2 ^ d) (step_pos M d)

pub candidates_pos : (M d : ℕ) → 0 < M → 0 < candidates M d
candidates_pos M d h = ceiling_pos M (4 * digits M * 2 ^ d) (candidates M d) (candidates_are M d) h

pub candidates_half : (M d : ℕ) → candidates M (suc d) ≡ half_candidates (candidates M d)
unfolding half_candidates ceil_div
candidates_half M d =
    let c = candidates M d in
    let c' = candidates M (suc d) in
    let S = 4 * digits M * 2 ^ d in
    let twice : 4 * digits M * 2 ^ suc d ≡ S * 2 = rw (pow-suc 2 d) (sym (mul_assoc (4 * digits M) (2 ^ d) 2)) in
    let here : Ceiling M S c = candidates_are M d in
    let below : Ceiling M (S * 2) c' = rw twice at (candidates_are M (suc d)) in
    let doubled : c ≤ 2 * half_candidates c = omega arith in
    let most : c' ≤ half_candidates c
    = ceiling_least M (S * 2) c' below (half_candidates c) (omega (arith, here.enough, mul-le-mul_left S doubled)) in
    let least : c ≤ 2 * c' = ceiling_least M S c here (2 * c') (omega (arith, below.enough)) in
    omega (arith, most, least)

pub window_fits : (n c : ℕ) → c ≤ n → window_start n c + c ≤ n
unfolding window_start ceil_div
window_fits n c h = omega arith

pub window_next : (n c : ℕ) → c ≤ n
    → (window_start (suc n) c ≡ window_start n c) ⊎ (window_start (suc n) c ≡ suc (window_start n c))
unfolding window_start ceil_div
window_next n c h =
    ⊎_elim (λ e. inl e) (λ d. inr (omega arith)) (eq_or_ne (window_start (suc n) c) (window_start n c))

-- The candidate that face f of a draw among c gives.
pub candidate_face : (n c f : ℕ) → f < c → IsCandidate n c (window_start n c + f)
candidate_face n c f h = record { from = omega arith; below = omega arith }

pub candidate_below : (n c b : ℕ) → c ≤ n → IsCandidate n c b → b < n
candidate_below n c b h w = omega (arith, w.below, window_fits n c h)
