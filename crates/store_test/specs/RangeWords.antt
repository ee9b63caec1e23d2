-- The test of a range in 32-bit numbers, which wrap around, comes to that in numbers that do not.
use Rattle.std.specs.Prelude.{◌≡◌, ℕ, ◌+◌, ◌-◌, ◌/◌, ◌%◌, ◌^◌, ◌<◌, ◌≤◌, ◌&&◌, ◌==◌, nat_le, nat_lt}
use Rattle.std.proofs.Common.{ap, ◌∙◌, arith, eq-eqb, eqb-true, le-leb, leb-true, lt-ltb, ltb-true}
use Rattle.base.specs.BoolLaws.{and_both, tests_agree}

-- A sum of two numbers that is not less than one of them did not wrap around, and the other one is the difference.
sum_whole : (a b n : ℕ) → a < 2 ^ 32 → b < 2 ^ 32 → (a + b) % 2 ^ 32 ≡ n → b ≤ n → a + b ≡ n
sum_whole a b n a-fits b-fits e h = omega arith

sum_only : (a b n x : ℕ) → a < 2 ^ 32 → n < 2 ^ 32 → (a + b) % 2 ^ 32 ≡ n → x + b ≡ n → x ≡ a
sum_only a b n x a-fits n_fits e h = omega arith

-- Nor did the place p behind the middle m, where it is small, or where the numbers are near each other.
place_whole : (p m x : ℕ) → p < 2 ^ 31 → m ≤ 2 ^ 31 → x < m + 2 ^ 32 → (p + m) % 2 ^ 32 ≡ x % 2 ^ 32 → p + m ≡ x
place_whole p m x p-fits m-fits x_Fits e = omega arith

place_only : (p m x : ℕ) → p < 2 ^ 32 → m ≤ 2 ^ 31 → m ≤ x → x < m + 2 ^ 31 → (p + m) % 2 ^ 32 ≡ x % 2 ^ 32 → p + m ≡ x
place_only p m x p-fits m-fits from below e = omega arith

middle_most : (n : ℕ) → n < 2 ^ 32 → n - n / 2 ≤ 2 ^ 31
middle_most n h = omega arith

place_small : (p c : ℕ) → p < c → c < 2 ^ 31 → p < 2 ^ 31
place_small p c h small = omega arith

half_small : (half c : ℕ) → half ≤ c → c < 2 ^ 31 → half < 2 ^ 31
half_small half c h small = omega arith

near_most : (x m c : ℕ) → c < 2 ^ 31 → x < m + c → x < m + 2 ^ 31
near_most x m c small h = omega arith

sum_most : (b n half right : ℕ) → b + right ≡ n → n < 2 ^ 32 → half < 2 ^ 31 → b + half < n - n / 2 + 2 ^ 32
sum_most b n half right sum n_fits h = omega arith

-- `left` is n less the right half, `behind` is b and half of the candidates, and `place` is what this is past the middle, all modulo 2 ^ 32.
pub words_agree : {n b right half c left behind place : ℕ} → half ≤ c → c < 2 ^ 31
    → n < 2 ^ 32 → b < 2 ^ 32 → right < 2 ^ 32 → left < 2 ^ 32 → place < 2 ^ 32
    → (left + right) % 2 ^ 32 ≡ n → behind ≡ (b + half) % 2 ^ 32 → (place + (n - n / 2)) % 2 ^ 32 ≡ behind
    → (nat_le right n && b == left && nat_lt place c) ≡ (b + right == n && nat_le (n - n / 2) (b + half) && nat_lt (b + half) (n - n / 2 + c))
words_agree {n} {b} {right} {half} {c} {left} {behind} {place} few small n_fits b-fits right-fits left-fits place_fits left_is behind-is place_is =
    tests_agree (nat_le right n && b == left && nat_lt place c) (b + right == n && nat_le (n - n / 2) (b + half) && nat_lt (b + half) (n - n / 2 + c))
    (λ h.
    let two = and_both (nat_le right n && b == left) (nat_lt place c) h in
    let one = and_both (nat_le right n) (b == left) two.0 in
    let within : right ≤ n = leb-true right n one.0 in
    let same : b ≡ left = eqb-true b left one.1 in
    let near : place < c = ltb-true place c two.1 in
    let sum : b + right ≡ n = ap (λ (x : ℕ). x + right) same ∙ sum_whole left right n left-fits right-fits left_is within in
    let at : place + (n - n / 2) ≡ b + half
    = place_whole place (n - n / 2) (b + half) (place_small place c near small) (middle_most n n_fits) (sum_most b n half right sum n_fits (half_small half c few small)) (place_is ∙ behind-is) in
    rw (eq-eqb (b + right) n sum, le-leb (n - n / 2) (b + half) (omega arith), lt-ltb (b + half) (n - n / 2 + c) (omega arith)))
    (λ h.
    let two = and_both (b + right == n && nat_le (n - n / 2) (b + half)) (nat_lt (b + half) (n - n / 2 + c)) h in
    let one = and_both (b + right == n) (nat_le (n - n / 2) (b + half)) two.0 in
    let sum : b + right ≡ n = eqb-true (b + right) n one.0 in
    let from : n - n / 2 ≤ b + half = leb-true (n - n / 2) (b + half) one.1 in
    let below : b + half < n - n / 2 + c = ltb-true (b + half) (n - n / 2 + c) two.1 in
    let same : b ≡ left = sum_only left right n b left-fits n_fits left_is sum in
    let at : place + (n - n / 2) ≡ b + half
    = place_only place (n - n / 2) (b + half) place_fits (middle_most n n_fits) from (near_most (b + half) (n - n / 2) c small below) (place_is ∙ behind-is) in
    rw (le-leb right n (omega arith), eq-eqb b left same, lt-ltb place c (omega arith)))
