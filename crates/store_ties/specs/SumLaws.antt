-- Sums of places.
use Rattle.std.specs.Prelude.{◌≡◌, ℕ, zero, suc, ◌+◌, ◌-◌, ◌*◌, ◌/◌, ◌≤◌}
use Rattle.std.proofs.Common.{◌∙◌, ap, add-zero, zero-add, suc-add, arith}
use Rattle.std.proofs.Math.Nat.{div-eq_of_eq-mul_right}
use Rattle.store_ties.specs.Groups.{places_sum}

-- Places of two runs, one behind the other.
pub sum_append : (p s t : ℕ) → places_sum p (s + t) ≡ places_sum p s + places_sum (p + s) t
unfolding places_sum
sum_append p zero t = rw (zero-add t, add-zero p) (omega arith)
sum_append p (suc s) t =
    let next : p + suc s ≡ suc p + s = omega arith in
    rw (suc-add s t, next) (omega (arith, sum_append (suc p) s t))

-- The sum is half of the first and the last place together, times their number.
pub sum_twice : (p t : ℕ) → 2 * places_sum p t + t ≡ t * (2 * p + t)
unfolding places_sum
sum_twice p zero = omega arith
sum_twice p (suc t) = omega (arith, sum_twice (suc p) t)

pub sum_half : (first end : ℕ) → first ≤ end → (first + 1 + end) * (end - first) / 2 ≡ places_sum (suc first) (end - first)
sum_half first end order =
    let boats = end - first in
    let last : end ≡ first + boats = omega arith in
    div-eq_of_eq-mul_right (omega arith)
    (ap (λ (e : ℕ). (first + 1 + e) * boats) last ∙ omega (arith, sum_twice (suc first) boats))

-- Places that are at most `most` each.
pub sum_most : (p t most : ℕ) → p + t ≤ suc most → places_sum p t ≤ t * most
unfolding places_sum
sum_most p zero most all = omega arith
sum_most p (suc t) most all = omega (arith, sum_most (suc p) t most (omega arith))
