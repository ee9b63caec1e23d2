-- Quotients added, and the positions of the entries of a leaf one after the other.
use Rattle.std.specs.Prelude.{◌≡◌, ℕ, ◌+◌, ◌-◌, ◌*◌, ◌/◌, ◌%◌, ◌^◌, ◌≤◌, ◌<◌}
use Rattle.std.proofs.Common.{sym, ◌∙◌, div-le_self, le-div_iff_mul-le, mul-le-mul_right, arith}
use Rattle.std.proofs.Math.Path.{ap}
use Rattle.std.proofs.Math.Logic.{⊎_elim}
use Rattle.std.proofs.Math.Nat.{div-add-mod, div-eq_of_lt-le, div-zero, mod-le, mod-lt, mod-zero, mul-div_cancel_left}
use Rattle.base.specs.CaseLaws.{by_lt, if_lt_yes, if_lt_no, lt_or_ge}
use Rattle.store_layout.specs.declared.Quotient.{Quotient}
use Rattle.store_layout.specs.Leaf.{slot_of}
use Rattle.store_layout.proofs.LeafLaws.{slot_of_positions}
use Rattle.store_layout.specs.Quotient.{divided, added, position_of, Stands}

-- A quotient is known by its parts.
divided_is : (x n w r : ℕ) → r < n → n * w + r ≡ x → record { whole = w; rest = r } ≡ divided x n
unfolding divided
divided_is x n w r less e =
    let whole : x / n ≡ w
    = div-eq_of_lt-le n (omega (arith, e)) (omega (arith, e)) in
    let rest : x % n ≡ r = omega (arith, div-add-mod x n, ap (λ (v : ℕ). n * v) whole, e) in
    rw (whole, rest)

pub added_divided : (x y n : ℕ) → 0 < n → added n (divided x n) (divided y n) ≡ divided (x + y) n
unfolding added divided
added_divided x y n pos =
    by_lt (λ q. q ≡ divided (x + y) n) (x % n + y % n) n _ _
    (λ h. divided_is (x + y) n (x / n + y / n) (x % n + y % n) h (omega (arith, div-add-mod x n, div-add-mod y n)))
    (λ h.
    divided_is (x + y) n (x / n + y / n + 1) (x % n + y % n - n) (omega (arith, mod-lt x pos, mod-lt y pos))
    (omega (arith, div-add-mod x n, div-add-mod y n)))

-- ---- positions

-- The step, by one division.
pub step_is : (s n : ℕ) → record { whole = s / n; rest = 2 * (s % n) } ≡ divided (2 * s) (2 * n)
unfolding divided
step_is s n =
    ⊎_elim
    (λ (some : 0 < n).
    divided_is (2 * s) (2 * n) (s / n) (2 * (s % n)) (omega (arith, mod-lt s some)) (omega (arith, div-add-mod s n)))
    (λ (none : n ≤ 0).
    let e : n ≡ 0 = omega arith in
    rw e (rw (div-zero s, mod-zero s, div-zero (2 * s), mod-zero (2 * s))))
    (lt_or_ge 0 n)

pub odd_most : (q n : ℕ) → q % 2 * n ≤ n
odd_most q n =
    let two : 0 < 2 = omega arith in
    let least : q % 2 ≤ 1 = omega (arith, mod-lt q two) in
    omega (arith, mul-le-mul_right n least)

-- Half the step is the position of the first entry.
pub half_step : (s n : ℕ) (step : Quotient) → step ≡ divided (2 * s) (2 * n) → 0 < n
    → record { whole = step.whole / 2; rest = step.whole % 2 * n + step.rest / 2 } ≡ divided s (2 * n)
half_step s n step e some =
    let q = s / n in
    let whole : step.whole ≡ q = ap (λ (x : Quotient). x.whole) (e ∙ sym (step_is s n)) in
    let rest : step.rest ≡ 2 * (s % n) = ap (λ (x : Quotient). x.rest) (e ∙ sym (step_is s n)) in
    let half : 2 * (s % n) / 2 ≡ s % n = mul-div_cancel_left (s % n) (omega arith) in
    let times : n * q ≡ n * (2 * (q / 2) + q % 2) = ap (λ (x : ℕ). n * x) (sym (div-add-mod q 2)) in
    rw (whole, rest, half)
    (divided_is s (2 * n) (q / 2) (q % 2 * n + s % n) (omega (arith, mod-lt s some, odd_most q n)) (omega (arith, div-add-mod s n, times)))

module _ (s n : ℕ) where
  abbrev none : Quotient
  none = record { whole = s; rest = 0 }

  some_entry : (k : ℕ) → 0 < n → position_of s n k ≡ divided ((2 * k + 1) * s) (2 * n)
  unfolding position_of
  some_entry k some = if_lt_yes 0 n (divided ((2 * k + 1) * s) (2 * n)) none some

  pub first_half : (step : Quotient) → step ≡ divided (2 * s) (2 * n) → 0 < n
      → record { whole = step.whole / 2; rest = step.whole % 2 * n + step.rest / 2 } ≡ position_of s n 0
  first_half step e some = half_step s n step e some ∙ ap (λ (x : ℕ). divided x (2 * n)) (omega arith) ∙ sym (some_entry 0 some)

  -- The position of an entry is its slot.
  pub position_slot : (k : ℕ) → k < n → (position_of s n k).whole ≡ slot_of s n k
  unfolding divided slot_of
  position_slot k more = ap (λ (q : Quotient). q.whole) (some_entry k (omega arith))

  -- Behind all entries, the position is at or past the end.
  pub position_end : s ≤ (position_of s n n).whole
  unfolding position_of divided
  position_end =
      ⊎_elim
      (λ (some : 0 < n). rw (some_entry n some) ((le-div_iff_mul-le {k = 2 * n} {x = s} {y = (2 * n + 1) * s} (omega arith)).1 (omega arith)))
      (λ (none_is : n ≤ 0). rw (if_lt_no 0 n (divided ((2 * n + 1) * s) (2 * n)) none none_is) (omega arith))
      (lt_or_ge 0 n)

  pub position_next : (k : ℕ) → k < n → added (2 * n) (position_of s n k) (divided (2 * s) (2 * n)) ≡ position_of s n (k + 1)
  position_next k more =
      let next : (2 * k + 1) * s + 2 * s ≡ (2 * (k + 1) + 1) * s = omega arith in
      rw (some_entry k (omega arith), some_entry (k + 1) (omega arith))
      (added_divided ((2 * k + 1) * s) (2 * s) (2 * n) (omega arith) ∙ ap (λ (x : ℕ). divided x (2 * n)) next)

  -- The numbers of a position, and of the step from one to the next, are small.
  pub position_small : (k : ℕ) → k < n → n ≤ s → ((position_of s n k).whole < s) × ((position_of s n k).rest < 2 * n)
  unfolding divided slot_of
  position_small k more fit =
      rw (some_entry k (omega arith)) ((slot_of_positions s n fit).inside k more, mod-lt ((2 * k + 1) * s) (omega arith))

  pub step_small : ((divided (2 * s) (2 * n)).whole ≤ 2 * s) × ((divided (2 * s) (2 * n)).rest ≤ 2 * s)
  unfolding divided
  step_small = (div-le_self (2 * s) (2 * n), mod-le (2 * s) (2 * n))

pub step_rest : (s n : ℕ) (step : Quotient) → step ≡ divided (2 * s) (2 * n) → step.rest / 2 ≤ 2 * s
step_rest s n step e = omega (arith, div-le_self step.rest 2, ap (λ (q : Quotient). q.rest) e, (step_small s n).1)

-- ---- a loop over the entries

-- The slot of an entry, which is inside the leaf.
pub stands_slot : {s n k : ℕ} {position : Quotient} → Stands s n k position → k < n → position.whole ≡ slot_of s n k
stands_slot {s} {n} {k} here more = ap (λ (q : Quotient). q.whole) here.is ∙ position_slot s n k more

pub stands_inside : {s n k : ℕ} {position : Quotient} → Stands s n k position → k < n → n ≤ s → position.whole < s
stands_inside {s} {n} {k} here more fit = omega (arith, stands_slot here more, (slot_of_positions s n fit).inside k more)

-- Where no entry is left, no slot is the position.
pub stands_end : {s n k : ℕ} {position : Quotient} → Stands s n k position → k ≤ n → n ≤ k → s ≤ position.whole
stands_end {s} {n} {k} here most all =
    let e : k ≡ n = omega arith in
    rw (here.is, e) (position_end s n)

module _ {s n k : ℕ} {position step : Quotient} (here : Stands s n k position) (by : step ≡ divided (2 * s) (2 * n)) (more : k < n) where
  pub next_room : n ≤ s → s < 2 ^ 32 → (position.whole + step.whole < 2 ^ 62) × (position.rest + step.rest < 2 ^ 62)
  next_room fit small =
      let p = position_small s n k more fit in
      let q = step_small s n in
      rw (here.is, by) (omega (arith, p.0, q.0), omega (arith, p.1, q.1))

  pub next_stands : {later : Quotient} → later ≡ added (2 * n) position step → Stands s n (k + 1) later
  next_stands next = record { is = next ∙ rw (here.is, by) (position_next s n k more) }
