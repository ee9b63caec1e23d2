-- The parts of a tree that is ready are ready.
use Rattle.std.specs.Prelude.{◌≡◌, ℕ, ◌+◌, ◌-◌, ◌*◌, ◌/◌, ◌^◌, ◌≤◌, ◌<◌}
use Rattle.std.proofs.Common.{sym, ap, subst, ◌∙◌, mul-le-mul_left, mul-le-mul_right, arith, pow-add, pow_pos, pow_mono}
use Rattle.store_order.proofs.TreeOrderLaws.{halves}
use Rattle.store_order.specs.TreeReady.{TreeReady}

pub ready_is : {levels n at k counts work : ℕ} → levels ≡ n → TreeReady levels at k counts work → TreeReady n at k counts work
ready_is {at} {k} {counts} {work} e r = subst (λ (l : ℕ). TreeReady l at k counts work) e r

-- Its first place and its own range are inside.
module _ {levels at k counts work : ℕ} (r : TreeReady levels at k counts work) where
  two : 2 ≤ 2 ^ levels
  two = pow_mono {i = 1} r.some_level

  pub place_inside : at < counts
  place_inside = omega (arith, r.places, two)

  pub range_inside : k < work
  range_inside = omega (arith, r.ranges, mul-le-mul_left (k + 1) two)

-- The places and the ranges of subtree j of T, each with P ranges.
subtree_places : (T P j at from counts : ℕ) → j < T → from ≡ at + (T - 1) + j * P → at + T * (P + 1) ≤ counts + 1 → from + (P + 1) ≤ counts + 1
subtree_places T P j at from counts l e room = omega (arith, mul-le-mul_right {m = j + 1} {n = T} P (omega arith))

subtree_ranges : (T B j k n work : ℕ) → j < T → n ≡ T * k + j → (k + 1) * (T * B) ≤ 2 * work → (n + 1) * B ≤ 2 * work
subtree_ranges T B j k n work l e room = omega (arith, mul-le-mul_right {m = n + 1} {n = T * (k + 1)} B (omega arith))

-- The place behind one subtree more.
pub next_place : (from base j ranges : ℕ) → from ≡ base + j * ranges → from + ranges ≡ base + (j + 1) * ranges
next_place from base j ranges e = omega (arith, e)

module _ {H at k counts work : ℕ} (r : TreeReady H at k counts work) (g : 1 < H) where
  -- The tree has as many places as its parts.
  whole : 2 ^ (H / 2) * 2 ^ (H - H / 2) ≡ 2 ^ H
  whole = sym (pow-add 2 (H / 2) (H - H / 2)) ∙ ap (λ (l : ℕ). 2 ^ l) (halves H g).both

  pub top_ready : TreeReady (H / 2) at k counts work
  top_ready =
      let parts = halves H g in
      let less = pow_mono {i = H / 2} {j = H} (omega (arith, parts.both)) in
      record {
        some_level = parts.top;
        levels_fit = omega (arith, parts.both, r.levels_fit);
        places = omega (arith, less, r.places);
        ranges = omega (arith, mul-le-mul_left (k + 1) less, r.ranges);
      }

  pub lower_ready : {from n j : ℕ} → j < 2 ^ (H / 2) → from ≡ at + (2 ^ (H / 2) - 1) + j * (2 ^ (H - H / 2) - 1) → n ≡ 2 ^ (H / 2) * k + j
      → TreeReady (H - H / 2) from n counts work
  lower_ready {from} {n} {j} l from_is n_is =
      let parts = halves H g in
      let one : 2 ^ (H - H / 2) ≡ (2 ^ (H - H / 2) - 1) + 1 = omega (arith, pow_pos (H - H / 2)) in
      let room : at + 2 ^ (H / 2) * ((2 ^ (H - H / 2) - 1) + 1) ≤ counts + 1 = rw (← one, whole) r.places in
      record {
        some_level = parts.bottom;
        levels_fit = omega (arith, parts.both, r.levels_fit);
        places = rw one (subtree_places (2 ^ (H / 2)) (2 ^ (H - H / 2) - 1) j at from counts l from_is room);
        ranges = subtree_ranges (2 ^ (H / 2)) (2 ^ (H - H / 2)) j k n work l n_is (rw whole r.ranges);
      }
