-- The descent to the leaf for a key: its start, one level more, and its end.
use Rattle.std.specs.Prelude.{◌≡◌, refl, List, get_or}
use Rattle.std.proofs.Math.Path.{sym, ap}
use Rattle.std.proofs.Common.{◌∙◌, not-suc-le-zero, pow_pos}
use Prim.Native.Nat.{ℕ, zero, suc, ◌+◌, ◌-◌, ◌*◌, ◌^◌, ◌≤◌, ◌<◌}
use Rattle.std.proofs.Math.Nat.{mul-le-mul_left, pow-succ'}
use native.Mathlib.Omega.{arith}
use Rattle.base.specs.CaseLaws.{if_lt_yes, if_lt_no}
use Rattle.tree_sizes.specs.Sizes.{height, leaf_slots, slots}
use Rattle.tree_sizes.proofs.SizeLaws.{slots_le}
use Rattle.store_keys.specs.Key.{key}
use Rattle.store_search.specs.declared.Start.{Start}
use Rattle.store_search.specs.LeafFor.{LeafBehind, leaf_for, start_for}
use Rattle.store_search.specs.LeafForLaws.{leaf_for_below}
use Rattle.store_search.specs.Descent.{Descent}

pub descent_root : {h : ℕ} {counts balance : List ℕ} {x : ℕ} → Descent h counts balance x h 1 0
descent_root = record { inside = omega arith; small = omega arith; same = refl }

-- ---- one level more

module _ {h : ℕ} {counts balance : List ℕ} {x k before : ℕ} where
  -- The halves have numbers of ranges of the tree.
  pub descent_halves : (levels : ℕ) → Descent h counts balance x levels k before → 0 < levels → 2 * k + 1 < 2 * 2 ^ h
  descent_halves zero w pos = absurd (not-suc-le-zero pos)
  descent_halves (suc levels) w pos =
      let inside : (k + 1) * (2 * 2 ^ levels) ≤ 2 * 2 ^ h = rw (pow-succ' 2 levels) at w.inside in
      omega (arith, mul-le-mul_left (k + 1) (pow_pos levels))

  pub descent_left : (levels : ℕ) → Descent h counts balance x levels k before → 0 < levels → x < key (get_or balance k 0)
      → Descent h counts balance x (levels - 1) (2 * k) before
  unfolding leaf_for
  descent_left zero w pos less = absurd (not-suc-le-zero pos)
  descent_left (suc levels) w pos less =
      let e : suc levels - 1 ≡ levels = omega arith in
      let inside : (k + 1) * (2 * 2 ^ levels) ≤ 2 * 2 ^ h = rw (pow-succ' 2 levels) at w.inside in
      rw e
      record {
        inside = omega arith;
        small = omega (arith, w.small);
        same = sym (if_lt_yes x (key (get_or balance k 0)) _ _ less) ∙ w.same;
      }

  -- The left half has n entries.
  pub descent_right : (levels : ℕ) → Descent h counts balance x levels k before → 0 < levels → key (get_or balance k 0) ≤ x
      → {n : ℕ} → n ≡ get_or counts (2 * k) 0 → n < 2 ^ 32 → Descent h counts balance x (levels - 1) (2 * k + 1) (before + n)
  unfolding leaf_for
  descent_right zero w pos least number most = absurd (not-suc-le-zero pos)
  descent_right (suc levels) w pos least number most =
      let e : suc levels - 1 ≡ levels = omega arith in
      let inside : (k + 1) * (2 * 2 ^ levels) ≤ 2 * 2 ^ h = rw (pow-succ' 2 levels) at w.inside in
      rw e
      record {
        inside = omega arith;
        small = omega (arith, w.small);
        same = rw number (sym (if_lt_no x (key (get_or balance k 0)) _ _ least) ∙ w.same);
      }

-- ---- the leaf

module _ (M : ℕ) {counts balance : List ℕ} {x k before : ℕ} (w : Descent (height M) counts balance x 0 k before) where
  pub descent_leaf : 2 ^ height M ≤ k
  unfolding leaf_for
  descent_leaf = omega (arith, ap (λ (p : LeafBehind). p.leaf) w.same, (leaf_for_below (height M) counts balance x 1 0).from)

  -- No slot of the sheet has a number that is too large for the code.
  pub descent_small : M < 2 ^ 32 → leaf_slots M * (k - 2 ^ height M) < 2 ^ 64
  unfolding slots
  descent_small most =
      let inside : k - 2 ^ height M ≤ 2 ^ height M = omega (arith, w.inside) in
      omega (arith, mul-le-mul_left (leaf_slots M) inside, slots_le M)

  pub descent_start : ◌≡◌ {A = Start} (record { slot = leaf_slots M * (k - 2 ^ height M); before = before }) (start_for M counts balance x)
  unfolding leaf_for start_for
  descent_start = ap {B = Start} (λ (p : LeafBehind). record { slot = leaf_slots M * (p.leaf - 2 ^ height M); before = p.before }) w.same
