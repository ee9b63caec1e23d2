-- The descent to a leaf: its start, one level more, and its end.
use Rattle.std.specs.Prelude.{◌≡◌, refl, List, get_or}
use Rattle.std.proofs.Math.Path.{sym, ap}
use Rattle.std.proofs.Common.{◌∙◌, not-suc-le-zero, pow_pos}
use Prim.Native.Nat.{ℕ, zero, suc, ◌+◌, ◌-◌, ◌*◌, ◌^◌, ◌≤◌, ◌<◌}
use Rattle.std.proofs.Math.Nat.{mul-le-mul_left, pow-succ'}
use native.Mathlib.Omega.{arith}
use Rattle.base.specs.CaseLaws.{if_lt_yes, if_lt_no}
use Rattle.tree_sizes.specs.Sizes.{height, leaf_slots, slots}
use Rattle.tree_sizes.proofs.SizeLaws.{slots_le}
use Rattle.store_rank.specs.declared.Start.{Start}
use Rattle.store_rank.specs.LeafOf.{InLeaf, leaf_of, start_of}
use Rattle.store_rank.specs.LeafOfLaws.{leaf_of_below}
use Rattle.store_rank.specs.Descent.{Descent}

pub descent_root : {h : ℕ} {counts : List ℕ} {rank : ℕ} → Descent h counts rank h 1 rank
descent_root = record { before = omega arith; same = refl }

-- ---- one level more

module _ {h : ℕ} {counts : List ℕ} {rank k rest : ℕ} where
  -- The halves have numbers of ranges of the tree.
  pub descent_halves : (levels : ℕ) → Descent h counts rank levels k rest → 0 < levels → 2 * k + 1 < 2 * 2 ^ h
  descent_halves zero w pos = absurd (not-suc-le-zero pos)
  descent_halves (suc levels) w pos =
      let before : (k + 1) * (2 * 2 ^ levels) ≤ 2 * 2 ^ h = rw (pow-succ' 2 levels) at w.before in
      omega (arith, mul-le-mul_left (k + 1) (pow_pos levels))

  pub descent_left : (levels : ℕ) → Descent h counts rank levels k rest → 0 < levels → rest < get_or counts (2 * k) 0
      → Descent h counts rank (levels - 1) (2 * k) rest
  unfolding leaf_of
  descent_left zero w pos less = absurd (not-suc-le-zero pos)
  descent_left (suc levels) w pos less =
      let e : suc levels - 1 ≡ levels = omega arith in
      let before : (k + 1) * (2 * 2 ^ levels) ≤ 2 * 2 ^ h = rw (pow-succ' 2 levels) at w.before in
      rw e record { before = omega arith; same = sym (if_lt_yes rest (get_or counts (2 * k) 0) _ _ less) ∙ w.same }

  pub descent_right : (levels : ℕ) → Descent h counts rank levels k rest → 0 < levels → get_or counts (2 * k) 0 ≤ rest
      → Descent h counts rank (levels - 1) (2 * k + 1) (rest - get_or counts (2 * k) 0)
  unfolding leaf_of
  descent_right zero w pos least = absurd (not-suc-le-zero pos)
  descent_right (suc levels) w pos least =
      let e : suc levels - 1 ≡ levels = omega arith in
      let before : (k + 1) * (2 * 2 ^ levels) ≤ 2 * 2 ^ h = rw (pow-succ' 2 levels) at w.before in
      rw e record { before = omega arith; same = sym (if_lt_no rest (get_or counts (2 * k) 0) _ _ least) ∙ w.same }

-- ---- the leaf

module _ (M : ℕ) {counts : List ℕ} {rank k rest : ℕ} (w : Descent (height M) counts rank 0 k rest) where
  pub descent_leaf : 2 ^ height M ≤ k
  unfolding leaf_of
  descent_leaf = omega (arith, ap (λ (p : InLeaf). p.leaf) w.same, (leaf_of_below (height M) counts 1 rank).from)

  -- No slot of the sheet has a number that is too large for the code.
  pub descent_small : M < 2 ^ 32 → leaf_slots M * (k - 2 ^ height M) < 2 ^ 64
  unfolding slots
  descent_small most =
      let inside : k - 2 ^ height M ≤ 2 ^ height M = omega (arith, w.before) in
      omega (arith, mul-le-mul_left (leaf_slots M) inside, slots_le M)

  pub descent_start : ◌≡◌ {A = Start} (record { slot = leaf_slots M * (k - 2 ^ height M); rank = rest; leaf = k }) (start_of M counts rank)
  unfolding leaf_of start_of
  descent_start = ap {B = Start} (λ (p : InLeaf). record { slot = leaf_slots M * (p.leaf - 2 ^ height M); rank = p.rank; leaf = p.leaf }) w.same
