-- A range is found in the order of a store: it is within the whole tree, and then within the top levels of it or one of the subtrees below them,
-- down to a tree of one level.
use Rattle.std.specs.Prelude.{◌≡◌, List, ℕ, zero, suc, ◌+◌, ◌-◌, ◌*◌, ◌/◌, ◌%◌, ◌^◌, ◌≤◌, ◌<◌, length, get_or}
use Rattle.std.proofs.Common.{sym, ap, ◌∙◌, add-zero, div-one, mod-lt, mul-le-mul_right, sub-add_cancel, add-one, one-add, arith, pow-add, pow_mono, pow_pos, shr-shr, get_or-append-add}
use Rattle.std.proofs.Math.Nat.{div-add-mod, div-eq_of_lt-le, pow-succ'}
use Rattle.std.proofs.Math.ListN.{get_or-append}
use Rattle.store_order.specs.TreeOrder.{each, tree_order}
use Rattle.store_order.proofs.TreeOrderLaws.{halves, order_more, length_order, order_first}
use Rattle.store_order.specs.CountOrder.{stored, count_place}
use Rattle.store_order.proofs.CountOrderLaws.{range_inside, count_order_lem}
use Rattle.store_order.proofs.TreeReadyLaws.{place_inside, top_ready, lower_ready}
use Rattle.store_rows.specs.Within.{Within}

-- ---- the parts of an order

-- What f gives for k + j stands behind j other lists, where all have one length.
each_at : (f : ℕ → List ℕ) (m : ℕ) → ((j : ℕ) → length (f j) ≡ m) → (k n j i : ℕ) → j < n → i < m → get_or (each f k n) (j * m + i) 0 ≡ get_or (f (k + j)) i 0
unfolding each
each_at f m same k zero j i l r = absurd (omega arith)
each_at f m same k (suc n) zero i l r =
    let here : 0 * m + i ≡ i = omega arith in
    rw (here, add-zero k) (get_or-append (f k) (each f (suc k) n) 0 i (omega (arith, same k)))
each_at f m same k (suc n) (suc j) i l r =
    let behind : suc j * m + i ≡ length (f k) + (j * m + i) = omega (arith, same k) in
    let shift : k + suc j ≡ suc k + j = omega arith in
    rw (behind, shift) (get_or-append-add (f k) (each f (suc k) n) (j * m + i) 0 ∙ each_at f m same (suc k) n j i (omega arith) r)

module _ (H r : ℕ) (g : 1 < H) where
  -- The top levels come first.
  order_top : (i : ℕ) → suc i < 2 ^ (H / 2) → get_or (tree_order H r) i 0 ≡ get_or (tree_order (H / 2) r) i 0
  order_top i l =
      rw (order_more H r g) (get_or-append (tree_order (H / 2) r) _ 0 i (omega (arith, length_order (H / 2) (halves H g).top r)))

  -- Behind them stands subtree j, behind j others.
  order_lower : (j i : ℕ) → j < 2 ^ (H / 2) → suc i < 2 ^ (H - H / 2)
      → get_or (tree_order H r) (2 ^ (H / 2) - 1 + (j * (2 ^ (H - H / 2) - 1) + i)) 0 ≡ get_or (tree_order (H - H / 2) (2 ^ (H / 2) * r + j)) i 0
  order_lower j i l m =
      let parts = halves H g in
      let ranges = 2 ^ (H - H / 2) - 1 in
      let top : 2 ^ (H / 2) - 1 ≡ length (tree_order (H / 2) r) = omega (arith, length_order (H / 2) parts.top r) in
      rw (order_more H r g, top)
      (get_or-append-add (tree_order (H / 2) r) _ (j * ranges + i) 0
      ∙ each_at (tree_order (H - H / 2)) ranges (λ n. omega (arith, length_order (H - H / 2) parts.bottom n)) (2 ^ (H / 2) * r) (2 ^ (H / 2)) j i l (omega arith))

-- Range i of subtree j is one of the tree, where T subtrees of P ranges stand behind T - 1 ranges.
subtree_inside : (T P j i : ℕ) → j < T → i < P → suc (T - 1 + (j * P + i)) < T * (P + 1)
subtree_inside T P j i l m = omega (arith, mul-le-mul_right {m = j + 1} {n = T} P (omega arith))

-- ---- the turns

-- In the whole tree.
pub within_whole : (h depth k : ℕ) → h < 31 → depth ≤ h → 2 ^ depth ≤ k → k < 2 * 2 ^ depth → Within h k (h + 1) depth 1
unfolding stored
within_whole h depth k most inside from before =
    let root : k / 2 ^ depth ≡ 1 = div-eq_of_lt-le (2 ^ depth) (omega arith) (omega arith) in
    let double : 2 ^ (h + 1) ≡ 2 * 2 ^ h = rw (add-one h) (pow-succ' 2 h) in
    record {
      inside = omega arith;
      ready = record {
        some_level = omega arith;
        levels_fit = omega arith;
        places = omega (arith, double);
        ranges = rw (root, double) (omega arith);
      };
      stands = λ i l. rw (root, add-one h, one-add i);
    }

module _ {h k levels below at : ℕ} (w : Within h k levels below at) where
  -- The first place of the tree is small.
  pub within_small : h < 31 → at < 2 ^ 32
  within_small most = omega (arith, place_inside w.ready, pow_mono {i = h} {j = 30} (omega arith))

  -- Alone in a tree of one level, it has its place.
  pub within_one : levels ≤ 1 → at ≡ count_place h k
  within_one few =
      let least = w.ready.some_level in
      let none : below ≡ 0 = omega (arith, w.inside) in
      let found : get_or (stored h) at 0 ≡ k
      = rw (add-zero at) at (w.stands 0 (pow_mono {i = 1} least)) ∙ order_first levels least (k / 2 ^ below) 0 ∙ rw none (div-one k) in
      sym ((count_order_lem h).place_range at) ∙ ap (count_place h) (range_inside h at (place_inside w.ready) ∙ found)

  module _ (more : 1 < levels) where
    -- In the top levels.
    pub within_top : below < levels / 2 → Within h k (levels / 2) below at
    within_top l = record {
      inside = l;
      ready = top_ready w.ready more;
      stands = λ i m.
          w.stands i (omega (arith, pow_mono {i = levels / 2} {j = levels} (omega arith))) ∙ order_top levels (k / 2 ^ below) more i m;
    }

    -- In one of the subtrees below them.
    pub within_lower : levels / 2 ≤ below → {from : ℕ}
        → from ≡ at + (2 ^ (levels / 2) - 1) + k / 2 ^ (below - levels / 2) % 2 ^ (levels / 2) * (2 ^ (levels - levels / 2) - 1)
        → Within h k (levels - levels / 2) (below - levels / 2) from
    within_lower l {from} e =
        let top = levels / 2 in
        let lower = levels - levels / 2 in
        let root = k / 2 ^ below in
        let subroot = k / 2 ^ (below - top) in
        let j = subroot % 2 ^ top in
        let few : j < 2 ^ top = mod-lt subroot (pow_pos top) in
        let above : subroot / 2 ^ top ≡ root = shr-shr k (below - top) top ∙ ap (λ (x : ℕ). k / 2 ^ x) (sub-add_cancel l) in
        let is : subroot ≡ 2 ^ top * root + j = sym (div-add-mod subroot (2 ^ top)) ∙ ap (λ (x : ℕ). 2 ^ top * x + j) above in
        let all : 2 ^ top * (2 ^ lower - 1 + 1) ≡ 2 ^ levels
        = ap (λ (x : ℕ). 2 ^ top * x) (sub-add_cancel (pow_pos lower)) ∙ sym (pow-add 2 top lower) ∙ ap (λ (x : ℕ). 2 ^ x) (halves levels more).both in
        record {
          inside = omega (arith, w.inside);
          ready = lower_ready w.ready more few e is;
          stands = λ i m.
              let place : from + i ≡ at + (2 ^ top - 1 + (j * (2 ^ lower - 1) + i)) = omega (arith, e) in
              rw place
              (w.stands _ (rw all at (subtree_inside (2 ^ top) (2 ^ lower - 1) j i few (omega arith)))
              ∙ order_lower levels root more j i few m
              ∙ ap (λ (x : ℕ). get_or (tree_order lower x) i 0) (sym is));
        }
