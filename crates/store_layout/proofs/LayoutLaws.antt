-- Laws of the leaves of a tree and of their layout one after the other.
use Rattle.std.specs.Prelude.{◌≡◌, take, drop}
use Rattle.std.proofs.Math.Path.{refl, sym, ap, ap₂}
use Rattle.std.proofs.Common.{◌∙◌, take-add, take-take, drop-drop, drop-cons}
use mathlib.Core.List.{List, [], ◌∷◌, ◌++◌, append_assoc}
use Prim.Native.Nat.{ℕ, zero, suc, ◌+◌, ◌-◌, ◌*◌, ◌^◌, ◌≤◌, ◌<◌}
use Rattle.std.proofs.Math.ListN.{length, length-append, length-drop, take-append-drop}
use Rattle.std.proofs.Math.Seq.{length-take-le}
use Rattle.std.proofs.Math.Nat.{pow-succ'}
use native.Mathlib.Omega.{arith}
use Rattle.base.specs.Lists.{Every, total}
use Rattle.base.specs.ListLaws.{every_append, every_take, every_drop, drop_take, total_append}
use Rattle.tree_sizes.specs.Sizes.{candidates, leaf_slots, Fits}
use Rattle.tree_sizes.proofs.SizeLaws.{candidate_below}
use Rattle.tree_sizes.proofs.Fit.{fits_count, fits_halves, fits_leaf}
use Rattle.tree_rules.specs.Tree.{Tree, leaf, node, Balanced}
use Rattle.tree_counts.specs.Ranges.{Perfect}
use Rattle.tree_counts.specs.Counts.{Holds}
use Rattle.store_layout.specs.Leaf.{spread, nonzero}
use Rattle.store_layout.specs.Layout.{leaf_counts, lay_leaves}
use Rattle.store_layout.proofs.LeafLaws.{length_spread, nonzero_append, nonzero_spread}

-- ---- the numbers of entries of the leaves

pub length_leaf_counts : (levels n : ℕ) (t : Tree) → Perfect levels t → length (leaf_counts n t) ≡ 2 ^ levels
unfolding Perfect leaf_counts
length_leaf_counts zero n leaf has = refl
length_leaf_counts (suc levels) n (node b l r) has =
    length-append (leaf_counts b l) (leaf_counts (n - b) r)
    ∙ rw (length_leaf_counts levels b l has.0, length_leaf_counts levels (n - b) r has.1, pow-succ' 2 levels) (omega arith)
length_leaf_counts zero n (node b l r) has = elim has [ ]
length_leaf_counts (suc levels) n leaf has = elim has [ ]

-- The leaves of a range stand one after the other at the end of its counts.
pub holds_leaves : (levels : ℕ) (counts : List ℕ) (k n : ℕ) (t : Tree) → Perfect levels t → (k + 1) * 2 ^ levels ≤ length counts
    → Holds counts k n t → take (2 ^ levels) (drop (k * 2 ^ levels) counts) ≡ leaf_counts n t
unfolding Perfect Holds leaf_counts
holds_leaves zero counts k n leaf has room w =
    let e : k * 2 ^ 0 ≡ k = omega arith in rw (e, drop-cons counts k 0 (omega arith), w)
holds_leaves (suc levels) counts k n (node b l r) has room w =
    let room-halves : (k + 1) * (2 * 2 ^ levels) ≤ length counts = rw (pow-succ' 2 levels) at room in
    let both : 2 ^ suc levels ≡ 2 ^ levels + 2 ^ levels = omega (arith, pow-succ' 2 levels) in
    let first : k * (2 ^ levels + 2 ^ levels) ≡ 2 * k * 2 ^ levels = omega arith in
    let second : 2 * k * 2 ^ levels + 2 ^ levels ≡ (2 * k + 1) * 2 ^ levels = omega arith in
    rw (
      both,
      first,
      take-add (2 ^ levels) (2 ^ levels) (drop (2 * k * 2 ^ levels) counts),
      drop-drop (2 ^ levels) (2 * k * 2 ^ levels) counts,
      second,
      holds_leaves levels counts (2 * k) b l has.0 (omega arith) w.1,
      holds_leaves levels counts (2 * k + 1) (n - b) r has.1 (omega arith) w.2,
    )
holds_leaves zero counts k n (node b l r) has room w = elim has [ ]
holds_leaves (suc levels) counts k n leaf has room w = elim has [ ]

module _ (M : ℕ) where
  pub leaf_counts_total : (levels d n : ℕ) (t : Tree) → Fits M levels d n → Balanced M levels d n t → total (leaf_counts n t) ≡ n
  unfolding Balanced leaf_counts total
  leaf_counts_total zero d n leaf fits w = omega arith
  leaf_counts_total (suc levels) d n (node b l r) fits w =
      let halves = fits_halves M levels d n fits b w.0 in
      total_append (leaf_counts b l) (leaf_counts (n - b) r)
      ∙ rw (leaf_counts_total levels (suc d) b l halves.0 w.1, leaf_counts_total levels (suc d) (n - b) r halves.1 w.2)
      (omega (arith, candidate_below n (candidates M d) b (fits_count M levels d n fits) w.0))
  leaf_counts_total zero d n (node b l r) fits w = elim w [ ]
  leaf_counts_total (suc levels) d n leaf fits w = elim w [ ]

  -- No leaf has more entries than slots.
  pub leaf_counts_fit : (levels d n : ℕ) (t : Tree) → Fits M levels d n → Balanced M levels d n t
      → Every (λ c. c ≤ leaf_slots M) (leaf_counts n t)
  unfolding Balanced leaf_counts Every
  leaf_counts_fit zero d n leaf fits w = (fits_leaf M d n fits, tt)
  leaf_counts_fit (suc levels) d n (node b l r) fits w =
      let halves = fits_halves M levels d n fits b w.0 in
      every_append (λ c. c ≤ leaf_slots M) (leaf_counts b l) (leaf_counts (n - b) r)
      (leaf_counts_fit levels (suc d) b l halves.0 w.1)
      (leaf_counts_fit levels (suc d) (n - b) r halves.1 w.2)
  leaf_counts_fit zero d n (node b l r) fits w = elim w [ ]
  leaf_counts_fit (suc levels) d n leaf fits w = elim w [ ]

-- ---- leaves one after the other

module _ (s : ℕ) where
  pub length_lay_leaves : (ns list : List ℕ) → length (lay_leaves s ns list) ≡ s * length ns
  unfolding lay_leaves
  length_lay_leaves [] list = omega arith
  length_lay_leaves (n ∷ ns) list =
      length-append (spread s (take n list)) (lay_leaves s ns (drop n list))
      ∙ rw (length_spread s (take n list), length_lay_leaves ns (drop n list)) (omega arith)

  pub lay_leaves_append : (ms ns list : List ℕ)
      → lay_leaves s (ms ++ ns) list ≡ lay_leaves s ms list ++ lay_leaves s ns (drop (total ms) list)
  unfolding lay_leaves total
  lay_leaves_append [] ns list = refl
  lay_leaves_append (m ∷ ms) ns list =
      ap (λ (zs : List ℕ). spread s (take m list) ++ zs)
      (lay_leaves_append ms ns (drop m list)
      ∙ ap (λ (zs : List ℕ). lay_leaves s ms (drop m list) ++ lay_leaves s ns zs) (drop-drop (total ms) m list))
      ∙ sym (append_assoc (spread s (take m list)) (lay_leaves s ms (drop m list)) (lay_leaves s ns (drop (m + total ms) list)))

  -- Only as many entries as the leaves hold matter.
  pub lay_leaves_take : (ns list : List ℕ) (m : ℕ) → total ns ≤ m → lay_leaves s ns (take m list) ≡ lay_leaves s ns list
  unfolding lay_leaves total
  lay_leaves_take [] list m h = refl
  lay_leaves_take (n ∷ ns) list m h =
      rw (take-take n m list (omega arith), drop_take n m list, lay_leaves_take ns (drop n list) (m - n) (omega arith))

  pub lay_leaves_node : (n b : ℕ) (l r : Tree) (list : List ℕ) → total (leaf_counts b l) ≡ b
      → lay_leaves s (leaf_counts n (node b l r)) list
      ≡ lay_leaves s (leaf_counts b l) (take b list) ++ lay_leaves s (leaf_counts (n - b) r) (drop b list)
  unfolding leaf_counts
  lay_leaves_node n b l r list e =
      lay_leaves_append (leaf_counts b l) (leaf_counts (n - b) r) list
      ∙ rw (e, lay_leaves_take (leaf_counts b l) list b (omega arith))

  pub nonzero_lay_leaves : (ns list : List ℕ) → total ns ≡ length list → Every (λ n. n ≤ s) ns → Every (λ e. 0 < e) list
      → nonzero (lay_leaves s ns list) ≡ list
  unfolding lay_leaves total Every nonzero
  nonzero_lay_leaves [] [] e fit pos = refl
  nonzero_lay_leaves [] (x ∷ list) e fit pos = absurd (omega arith)
  nonzero_lay_leaves (n ∷ ns) list e fit pos =
      let len : length (take n list) ≡ n = length-take-le n list (omega arith) in
      nonzero_append (spread s (take n list)) (lay_leaves s ns (drop n list))
      ∙ ap₂ (λ (xs ys : List ℕ). xs ++ ys)
      (nonzero_spread s (take n list) (omega (arith, fit.0)) (every_take (λ x. 0 < x) n list pos))
      (nonzero_lay_leaves ns (drop n list) (omega (arith, length-drop n list)) fit.1 (every_drop (λ x. 0 < x) n list pos))
      ∙ take-append-drop n list
