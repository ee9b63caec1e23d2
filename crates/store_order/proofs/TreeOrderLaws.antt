-- Laws of the Van Emde Boas order, for every number of levels: its sentence, its length, and that each range of the tree stands in it once.
use Rattle.std.specs.Prelude.{◌≡◌, length, get_or}
use Rattle.std.proofs.Math.Path.{refl, sym, ap, ap₂}
use Rattle.std.proofs.Common.{subst, ◌∙◌, ⊎_elim, add-zero, zero-add, suc-add, mod-lt, le_refl, add-one, length-append, pow-add}
use mathlib.Core.List.{List, [], ◌∷◌, ◌++◌, append_assoc}
use Prim.Native.Nat.{ℕ, zero, suc, ◌+◌, ◌-◌, ◌*◌, ◌/◌, ◌%◌, ◌^◌, ◌≤◌, ◌<◌}
use Rattle.std.proofs.Math.Nat.{div-add-mod, pow-suc}
use native.Mathlib.Omega.{arith}
use Rattle.std.proofs.Math.ListN.{get_or-append}
use Rattle.std.proofs.Math.Pow.{pow_pos, pow-lt}
use Rattle.base.specs.CaseLaws.{le_or_gt, if_le_yes, if_le_no}
use Rattle.base.specs.Lists.{tabulate}
use Rattle.base.specs.ListLaws.{tabulate_append}
use Rattle.store_order.specs.Occurs.{occurs}
use Rattle.store_order.specs.OccursLaws.{occurs_append}
use Rattle.store_order.specs.TreeOrder.{each, order_by, tree_order, preorder}
use Rattle.store_order.specs.Copied.{up}

-- ---- the two parts of a number of levels

pub record Halves (H t b : ℕ) : Type 0 where
  pub top : 0 < t
  pub bottom : 0 < b
  pub both : t + b ≡ H

pub halves : (H : ℕ) → 1 < H → Halves H (H / 2) (H - H / 2)
halves H l =
    let rest : H % 2 < 2 = mod-lt H (omega arith) in
    record {
      top = omega (arith, div-add-mod H 2, rest);
      bottom = omega (arith, div-add-mod H 2, rest);
      both = omega (arith, div-add-mod H 2, rest);
    }

-- What holds of one level, and of H levels where it holds of both parts, holds of every number of levels.
module _ (P : ℕ → Type 0) (one : P 1) (more : (H : ℕ) → 1 < H → P (H / 2) → P (H - H / 2) → P H) where
  down : (steps H : ℕ) → 0 < H → H ≤ steps → P H
  down zero H low l = absurd (omega arith)
  down (suc steps) H low l =
      ⊎_elim
      (λ (least : H ≤ 1). let e : 1 ≡ H = omega arith in subst P e one)
      (λ (g : 1 < H).
      let parts = halves H g in
      more H g (down steps (H / 2) parts.top (omega (arith, parts.both, parts.bottom)))
      (down steps (H - H / 2) parts.bottom (omega (arith, parts.both, parts.top))))
      (le_or_gt H 1)

  pub by_halves : (H : ℕ) → 0 < H → P H
  by_halves H low = down H H low (le_refl H)

-- ---- the sentence of F-5

each_same : (f g : ℕ → List ℕ) → ((j : ℕ) → f j ≡ g j) → (k n : ℕ) → each f k n ≡ each g k n
unfolding each
each_same f g same k zero = refl
each_same f g same k (suc n) = rw (same k, each_same f g same (suc k) n)

-- Any number of steps is enough that is not below that of the levels.
order_steps : (s s' H k : ℕ) → 0 < H → H ≤ s → H ≤ s' → order_by s H k ≡ order_by s' H k
unfolding order_by
order_steps zero s' H k low l l' = absurd (omega arith)
order_steps (suc s) zero H k low l l' = absurd (omega arith)
order_steps (suc s) (suc s') H k low l l' =
    ⊎_elim
    (λ (least : H ≤ 1). if_le_yes H 1 _ _ least ∙ sym (if_le_yes H 1 _ _ least))
    (λ (g : 1 < H).
    let parts = halves H g in
    if_le_no H 1 _ _ g
    ∙ ap₂ ◌++◌
    (order_steps s s' (H / 2) k parts.top (omega (arith, parts.both, parts.bottom)) (omega (arith, parts.both, parts.bottom)))
    (each_same _ _
    (λ j. order_steps s s' (H - H / 2) j parts.bottom (omega (arith, parts.both, parts.top)) (omega (arith, parts.both, parts.top)))
    (2 ^ (H / 2) * k) (2 ^ (H / 2)))
    ∙ sym (if_le_no H 1 _ _ g))
    (le_or_gt H 1)

-- A tree of one level is its range.
pub order_one : (k : ℕ) → tree_order 1 k ≡ k ∷ []
unfolding tree_order order_by
order_one k = if_le_yes 1 1 _ _ (omega arith)

-- One of H levels is its top ⌊H / 2⌋ levels stored so, followed by each lower subtree so stored, from left to right.
pub order_more : (H k : ℕ) → 1 < H
    → tree_order H k ≡ tree_order (H / 2) k ++ each (tree_order (H - H / 2)) (2 ^ (H / 2) * k) (2 ^ (H / 2))
unfolding tree_order order_by
order_more zero k g = absurd (omega arith)
order_more (suc H) k g =
    let parts = halves (suc H) g in
    if_le_no (suc H) 1 _ _ g
    ∙ ap₂ ◌++◌
    (order_steps H (suc H / 2) (suc H / 2) k parts.top (omega (arith, parts.both, parts.bottom)) (omega arith))
    (each_same _ _
    (λ j. order_steps H (suc H - suc H / 2) (suc H - suc H / 2) j parts.bottom (omega (arith, parts.both, parts.top)) (omega arith))
    (2 ^ (suc H / 2) * k) (2 ^ (suc H / 2)))

-- ---- its length

pub length_each : (f : ℕ → List ℕ) (m : ℕ) → ((j : ℕ) → length (f j) ≡ m) → (k n : ℕ) → length (each f k n) ≡ n * m
unfolding each
length_each f m same k zero = omega arith
length_each f m same k (suc n) =
    length-append (f k) (each f (suc k) n) ∙ omega (arith, same k, length_each f m same (suc k) n)

-- A tree of H levels has 2 ^ H - 1 ranges.
pub length_order : (H : ℕ) → 0 < H → (k : ℕ) → length (tree_order H k) + 1 ≡ 2 ^ H
length_order =
    by_halves (λ H. (k : ℕ) → length (tree_order H k) + 1 ≡ 2 ^ H)
    (λ k. ap (λ (xs : List ℕ). length xs + 1) (order_one k))
    (λ H g top bottom k.
    let t = H / 2 in
    let b = H - H / 2 in
    let m = length (tree_order b 0) in
    let whole : 2 ^ t * (m + 1) ≡ 2 ^ H = ap (λ (x : ℕ). 2 ^ t * x) (bottom 0) ∙ sym (pow-add 2 t b) ∙ ap (λ (x : ℕ). 2 ^ x) (halves H g).both in
    let lower : length (each (tree_order b) (2 ^ t * k) (2 ^ t)) ≡ 2 ^ t * m
    = length_each (tree_order b) m (λ j. omega (arith, bottom j, bottom 0)) (2 ^ t * k) (2 ^ t) in
    ap (λ (xs : List ℕ). length xs + 1) (order_more H k g)
    ∙ omega (arith, length-append (tree_order t k) (each (tree_order b) (2 ^ t * k) (2 ^ t)), top k, lower, whole))

-- The tree's own range comes first.
pub order_first : (H : ℕ) → 0 < H → (k d : ℕ) → get_or (tree_order H k) 0 d ≡ k
order_first =
    by_halves (λ H. (k d : ℕ) → get_or (tree_order H k) 0 d ≡ k)
    (λ k d. rw (order_one k))
    (λ H g top bottom k d.
    let t = H / 2 in
    rw (order_more H k g)
    (get_or-append (tree_order t k) _ d 0 (omega (arith, length_order t (halves H g).top k, pow-lt {i = 0} {j = t} (halves H g).top)) ∙ top k d))

-- ---- it permutes the numbers of the ranges

pub each_append : (f : ℕ → List ℕ) (k m n : ℕ) → each f k (m + n) ≡ each f k m ++ each f (k + m) n
unfolding each
each_append f k zero n = rw (zero-add n, add-zero k)
each_append f k (suc m) n =
    let shift : k + suc m ≡ suc k + m = omega arith in
    rw (suc-add m n, shift, each_append f (suc k) m n, append_assoc)

module _ (r : ℕ) where
  -- Lists that have r as often, one after the other.
  occurs_each : (f g : ℕ → List ℕ) → ((j : ℕ) → occurs r (f j) ≡ occurs r (g j)) → (k n : ℕ) → occurs r (each f k n) ≡ occurs r (each g k n)
  unfolding each
  occurs_each f g same k zero = refl
  occurs_each f g same k (suc n) =
      occurs_append r (f k) (each f (suc k) n) ∙ ap₂ ◌+◌ (same k) (occurs_each f g same (suc k) n) ∙ sym (occurs_append r (g k) (each g (suc k) n))

  -- A tree of t + b levels has the ranges of its top t levels and those of the trees of b levels below them.
  occurs_parts : (b t k : ℕ) → occurs r (preorder (t + b) k) ≡ occurs r (preorder t k) + occurs r (each (preorder b) (2 ^ t * k) (2 ^ t))
  unfolding preorder each occurs
  occurs_parts b zero k =
      let e : 1 * k ≡ k = omega arith in
      rw (zero-add b, e) (omega (arith, occurs_append r (preorder b k) []))
  occurs_parts b (suc t) k =
      let w = 2 ^ t in
      let double : 2 ^ suc t ≡ w + w = pow-suc 2 t ∙ omega arith in
      let left : (w + w) * k ≡ w * (2 * k) = omega arith in
      let right : w * (2 * k) + w ≡ w * (2 * k + 1) = omega arith in
      let lower : occurs r (each (preorder b) (2 ^ suc t * k) (2 ^ suc t))
      ≡ occurs r (each (preorder b) (w * (2 * k)) w) + occurs r (each (preorder b) (w * (2 * k + 1)) w)
      = rw (double, left, each_append (preorder b) (w * (2 * k)) w w, right) (occurs_append r (each (preorder b) (w * (2 * k)) w) _) in
      rw (suc-add t b)
      (omega (
        arith,
        occurs_append r (preorder (t + b) (2 * k)) (preorder (t + b) (2 * k + 1)),
        occurs_append r (preorder t (2 * k)) (preorder t (2 * k + 1)),
        occurs_parts b t (2 * k),
        occurs_parts b t (2 * k + 1),
        lower,
      ))

  -- The order has every range as often as the preorder.
  occurs_order : (H : ℕ) → 0 < H → (k : ℕ) → occurs r (tree_order H k) ≡ occurs r (preorder H k)
  unfolding preorder
  occurs_order =
      by_halves (λ H. (k : ℕ) → occurs r (tree_order H k) ≡ occurs r (preorder H k))
      (λ k. rw (order_one k))
      (λ H g top bottom k.
      let t = H / 2 in
      let b = H - H / 2 in
      ap (occurs r) (order_more H k g)
      ∙ occurs_append r (tree_order t k) (each (tree_order b) (2 ^ t * k) (2 ^ t))
      ∙ ap₂ ◌+◌ (top k) (occurs_each (tree_order b) (preorder b) bottom (2 ^ t * k) (2 ^ t))
      ∙ sym (occurs_parts b t k)
      ∙ ap (λ (x : ℕ). occurs r (preorder x k)) (halves H g).both)

  each_range : (k n : ℕ) → each (preorder 1) k n ≡ up k n
  unfolding each preorder tabulate
  each_range k zero = refl
  each_range k (suc n) = ap (λ (xs : List ℕ). k ∷ xs) (each_range (suc k) n)

  -- The preorder of the whole tree has the numbers from 1 to 2 ^ H - 1 once each.
  occurs_whole : (H : ℕ) → occurs r (preorder H 1) ≡ occurs r (up 1 (2 ^ H - 1))
  unfolding preorder tabulate
  occurs_whole zero = refl
  occurs_whole (suc H) =
      let w = 2 ^ H in
      let sum : 2 ^ suc H - 1 ≡ (w - 1) + w = omega (arith, pow-suc 2 H, pow_pos H) in
      let next : 1 + (w - 1) ≡ w * 1 = omega (arith, pow_pos H) in
      ap (λ (x : ℕ). occurs r (preorder x 1)) (sym (add-one H))
      ∙ occurs_parts 1 H 1
      ∙ ap₂ ◌+◌ (occurs_whole H) (ap (occurs r) (each_range (w * 1) w))
      ∙ sym
      (ap (λ (x : ℕ). occurs r (up 1 x)) sum
      ∙ ap (occurs r) (tabulate_append (λ i. i) 1 (w - 1) w)
      ∙ occurs_append r (up 1 (w - 1)) (up (1 + (w - 1)) w)
      ∙ rw next)

  -- For every H the order of the whole tree permutes the numbers 1 to 2 ^ H - 1: it has each of them once, and no other.
  pub order_permutes : (H : ℕ) → 0 < H → occurs r (tree_order H 1) ≡ occurs r (up 1 (2 ^ H - 1))
  order_permutes H low = occurs_order H low 1 ∙ occurs_whole H
