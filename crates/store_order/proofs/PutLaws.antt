-- A tree put to its place part by part. One law for both directions: they differ in what is put where, and agree in that a list that is put in
-- two parts is put.
use Rattle.std.specs.Prelude.{◌≡◌, refl, ℕ, ◌+◌, ◌-◌, ◌*◌, ◌/◌, ◌^◌, ◌<◌, length, get_or, set}
use Rattle.std.proofs.Math.Path.{sym}
use Rattle.std.proofs.Common.{ap, ◌∙◌, arith}
use mathlib.Core.List.{List, [], ◌++◌, append-nil}
use Rattle.base.specs.Lists.{tabulate}
use Rattle.store_order.specs.Copied.{copied, put_to, put_from}
use Rattle.store_order.specs.CopiedLaws.{put_to_one, put_from_one, put_to_append, put_from_append}
use Rattle.store_order.specs.TreeOrder.{each, tree_order}
use Rattle.store_order.proofs.TreeOrderLaws.{halves, order_one, order_more, length_order, length_each, each_append}

-- One range.
module _ (at k : ℕ) (from to : List ℕ) where
  pub one_to : set to k (get_or from at 0) ≡ put_to at (tree_order 1 k) from to
  one_to = rw (order_one k) (sym (put_to_one from at k to))

  pub one_from : set to at (get_or from k 0) ≡ put_from at (tree_order 1 k) from to
  one_from = rw (order_one k) (sym (put_from_one from at k to))

-- What both directions have: nothing is put by no number, and a list is put by its two parts one after the other.
pub record Puts (put : ℕ → List ℕ → List ℕ → List ℕ) : Type 0 where
  pub none : (at : ℕ) (to : List ℕ) → put at [] to ≡ to
  pub append : (at : ℕ) (ks ks' to : List ℕ) → put at (ks ++ ks') to ≡ put (at + length ks) ks' (put at ks to)

module _ (from : List ℕ) where
  pub puts_to : Puts (λ at ks to. put_to at ks from to)
  unfolding put_to copied tabulate
  puts_to = record { none = λ at to. refl; append = put_to_append from }

  pub puts_from : Puts (λ at ks to. put_from at ks from to)
  unfolding put_from copied
  puts_from = record { none = λ at to. refl; append = put_from_append from }

module _ {put : ℕ → List ℕ → List ℕ → List ℕ} (p : Puts put) where
  -- Subtrees of so many levels below the ranges from `first` on: none of them is put yet; one more is.
  module _ (levels first base : ℕ) (to : List ℕ) where
    pub none_put : to ≡ put base (each (tree_order levels) first 0) to
    unfolding each
    none_put = sym (p.none base to)

    pub next_put : (j : ℕ) {i n : ℕ} {old new : List ℕ} → 0 < levels → i ≡ base + j * (2 ^ levels - 1) → n ≡ first + j
        → old ≡ put base (each (tree_order levels) first j) to → new ≡ put i (tree_order levels n) old
        → new ≡ put base (each (tree_order levels) first (j + 1)) to
    unfolding each
    next_put j low at range before e =
        let size = length_each (tree_order levels) (2 ^ levels - 1) (λ r. omega (arith, length_order levels low r)) first j in
        e
        ∙ rw (at, range, before, ← size, each_append (tree_order levels) first j 1, append-nil (tree_order levels (first + j)))
        (sym (p.append base (each (tree_order levels) first j) (tree_order levels (first + j)) to))

  -- The top levels, and then all subtrees below them: the tree.
  pub all_put : (H at k : ℕ) (to : List ℕ) {base first n : ℕ} {top new : List ℕ} → 1 < H
      → base ≡ at + (2 ^ (H / 2) - 1) → first ≡ 2 ^ (H / 2) * k → n ≡ 2 ^ (H / 2)
      → top ≡ put at (tree_order (H / 2) k) to → new ≡ put base (each (tree_order (H - H / 2)) first n) top → new ≡ put at (tree_order H k) to
  all_put H at k to g behind below all_of top e =
      let size : 2 ^ (H / 2) - 1 ≡ length (tree_order (H / 2) k) = omega (arith, length_order (H / 2) (halves H g).top k) in
      e
      ∙ rw (behind, below, all_of, top, size)
      (sym (ap (λ (ks : List ℕ). put at ks to) (order_more H k g) ∙ p.append at (tree_order (H / 2) k) (each (tree_order (H - H / 2)) (2 ^ (H / 2) * k) (2 ^ (H / 2))) to))

  -- The parts of the trees of two, three and four levels.
  module _ (at k : ℕ) (w0 : List ℕ) {w1 w2 w3 : List ℕ} where
    pub two_put : w1 ≡ put at (tree_order 1 k) w0 → w2 ≡ put (at + 1) (tree_order 1 (2 * k)) w1 → w3 ≡ put (at + 2) (tree_order 1 (2 * k + 1)) w2
        → w3 ≡ put at (tree_order 2 k) w0
    two_put e1 e2 e3 =
        let q = next_put 1 (2 * k) (at + 1) w1 0 (omega arith) (omega arith) (omega arith) (none_put 1 (2 * k) (at + 1) w1) e2 in
        all_put 2 at k w0 (omega arith) (omega arith) (omega arith) (omega arith) e1
        (next_put 1 (2 * k) (at + 1) w1 1 (omega arith) (omega arith) (omega arith) q e3)

    pub three_put : w1 ≡ put at (tree_order 1 k) w0 → w2 ≡ put (at + 1) (tree_order 2 (2 * k)) w1 → w3 ≡ put (at + 4) (tree_order 2 (2 * k + 1)) w2
        → w3 ≡ put at (tree_order 3 k) w0
    three_put e1 e2 e3 =
        let q = next_put 2 (2 * k) (at + 1) w1 0 (omega arith) (omega arith) (omega arith) (none_put 2 (2 * k) (at + 1) w1) e2 in
        all_put 3 at k w0 (omega arith) (omega arith) (omega arith) (omega arith) e1
        (next_put 2 (2 * k) (at + 1) w1 1 (omega arith) (omega arith) (omega arith) q e3)

    pub four_put : {w4 w5 : List ℕ} → w1 ≡ put at (tree_order 2 k) w0 → w2 ≡ put (at + 3) (tree_order 2 (4 * k)) w1
        → w3 ≡ put (at + 6) (tree_order 2 (4 * k + 1)) w2 → w4 ≡ put (at + 9) (tree_order 2 (4 * k + 2)) w3
        → w5 ≡ put (at + 12) (tree_order 2 (4 * k + 3)) w4 → w5 ≡ put at (tree_order 4 k) w0
    four_put e1 e2 e3 e4 e5 =
        let p1 = next_put 2 (4 * k) (at + 3) w1 0 (omega arith) (omega arith) (omega arith) (none_put 2 (4 * k) (at + 3) w1) e2 in
        let p2 = next_put 2 (4 * k) (at + 3) w1 1 (omega arith) (omega arith) (omega arith) p1 e3 in
        let p3 = next_put 2 (4 * k) (at + 3) w1 2 (omega arith) (omega arith) (omega arith) p2 e4 in
        all_put 4 at k w0 (omega arith) (omega arith) (omega arith) (omega arith) e1
        (next_put 2 (4 * k) (at + 3) w1 3 (omega arith) (omega arith) (omega arith) p3 e5)
