-- The test of the ranges of a tree, range by range: what it finds.
use Rattle.std.specs.Prelude.{◌≡◌, ℕ, zero, suc, ◌+◌, ◌-◌, ◌*◌, true, ◌&&◌, List, nat_le, nat_lt, slice_index, refl}
use borrow.Author.Tests.{eq-eqb, eqb-true, le-leb, leb-true, lt-ltb, ltb-true}
use Rattle.base.specs.BoolLaws.{and_both}
use Rattle.tree_sizes.specs.Sizes.{candidates, window_start, IsCandidate}
use Rattle.tree_rules.specs.Tree.{Tree, leaf, node, Balanced}
use Rattle.tree_counts.specs.Counts.{read_tree, Holds}
use Rattle.tree_counts.specs.CountLaws.{holds_count}
use Rattle.store_test.specs.Check.{range_test, tree_test}

-- ---- one range

module _ (counts : List ℕ) (c k : ℕ) where
  abbrev n : ℕ
  n = slice_index counts k

  abbrev b : ℕ
  b = slice_index counts (2 * k)

  pub range_sound : range_test counts c k ≡ true → IsCandidate n c b × (slice_index counts (2 * k + 1) ≡ n - b)
  unfolding range_test
  range_sound h =
      let sum = and_both (nat_le (window_start n c) b && nat_lt b (window_start n c + c)) _ h in
      let both = and_both (nat_le (window_start n c) b) _ sum.0 in (
        record { from = leb-true (window_start n c) b both.0; below = ltb-true b (window_start n c + c) both.1 },
        eqb-true (slice_index counts (2 * k + 1)) (n - b) sum.1,
      )

  pub range_test_lem : IsCandidate n c b → slice_index counts (2 * k + 1) ≡ n - b → range_test counts c k ≡ true
  unfolding range_test
  range_test_lem w e =
      rw (
        le-leb (window_start n c) b w.from,
        lt-ltb b (window_start n c + c) w.below,
        eq-eqb (slice_index counts (2 * k + 1)) (n - b) e,
      )

-- ---- the ranges below

pub tree_sound : (counts : List ℕ) (M levels d k : ℕ) → tree_test counts M levels d k ≡ true
    → Balanced M levels d (slice_index counts k) (read_tree levels counts k) × Holds counts k (slice_index counts k) (read_tree levels counts k)
unfolding tree_test Balanced Holds read_tree
tree_sound counts M zero d k h = (tt, refl)
tree_sound counts M (suc levels) d k h =
    let both = and_both (range_test counts (candidates M d) k && tree_test counts M levels (suc d) (2 * k)) _ h in
    let own = and_both (range_test counts (candidates M d) k) _ both.0 in
    let range = range_sound counts (candidates M d) k own.0 in
    let l = tree_sound counts M levels (suc d) (2 * k) own.1 in
    let r = rw range.1 at (tree_sound counts M levels (suc d) (2 * k + 1) both.1) in
    ((range.0, l.0, r.0), (refl, l.1, r.1))

pub tree_test_lem : (counts : List ℕ) (M levels d k n : ℕ) (t : Tree) → Balanced M levels d n t → Holds counts k n t
    → tree_test counts M levels d k ≡ true
unfolding tree_test Balanced Holds
tree_test_lem counts M zero d k n leaf w h = refl
tree_test_lem counts M (suc levels) d k n (node b l r) w h =
    let left = holds_count counts (2 * k) b l h.1 in
    rw (
      range_test_lem counts (candidates M d) k (rw (h.0, left) w.0) (rw (h.0, left) (holds_count counts (2 * k + 1) (n - b) r h.2)),
      tree_test_lem counts M levels (suc d) (2 * k) b l w.1 h.1,
      tree_test_lem counts M levels (suc d) (2 * k + 1) (n - b) r w.2 h.2,
    )
tree_test_lem counts M zero d k n (node b l r) w h = elim w [ ]
tree_test_lem counts M (suc levels) d k n leaf w h = elim w [ ]
