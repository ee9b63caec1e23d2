-- Laws of the tallies of a list with a shape: they are the numbers that the tree of tallies gives, and so their length and what stands at each
-- range number follow from the laws of the counts of a shape.
use Rattle.std.specs.Prelude.{◌≡◌, refl, List, [], ℕ, zero, suc, ◌+◌, ◌-◌, ◌*◌, ◌^◌, ◌≤◌, length, get_or, set, take, drop, replicate}
use Rattle.std.proofs.Common.{sym, ap₂, ◌∙◌, arith}
use Rattle.tree_sizes.specs.Sizes.{height}
use Rattle.tree_rules.specs.Tree.{Tree, leaf, node, Shape}
use Rattle.tree_counts.specs.Ranges.{Perfect}
use Rattle.tree_counts.specs.Counts.{write_tree, Holds, shape_counts}
use Rattle.tree_counts.specs.RangeLaws.{balanced_perfect}
use Rattle.tree_counts.specs.ShapeCountLaws.{length_shape_counts, shape_counts_holds, shape_counts_size, shape_counts_unused}
use Rattle.store_order.specs.CountOrder.{number_order}
use Rattle.store_order.proofs.CountOrderLaws.{length_count_order, number_count}
use Rattle.store_layout.specs.declared.Capacity.{Capacity}
use Rattle.store_layout.specs.Layout.{lay_out, lay_counts}
use Rattle.store_layout.specs.Sheet.{IsContents}
use Rattle.store_layout.specs.Room.{Roomy}
use Rattle.store_layout.specs.EmptyLaws.{empty_counts}
use Rattle.store_scoring.specs.Scoring.{tally}
use Rattle.store_scoring.specs.ScoringLaws.{tally_parts}
use Rattle.store_tallies.specs.Tallies.{write_tallies, range_tallies, lay_tallies}
use Rattle.store_tallies.specs.TallyTree.{tally_tree, tally_shape}

-- ---- the tree of tallies

-- The right half has the scoring entries that the left half does not have.
pub tally_rest : (b : ℕ) (entries : List ℕ) → tally entries - tally (take b entries) ≡ tally (drop b entries)
tally_rest b entries = omega (arith, tally_parts b entries)

tally_perfect : (levels : ℕ) (entries : List ℕ) (t : Tree) → Perfect levels t → Perfect levels (tally_tree entries t)
unfolding Perfect tally_tree
tally_perfect zero entries leaf has = tt
tally_perfect (suc levels) entries (node b l r) has =
    (tally_perfect levels (take b entries) l has.0, tally_perfect levels (drop b entries) r has.1)
tally_perfect zero entries (node b l r) has = elim has [ ]
tally_perfect (suc levels) entries leaf has = elim has [ ]

write_tallies_lem : (words : List ℕ) (k : ℕ) (entries : List ℕ) (t : Tree)
    → write_tallies words k entries t ≡ write_tree words k (tally entries) (tally_tree entries t)
unfolding write_tallies write_tree tally_tree
write_tallies_lem words k entries leaf = refl
write_tallies_lem words k entries (node b l r) =
    let own = set words k (tally entries) in
    let right = tally_tree (drop b entries) r in
    write_tallies_lem (write_tallies own (2 * k) (take b entries) l) (2 * k + 1) (drop b entries) r
    ∙ ap₂ (λ (left : List ℕ) (n : ℕ). write_tree left (2 * k + 1) n right) (write_tallies_lem own (2 * k) (take b entries) l) (sym (tally_rest b entries))

-- ---- the tallies of a shape

no_size : (room : ℕ) → set {A = ℕ} (replicate room 0) 0 0 ≡ replicate room 0
no_size zero = refl
no_size (suc n) = refl

module _ (room : ℕ) (list : List ℕ) (s : Shape) where
  -- They are the counts of the tree of tallies.
  pub tallies_counts : range_tallies room list s ≡ shape_counts room (tally list) (tally_shape list s)
  unfolding range_tallies shape_counts
  tallies_counts = rw (no_size room) (write_tallies_lem (replicate room 0) 1 list s.tree)

  pub length_range_tallies : length (range_tallies room list s) ≡ room
  length_range_tallies = rw tallies_counts (length_shape_counts room (tally list) (tally_shape list s))

  pub length_lay_tallies : length (lay_tallies room list s) ≡ room
  unfolding lay_tallies
  length_lay_tallies = length_count_order (height s.size) (range_tallies room list s) ∙ length_range_tallies

pub empty_tallies : (room : ℕ) → lay_tallies room [] (record { size = 0; tree = leaf }) ≡ replicate room 0
unfolding lay_tallies tally tally_tree lay_out lay_counts
empty_tallies room =
    rw (tallies_counts room [] (record { size = 0; tree = leaf })) (empty_counts (record { entries = 0; slots = 0; counts = room }))

module _ (cap : Capacity) (roomy : Roomy cap) (list : List ℕ) (s : Shape) (w : IsContents cap list s) where
  perfect : Perfect (height s.size) (tally_tree list s.tree)
  perfect =
      tally_perfect (height s.size) list s.tree
      (balanced_perfect s.size (height s.size) 0 (length list) s.tree w.shape.balanced)

  ranges_fit : 2 * 2 ^ height s.size ≤ cap.counts
  ranges_fit = roomy.counts_fit (length list) s.size w.room w.shape.allowed

  pub numbered_tallies : number_order (height s.size) (lay_tallies cap.counts list s) ≡ range_tallies cap.counts list s
  unfolding lay_tallies
  numbered_tallies =
      number_count (height s.size) (range_tallies cap.counts list s) (rw (length_range_tallies cap.counts list s) ranges_fit)

  pub range_tallies_holds : Holds (range_tallies cap.counts list s) 1 (tally list) (tally_tree list s.tree)
  range_tallies_holds =
      rw (tallies_counts cap.counts list s)
      (shape_counts_holds (height s.size) cap.counts (tally list) (tally_shape list s) perfect ranges_fit)

  pub range_tallies_zero : get_or (range_tallies cap.counts list s) 0 0 ≡ 0
  range_tallies_zero =
      rw (tallies_counts cap.counts list s)
      (shape_counts_size (height s.size) cap.counts (tally list) (tally_shape list s) perfect ranges_fit)

  pub range_tallies_unused : (k : ℕ) → 2 * 2 ^ height s.size ≤ k → get_or (range_tallies cap.counts list s) k 0 ≡ 0
  range_tallies_unused =
      rw (tallies_counts cap.counts list s)
      (shape_counts_unused (height s.size) cap.counts (tally list) (tally_shape list s) perfect ranges_fit)
