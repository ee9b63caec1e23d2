-- The tallies of a sheet on which no boat is retired: they are its counts, with 0 in place of the size parameter.
use Rattle.std.specs.Prelude.{◌≡◌, refl, true, List, ◌∷◌, ◌≢◌, ℕ, zero, suc, ◌-◌, ◌*◌, ◌^◌, ◌≤◌, ◌<◌, get_or, set, take, drop, replicate}
use Rattle.std.proofs.Common.{sym, ap, ◌∙◌, arith, length-drop, length-set, length-take-le, get_or-set_same, get_or-set_other, set-set, ext_get_or}
use Rattle.std.proofs.Math.ListN.{length}
use Rattle.std.proofs.Math.Pow.{pow_pos}
use Rattle.std.proofs.Math.Seq.{set_split}
use Rattle.tree_sizes.specs.Sizes.{height, candidates, Fits}
use Rattle.tree_sizes.proofs.SizeLaws.{candidate_below}
use Rattle.tree_sizes.proofs.Fit.{fit, fits_count, fits_halves}
use Rattle.tree_rules.specs.Tree.{Tree, leaf, node, Balanced, Shape}
use Rattle.tree_counts.specs.Counts.{write_tree, shape_counts}
use Rattle.tree_counts.specs.RangeLaws.{below_least}
use Rattle.tree_counts.specs.CountLaws.{write_set}
use Rattle.tree_counts.specs.ShapeCountLaws.{length_shape_counts}
use Rattle.store_order.specs.CountOrder.{range_at, count_place, count_order}
use Rattle.store_order.proofs.CountOrderLaws.{count_order_lem, range_order, length_count_order, get_d_count_order}
use Rattle.store_layout.specs.declared.Capacity.{Capacity}
use Rattle.store_layout.specs.Layout.{lay_counts}
use Rattle.store_layout.specs.Sheet.{IsContents}
use Rattle.store_layout.specs.Room.{Roomy}
use Rattle.store_scoring.specs.Scoring.{none_retired}
use Rattle.store_scoring.specs.ScoringLaws.{none_parts, none_tally}
use Rattle.store_tallies.specs.Tallies.{range_tallies, lay_tallies}
use Rattle.store_tallies.specs.TallyTree.{tally_tree}
use Rattle.store_tallies.specs.LayLaws.{tallies_counts}

-- ---- number 0 written anew

-- It keeps its place in the order of the counts.
pub order_set : (h : ℕ) (xs : List ℕ) (x : ℕ) → 0 < length xs → count_order h (set xs 0 x) ≡ set (count_order h xs) 0 x
order_set h xs x pos =
    ext_get_or 0 (count_order h (set xs 0 x)) (set (count_order h xs) 0 x)
    (length_count_order h (set xs 0 x) ∙ length-set xs 0 x ∙ sym (length-set (count_order h xs) 0 x ∙ length_count_order h xs))
    (λ i l. at i (rw (length_count_order h (set xs 0 x), length-set xs 0 x) at l))
  where
    at : (i : ℕ) → i < length xs → get_or (count_order h (set xs 0 x)) i 0 ≡ get_or (set (count_order h xs) 0 x) i 0
    at zero l =
        get_d_count_order h (set xs 0 x) 0 (rw (length-set xs 0 x) l)
        ∙ rw (range_order h).size_stays (get_or-set_same xs 0 x 0 pos ∙ sym (get_or-set_same (count_order h xs) 0 x 0 (rw (length_count_order h xs) pos)))
    at (suc i) l =
        let other : range_at h (suc i) ≢ 0
        = λ e. omega (arith, sym ((range_order h).range_place (suc i)) ∙ ap (count_place h) e ∙ (count_order_lem h).size_stays) in
        get_d_count_order h (set xs 0 x) (suc i) (rw (length-set xs 0 x) l)
        ∙ get_or-set_other xs 0 (range_at h (suc i)) x 0 other
        ∙ sym (get_d_count_order h xs (suc i) l)
        ∙ sym (get_or-set_other (count_order h xs) 0 (suc i) x 0 (λ e. omega arith))

size_set : (room N x : ℕ) (s : Shape) → shape_counts room N (record { size = x; tree = s.tree }) ≡ set (shape_counts room N s) 0 x
unfolding shape_counts
size_set room N x s =
    sym (write_set s.tree (set (replicate room 0) 0 s.size) 1 N 0 x (λ u. omega (arith, below_least 1 u.0 0 u.1))
    ∙ ap (λ (c : List ℕ). write_tree c 1 N s.tree) (set-set (replicate room 0) 0 s.size x))

-- ---- no boat is retired

none_tree : (M levels d n : ℕ) (t : Tree) (entries : List ℕ) → Fits M levels d n → Balanced M levels d n t → length entries ≡ n
    → none_retired entries ≡ true → tally_tree entries t ≡ t
unfolding Balanced tally_tree
none_tree M zero d n leaf entries fits w number none = refl
none_tree M (suc levels) d n (node b l r) entries fits w number none =
    let halves = fits_halves M levels d n fits b w.0 in
    let within : b < n = candidate_below n (candidates M d) b (fits_count M levels d n fits) w.0 in
    let front : length (take b entries) ≡ b = length-take-le b entries (omega arith) in
    let parts = none_parts b entries none in
    rw (
      none_tally (take b entries) parts.0 ∙ front,
      none_tree M levels (suc d) b l (take b entries) halves.0 w.1 front parts.0,
      none_tree M levels (suc d) (n - b) r (drop b entries) halves.1 w.2 (length-drop b entries ∙ rw number) parts.1,
    )
none_tree M zero d n (node b l r) entries fits w number none = elim w [ ]
none_tree M (suc levels) d n leaf entries fits w number none = elim w [ ]

module _ (cap : Capacity) (roomy : Roomy cap) (list : List ℕ) (s : Shape) (w : IsContents cap list s) (none : none_retired list ≡ true) where
  none_range : range_tallies cap.counts list s ≡ set (shape_counts cap.counts (length list) s) 0 0
  none_range =
      let M = s.size in
      let N = length list in
      tallies_counts cap.counts list s
      ∙ rw (
        none_tally list none,
        none_tree M (height M) 0 N s.tree list (fit N M w.shape.allowed) w.shape.balanced refl none,
      )
      (size_set cap.counts N 0 s)

  pub none_tallies : lay_tallies cap.counts list s ≡ 0 ∷ drop 1 (lay_counts cap.counts (length list) s)
  unfolding lay_tallies lay_counts
  none_tallies =
      let N = length list in
      let h = height s.size in
      let counts = shape_counts cap.counts N s in
      let fits : 2 * 2 ^ h ≤ cap.counts = roomy.counts_fit N s.size w.room w.shape.allowed in
      let pos : 0 < length counts = omega (arith, length_shape_counts cap.counts N s, pow_pos h) in
      rw none_range (order_set h counts 0 pos ∙ set_split (count_order h counts) 0 0 (rw (length_count_order h counts) pos))
