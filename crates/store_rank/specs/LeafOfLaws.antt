-- The entries of a sheet from a rank on are among those from the first slot on of the leaf that is found by the counts.
use Rattle.std.specs.Prelude.{◌≡◌, get_or, take, drop, replicate}
use Rattle.std.proofs.Math.Path.{refl, sym, ap}
use Rattle.std.proofs.Common.{◌∙◌, length-drop, mul-zero, arith}
use mathlib.Core.List.{List, ◌++◌, append_assoc}
use Rattle.std.proofs.Math.Option.{some}
use Prim.Native.Nat.{ℕ, zero, suc, ◌+◌, ◌-◌, ◌*◌, ◌^◌, ◌≤◌, ◌<◌}
use Rattle.std.proofs.Math.ListN.{length}
use Rattle.std.proofs.Math.Seq.{length-take-le, drop-append-add}
use Rattle.std.proofs.Math.Nat.{pow-succ'}
use Rattle.base.specs.Lists.{Every}
use Rattle.base.specs.CaseLaws.{by_lt}
use Rattle.base.specs.ListLaws.{every_take, every_drop}
use Rattle.tree_sizes.specs.Sizes.{height, leaf_slots, candidates, Fits}
use Rattle.tree_sizes.proofs.SizeLaws.{candidate_below}
use Rattle.tree_sizes.proofs.Fit.{fit, fits_count, fits_halves}
use Rattle.tree_rules.specs.Tree.{Tree, leaf, node, Balanced, Shape}
use Rattle.tree_counts.specs.Ranges.{Below}
use Rattle.tree_counts.specs.RangeLaws.{balanced_perfect, below_itself, below_left, below_right}
use Rattle.tree_counts.specs.Counts.{Holds, shape_counts}
use Rattle.tree_counts.specs.CountLaws.{holds_count}
use Rattle.tree_counts.specs.ShapeCountLaws.{shape_counts_holds}
use Rattle.store_layout.specs.declared.Capacity.{Capacity}
use Rattle.store_layout.specs.Leaf.{nonzero}
use Rattle.store_layout.specs.Layout.{Store, leaf_counts, lay_leaves, pad_to, lay_slots, lay_out}
use Rattle.store_layout.specs.Sheet.{IsContents}
use Rattle.store_layout.specs.Decode.{numbered, Contents, decode}
use Rattle.store_layout.specs.Room.{Roomy}
use Rattle.store_layout.proofs.LeafLaws.{nonzero_append}
use Rattle.store_layout.proofs.LayoutLaws.{length_leaf_counts, leaf_counts_total, leaf_counts_fit, length_lay_leaves, lay_leaves_node, nonzero_lay_leaves}
use Rattle.store_layout.proofs.SheetLaws.{numbered_lay_out, decode_sound}
use Rattle.store_rank.specs.LeafOf.{InLeaf, leaf_of, start_of}

-- The leaf is one of those of the range.
pub leaf_of_below : (levels : ℕ) (counts : List ℕ) (k rank : ℕ) → Below k levels (leaf_of levels counts k rank).leaf
unfolding leaf_of
leaf_of_below zero counts k rank = below_itself k
leaf_of_below (suc levels) counts k rank =
    by_lt (λ (p : InLeaf). Below k (suc levels) p.leaf) rank (get_or counts (2 * k) 0) _ _
    (λ h. below_left k levels _ (leaf_of_below levels counts (2 * k) rank))
    (λ h. below_right k levels _ (leaf_of_below levels counts (2 * k + 1) (rank - get_or counts (2 * k) 0)))

-- ---- the slots of a range, in leaves of s slots

module _ (s : ℕ) where
  -- In the slots of the range k the entries from the rank on are those from the leaf of p on, from its rank there on; j leaves stand before it.
  abbrev Found : ℕ → ℕ → List ℕ → ℕ → InLeaf → Type 0
  Found levels k slots rank p =
      (j : ℕ) → p.leaf ≡ k * 2 ^ levels + j → drop rank (nonzero slots) ≡ drop p.rank (nonzero (drop (s * j) slots))

  found_here : (k : ℕ) (slots : List ℕ) (rank : ℕ) → Found 0 k slots rank (record { leaf = k; rank = rank })
  found_here k slots rank j is = let none : j ≡ 0 = omega arith in rw (none, mul-zero s)

  found_left : (levels k : ℕ) (slots : List ℕ) (rank : ℕ) (p : InLeaf) → Found levels (2 * k) slots rank p → Found (suc levels) k slots rank p
  found_left levels k slots rank p w j is = w j (is ∙ rw (pow-succ' 2 levels) (omega arith))

  -- The left half has b entries.
  found_right : (levels k : ℕ) (left right : List ℕ) (b rank : ℕ) (p : InLeaf) → length left ≡ s * 2 ^ levels → length (nonzero left) ≡ b → b ≤ rank
      → Below (2 * k + 1) levels p.leaf → Found levels (2 * k + 1) right (rank - b) p → Found (suc levels) k (left ++ right) rank p
  found_right levels k left right b rank p slots entries least below w j is =
      let leaf : p.leaf ≡ k * (2 * 2 ^ levels) + j = rw (pow-succ' 2 levels) at is in
      let i = j - 2 ^ levels in
      let after : j ≡ 2 ^ levels + i = omega (arith, below.from) in
      let behind : s * j ≡ s * 2 ^ levels + s * i = ap (λ (x : ℕ). s * x) after ∙ omega arith in
      let passed : rank ≡ length (nonzero left) + (rank - b) = omega arith in
      rw (behind, ← slots, drop-append-add left right (s * i), nonzero_append left right)
      (ap (λ (x : ℕ). drop x (nonzero left ++ nonzero right)) passed
      ∙ drop-append-add (nonzero left) (nonzero right) (rank - b)
      ∙ w i (omega (arith, below.from)))

module _ (M : ℕ) (counts : List ℕ) where
  range_found : (levels d k n rank : ℕ) (t : Tree) (list rest : List ℕ) → Fits M levels d n → Balanced M levels d n t → Holds counts k n t
      → length list ≡ n → Every (λ e. 0 < e) list
      → Found (leaf_slots M) levels k (lay_leaves (leaf_slots M) (leaf_counts n t) list ++ rest) rank (leaf_of levels counts k rank)
  unfolding leaf_of Balanced Holds
  range_found zero d k n rank leaf list rest fits w holds number pos = found_here (leaf_slots M) k _ rank
  range_found (suc levels) d k n rank (node b l r) list rest fits w holds number pos =
      let s = leaf_slots M in
      let halves = fits_halves M levels d n fits b w.0 in
      let within : b < n = candidate_below n (candidates M d) b (fits_count M levels d n fits) w.0 in
      let front : length (take b list) ≡ b = length-take-le b list (omega arith) in
      let few = leaf_counts_total M levels (suc d) b l halves.0 w.1 in
      let left = lay_leaves s (leaf_counts b l) (take b list) in
      let right = lay_leaves s (leaf_counts (n - b) r) (drop b list) ++ rest in
      let size : length left ≡ s * 2 ^ levels
      = length_lay_leaves s (leaf_counts b l) (take b list)
      ∙ rw (length_leaf_counts levels b l (balanced_perfect M levels (suc d) b l w.1)) in
      let entries : length (nonzero left) ≡ b
      = ap length
      (nonzero_lay_leaves s (leaf_counts b l) (take b list) (few ∙ sym front) (leaf_counts_fit M levels (suc d) b l halves.0 w.1)
      (every_take (λ e. 0 < e) b list pos))
      ∙ front in
      rw (
        lay_leaves_node s n b l r list few,
        append_assoc left (lay_leaves s (leaf_counts (n - b) r) (drop b list)) rest,
        holds_count counts (2 * k) b l holds.1,
      )
      (by_lt (Found s (suc levels) k (left ++ right) rank) rank b _ _
      (λ less. found_left s levels k (left ++ right) rank (leaf_of levels counts (2 * k) rank)
      (range_found levels (suc d) (2 * k) b rank l (take b list) right halves.0 w.1 holds.1 front (every_take (λ e. 0 < e) b list pos)))
      (λ least. found_right s levels k left right b rank (leaf_of levels counts (2 * k + 1) (rank - b)) size entries least
      (leaf_of_below levels counts (2 * k + 1) (rank - b))
      (range_found levels (suc d) (2 * k + 1) (n - b) (rank - b) r (drop b list) rest halves.1 w.2 holds.2
      (length-drop b list ∙ rw number) (every_drop (λ e. 0 < e) b list pos))))
  range_found zero d k n rank (node b l r) list rest fits w holds number pos = elim w [ ]
  range_found (suc levels) d k n rank leaf list rest fits w holds number pos = elim w [ ]

-- ---- the slots of a sheet

module _ (cap : Capacity) (roomy : Roomy cap) (rank : ℕ) where
  laid_start : (list : List ℕ) (s : Shape) → IsContents cap list s → let store = lay_out cap list s in
      let start = start_of s.size (numbered store) rank in
      drop rank (nonzero store.slots) ≡ drop start.rank (nonzero (drop start.slot store.slots))
  unfolding lay_out lay_slots pad_to start_of
  laid_start list s w =
      let N = length list in
      let h = height s.size in
      let counts = shape_counts cap.counts N s in
      let leaves = lay_leaves (leaf_slots s.size) (leaf_counts N s.tree) list in
      let room = roomy.counts_fit N s.size w.room w.shape.allowed in
      let levels = balanced_perfect s.size h 0 N s.tree w.shape.balanced in
      rw (numbered_lay_out cap list s w roomy)
      (range_found s.size counts h 0 1 N rank s.tree list (replicate (cap.slots - length leaves) 0) (fit N s.size w.shape.allowed)
      w.shape.balanced (shape_counts_holds h cap.counts N s levels room) refl w.entries ((leaf_of h counts 1 rank).leaf - 2 ^ h)
      (omega (arith, (leaf_of_below h counts 1 rank).from)))

  pub decoded_start : (store : Store) (c : Contents) → decode cap store ≡ some c → let start = start_of c.shape.size (numbered store) rank in
      drop rank (nonzero store.slots) ≡ drop start.rank (nonzero (drop start.slot store.slots))
  decoded_start store c h = let w = decode_sound cap store c h in rw w.1 (laid_start c.list c.shape w.0)
