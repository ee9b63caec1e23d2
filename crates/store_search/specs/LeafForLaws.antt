-- In a sheet of a list that rises, the leaf that is found by the balance entries gives the rank of a key and whether it is there.
use Rattle.std.specs.Prelude.{◌≡◌, get_or, take, drop}
use Rattle.std.proofs.Math.Path.{sym}
use Rattle.std.proofs.Common.{ap, ◌∙◌, length-drop, take-append-drop, take_at, get_or-take, get_or-drop, mul-one, mul-zero, arith}
use mathlib.Core.List.{List, ◌++◌, append_assoc}
use Prim.Native.Nat.{ℕ, zero, suc, ◌+◌, ◌-◌, ◌*◌, ◌^◌, ◌≤◌, ◌<◌}
use Rattle.std.proofs.Math.ListN.{length}
use Rattle.std.proofs.Math.Seq.{length-take-le, drop-append-add}
use Rattle.std.proofs.Math.Nat.{add_assoc, pow-succ'}
use Rattle.base.specs.Lists.{Every}
use Rattle.base.specs.CaseLaws.{by_lt}
use Rattle.base.specs.ListLaws.{every_take, every_drop}
use Rattle.tree_sizes.specs.Sizes.{leaf_slots, candidates, Fits}
use Rattle.tree_sizes.proofs.SizeLaws.{candidate_below}
use Rattle.tree_sizes.proofs.Fit.{fits_count, fits_halves}
use Rattle.tree_rules.specs.Tree.{Tree, leaf, node, Balanced}
use Rattle.tree_counts.specs.Ranges.{Below}
use Rattle.tree_counts.specs.RangeLaws.{balanced_perfect, below_itself, below_left, below_right}
use Rattle.tree_counts.specs.Counts.{Holds}
use Rattle.tree_counts.specs.CountLaws.{holds_count}
use Rattle.store_layout.specs.Leaf.{nonzero}
use Rattle.store_layout.specs.Layout.{leaf_counts, lay_leaves}
use Rattle.store_layout.proofs.LayoutLaws.{length_leaf_counts, leaf_counts_total, leaf_counts_fit, length_lay_leaves, lay_leaves_node, nonzero_lay_leaves}
use Rattle.store_balance.specs.Balance.{HoldsBalance}
use Rattle.store_keys.specs.Key.{key, Rises, rank_of, KeysBelow, KeysAbove}
use Rattle.store_keys.specs.KeyLaws.{rise_take, rise_drop, keys_before, keys_from, rank_behind, present_behind, rank_before, present_before}
use Rattle.store_search.specs.LeafFor.{LeafBehind, leaf_for, sought_behind}

-- The leaf is one of those of the range.
pub leaf_for_below : (levels : ℕ) (counts balance : List ℕ) (x k before : ℕ) → Below k levels (leaf_for levels counts balance x k before).leaf
unfolding leaf_for
leaf_for_below zero counts balance x k before = below_itself k
leaf_for_below (suc levels) counts balance x k before =
    by_lt (λ (p : LeafBehind). Below k (suc levels) p.leaf) x (key (get_or balance k 0)) _ _
    (λ h. below_left k levels _ (leaf_for_below levels counts balance x (2 * k) before))
    (λ h. below_right k levels _ (leaf_for_below levels counts balance x (2 * k + 1) (before + get_or counts (2 * k) 0)))

-- ---- a list in two parts, one of which has no entry with the key

module _ (before x : ℕ) where
  module _ (xs ys : List ℕ) where
    sought_before : KeysAbove x ys → sought_behind before x xs ≡ sought_behind before x (xs ++ ys)
    unfolding sought_behind
    sought_before above = rw (rank_before x xs ys above, present_before x xs ys above)

    sought_after : KeysBelow x xs → sought_behind (before + length xs) x ys ≡ sought_behind before x (xs ++ ys)
    unfolding sought_behind
    sought_after below = rw (rank_behind x xs ys below, present_behind x xs ys below, add_assoc before (length xs) (rank_of x ys))

  module _ (b : ℕ) (list : List ℕ) where
    sought_front : KeysAbove x (drop b list) → sought_behind before x (take b list) ≡ sought_behind before x list
    sought_front above = rw (take-append-drop b list) at (sought_before (take b list) (drop b list) above)

    sought_rest : b ≤ length list → KeysBelow x (take b list) → sought_behind (before + b) x (drop b list) ≡ sought_behind before x list
    sought_rest inside below = rw (take-append-drop b list, length-take-le b list inside) at (sought_after (take b list) (drop b list) below)

-- ---- the slots of a range, in leaves of s slots

module _ (s x : ℕ) where
  -- The range k has these slots, the entries of the list, and so many entries before it. The key x has the same rank and presence by the slots
  -- of the leaf of p, before which j leaves of the range stand, as by the whole list.
  abbrev Found : ℕ → ℕ → List ℕ → ℕ → List ℕ → LeafBehind → Type 0
  Found levels k slots before list p =
      (j : ℕ) → p.leaf ≡ k * 2 ^ levels + j → sought_behind p.before x (nonzero (take s (drop (s * j) slots))) ≡ sought_behind before x list

  found_here : (k before : ℕ) (slots rest list : List ℕ) → length slots ≡ s → nonzero slots ≡ list
      → Found 0 k (slots ++ rest) before list (record { leaf = k; before = before })
  found_here k before slots rest list size entries j is =
      let none : j ≡ 0 = omega arith in rw (none, mul-zero s, take_at slots rest s size, entries)

  found_left : (levels k before b : ℕ) (slots list : List ℕ) (p : LeafBehind) → KeysAbove x (drop b list)
      → Found levels (2 * k) slots before (take b list) p → Found (suc levels) k slots before list p
  found_left levels k before b slots list p above w j is =
      w j (is ∙ rw (pow-succ' 2 levels) (omega arith)) ∙ sought_front before x b list above

  -- The left half has b entries.
  found_right : (levels k before b : ℕ) (left right list : List ℕ) (p : LeafBehind) → length left ≡ s * 2 ^ levels → b ≤ length list
      → KeysBelow x (take b list) → Below (2 * k + 1) levels p.leaf → Found levels (2 * k + 1) right (before + b) (drop b list) p
      → Found (suc levels) k (left ++ right) before list p
  found_right levels k before b left right list p slots inside below leaves w j is =
      let leaf : p.leaf ≡ k * (2 * 2 ^ levels) + j = rw (pow-succ' 2 levels) at is in
      let i = j - 2 ^ levels in
      let after : j ≡ 2 ^ levels + i = omega (arith, leaves.from) in
      let behind : s * j ≡ s * 2 ^ levels + s * i = ap (λ (y : ℕ). s * y) after ∙ omega arith in
      rw (behind, ← slots, drop-append-add left right (s * i))
      (w i (omega (arith, leaves.from)) ∙ sought_rest before x b list inside below)

module _ (M : ℕ) (counts balance whole : List ℕ) (x : ℕ) where
  -- The list is that of the entries of the whole from the rank `first` on.
  abbrev PartFrom : ℕ → List ℕ → Type 0
  PartFrom first list = (i : ℕ) → i < length list → get_or list i 0 ≡ get_or whole (first + i) 0

  part_left : (first b : ℕ) (list : List ℕ) → b ≤ length list → PartFrom first list → PartFrom first (take b list)
  part_left first b list inside same i h =
      let less : i < b = rw (length-take-le b list inside) at h in
      get_or-take b list i 0 less ∙ same i (omega arith)

  part_right : (first b : ℕ) (list : List ℕ) → PartFrom first list → PartFrom (first + b) (drop b list)
  part_right first b list same i h =
      get_or-drop b list i 0 ∙ same (b + i) (omega (arith, length-drop b list)) ∙ ap (λ (y : ℕ). get_or whole y 0) (sym (add_assoc first b i))

  -- The leaf for the key in the range k, which has n entries, those of the list, from the rank `first` of the whole on.
  pub range_found : (levels d k n first before : ℕ) (t : Tree) (list rest : List ℕ) → Fits M levels d n → Balanced M levels d n t
      → Holds counts k n t → HoldsBalance whole balance k first t → length list ≡ n → Every (λ e. 0 < e) list → Rises list → PartFrom first list
      → Found (leaf_slots M) x levels k (lay_leaves (leaf_slots M) (leaf_counts n t) list ++ rest) before list
      (leaf_for levels counts balance x k before)
  unfolding leaf_for Balanced Holds HoldsBalance
  range_found zero d k n first before leaf list rest fits w holds balances number pos rising same =
      let ns = leaf_counts n leaf in
      found_here (leaf_slots M) x k before (lay_leaves (leaf_slots M) ns list) rest list
      (length_lay_leaves (leaf_slots M) ns list ∙ rw (length_leaf_counts 0 n leaf (balanced_perfect M 0 d n leaf w)) (mul-one (leaf_slots M)))
      (nonzero_lay_leaves (leaf_slots M) ns list (leaf_counts_total M 0 d n leaf fits w ∙ sym number) (leaf_counts_fit M 0 d n leaf fits w) pos)
  range_found (suc levels) d k n first before (node b l r) list rest fits w holds balances number pos rising same =
      let s = leaf_slots M in
      let halves = fits_halves M levels d n fits b w.0 in
      let within : b < length list = rw number (candidate_below n (candidates M d) b (fits_count M levels d n fits) w.0) in
      let front : length (take b list) ≡ b = length-take-le b list (omega arith) in
      let few = leaf_counts_total M levels (suc d) b l halves.0 w.1 in
      let left = lay_leaves s (leaf_counts b l) (take b list) in
      let right = lay_leaves s (leaf_counts (n - b) r) (drop b list) ++ rest in
      let size : length left ≡ s * 2 ^ levels
      = length_lay_leaves s (leaf_counts b l) (take b list)
      ∙ rw (length_leaf_counts levels b l (balanced_perfect M levels (suc d) b l w.1)) in
      rw (
        lay_leaves_node s n b l r list few,
        append_assoc left (lay_leaves s (leaf_counts (n - b) r) (drop b list)) rest,
        holds_count counts (2 * k) b l holds.1,
        balances.0,
        ← same b within,
      )
      (by_lt (Found s x (suc levels) k (left ++ right) before list) x (key (get_or list b 0)) _ _
      (λ less. found_left s x levels k before b (left ++ right) list (leaf_for levels counts balance x (2 * k) before)
      (keys_from 0 x b list rising within less)
      (range_found levels (suc d) (2 * k) b first before l (take b list) right halves.0 w.1 holds.1 balances.1 front
      (every_take (λ e. 0 < e) b list pos) (rise_take 0 b list rising) (part_left first b list (omega arith) same)))
      (λ least. found_right s x levels k before b left right list (leaf_for levels counts balance x (2 * k + 1) (before + b)) size (omega arith)
      (keys_before 0 x b list rising within least) (leaf_for_below levels counts balance x (2 * k + 1) (before + b))
      (range_found levels (suc d) (2 * k + 1) (n - b) (first + b) (before + b) r (drop b list) rest halves.1 w.2 holds.2 balances.2
      (length-drop b list ∙ rw number) (every_drop (λ e. 0 < e) b list pos) (rise_drop 0 b list rising) (part_right first b list same))))
  range_found zero d k n first before (node b l r) list rest fits w holds balances number pos rising same = elim w [ ]
  range_found (suc levels) d k n first before leaf list rest fits w holds balances number pos rising same = elim w [ ]
