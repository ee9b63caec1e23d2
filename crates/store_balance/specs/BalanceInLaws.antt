-- The third slice that the slots give: what stands at each number, and that it is the third slice of the list and the shape that are laid out.
use Rattle.std.specs.Prelude.{◌≡◌, drop, replicate}
use Rattle.std.proofs.Math.Path.{ap}
use Rattle.std.proofs.Common.{◌∙◌, add-zero, length-drop, take-append-drop, pow_mono, length-take-le, drop_at}
use mathlib.Core.List.{List, ◌++◌, append_assoc, append-nil}
use Prim.Native.Nat.{ℕ, zero, suc, ◌+◌, ◌-◌, ◌*◌, ◌^◌, ◌≤◌, ◌<◌}
use Rattle.std.proofs.Math.Nat.{zero-add, pow-succ'}
use native.Mathlib.Omega.{arith}
use Rattle.std.proofs.Math.ListN.{length, get_or, take, length-append, get_or-append}
use Rattle.std.proofs.lemmas.List.{length-replicate, take-append-le}
use Rattle.std.proofs.Math.Pow.{pow_pos}
use Rattle.std.proofs.Math.Seq.{take-append-add, get_or-append-add, get_or-drop}
use Rattle.base.specs.Lists.{Every, total}
use Rattle.base.specs.ListLaws.{every_drop, total_append, replicate_at}
use Rattle.tree_sizes.specs.Sizes.{height, leaf_slots, Fits}
use Rattle.tree_sizes.proofs.Fit.{fit, fits_halves}
use Rattle.tree_rules.specs.Tree.{Tree, leaf, node, Balanced, Shape}
use Rattle.tree_counts.specs.Ranges.{Perfect}
use Rattle.tree_counts.specs.RangeLaws.{balanced_perfect}
use Rattle.store_layout.specs.declared.Capacity.{Capacity}
use Rattle.store_layout.specs.Leaf.{nonzero}
use Rattle.store_layout.specs.Layout.{leaf_counts, lay_leaves, pad_to, lay_slots}
use Rattle.store_layout.specs.Sheet.{IsContents}
use Rattle.store_layout.specs.Room.{Roomy}
use Rattle.store_layout.proofs.LeafLaws.{nonzero_append, nonzero_zeros}
use Rattle.store_layout.proofs.LayoutLaws.{length_leaf_counts, leaf_counts_total, leaf_counts_fit, length_lay_leaves, lay_leaves_append, nonzero_lay_leaves}
use Rattle.store_balance.specs.Balance.{lay_balance, HoldsBalance}
use Rattle.store_balance.specs.BalanceIn.{first_from, rows_to, balance_in}
use Rattle.store_balance.specs.BalanceLaws.{balance_only}
use Rattle.store_balance.specs.RowLaws.{length_rows, rows_zero, rows_at}

-- ---- what stands at each number

module _ (M room : ℕ) (slots : List ℕ) where
  abbrev rows : List ℕ
  rows = rows_to (height M) (leaf_slots M) slots (height M)

  abbrev zeros : List ℕ
  zeros = replicate (room - length rows) 0

  number : length rows ≡ 2 ^ height M
  number = length_rows (height M) (leaf_slots M) slots (height M)

  pub length_balance_in : 2 ^ height M ≤ room → length (balance_in M room slots) ≡ room
  unfolding balance_in pad_to
  length_balance_in fits = length-append rows zeros ∙ rw (length-replicate {A = ℕ} (room - length rows) 0, number) (omega arith)

  pub balance_in_zero : get_or (balance_in M room slots) 0 0 ≡ 0
  unfolding balance_in pad_to
  balance_in_zero =
      get_or-append rows zeros 0 0 (omega (arith, number, pow_pos (height M))) ∙ rows_zero (height M) (leaf_slots M) slots (height M)

  pub balance_in_unused : (j : ℕ) → 2 ^ height M ≤ j → get_or (balance_in M room slots) j 0 ≡ 0
  unfolding balance_in pad_to
  balance_in_unused j behind =
      let e : j ≡ length rows + (j - length rows) = omega (arith, number) in
      ap (λ (i : ℕ). get_or (rows ++ zeros) i 0) e
      ∙ get_or-append-add rows zeros (j - length rows) 0
      ∙ replicate_at 0 (room - length rows) (j - length rows)

  -- At the number of the range i, from 0, of those at depth d: the first entry from the leaf on with which its right half begins.
  pub balance_in_at : (d i : ℕ) → d < height M → i < 2 ^ d
      → get_or (balance_in M room slots) (2 ^ d + i) 0 ≡ first_from slots (leaf_slots M * ((2 * i + 1) * 2 ^ (height M - d - 1)))
  unfolding balance_in pad_to
  balance_in_at d i less inside =
      let slot : (2 * i + 1) * (leaf_slots M * 2 ^ (height M - d - 1)) ≡ leaf_slots M * ((2 * i + 1) * 2 ^ (height M - d - 1)) = omega arith in
      get_or-append rows zeros 0 (2 ^ d + i) (omega (arith, number, rw (pow-succ' 2 d) at (pow_mono less)))
      ∙ rows_at (height M) (leaf_slots M) slots (height M) d i less inside
      ∙ ap (first_from slots) slot

-- ---- the entries from a leaf on

-- Of leaves of s slots with these numbers of entries, followed by zeros.
entries_from_lem : (s : ℕ) (ns list : List ℕ) (unused j : ℕ) → total ns ≡ length list → Every (λ n. n ≤ s) ns → Every (λ e. 0 < e) list → j ≤ length ns
    → nonzero (drop (s * j) (lay_leaves s ns list ++ replicate unused 0)) ≡ drop (total (take j ns)) list
entries_from_lem s ns list unused j sum few pos within =
    let rest = drop (total (take j ns)) list in
    let front = lay_leaves s (take j ns) list in
    let back = lay_leaves s (drop j ns) rest in
    let parts : total ns ≡ total (take j ns) + total (drop j ns) = rw (take-append-drop j ns) at (total_append (take j ns) (drop j ns)) in
    let laid : lay_leaves s ns list ≡ front ++ back = rw (take-append-drop j ns) at (lay_leaves_append s (take j ns) (drop j ns) list) in
    let size : length front ≡ s * j = length_lay_leaves s (take j ns) list ∙ rw (length-take-le j ns within) in
    rw (
      laid,
      append_assoc front back (replicate unused 0),
      drop_at front (back ++ replicate unused 0) (s * j) size,
      nonzero_append back (replicate unused 0),
      nonzero_zeros unused,
      append-nil (nonzero back),
    )
    (nonzero_lay_leaves s (drop j ns) rest (omega (arith, length-drop (total (take j ns)) list)) (every_drop (λ n. n ≤ s) j ns few)
    (every_drop (λ e. 0 < e) (total (take j ns)) list pos))

-- ---- the ranges of a sheet, in leaves of s slots

module _ (s : ℕ) (list slots : List ℕ) where
  -- The leaves of a range have these numbers of entries and stand from the leaf `start` on: from each of its leaves on stand the entries from
  -- the rank on that is `first` and the numbers of entries of the leaves before it.
  unfoldable EntriesFrom : ℕ → ℕ → ℕ → List ℕ → Type 0
  EntriesFrom leaves start first ns =
      (j : ℕ) → j < leaves → nonzero (drop (s * (start + j)) slots) ≡ drop (first + total (take j ns)) list

  -- The halves of a range.
  module _ (leaves start first : ℕ) (ms ns : List ℕ) (number : length ms ≡ leaves) (at : EntriesFrom (2 * leaves) start first (ms ++ ns)) where
    entries_left : EntriesFrom leaves start first ms
    unfolding EntriesFrom
    entries_left j h = rw (take-append-le j ms ns (omega arith)) at (at j (omega arith))

    entries_right : EntriesFrom leaves (start + leaves) (first + total ms) ns
    unfolding EntriesFrom
    entries_right j h =
        let front : take (leaves + j) (ms ++ ns) ≡ ms ++ take j ns = rw (← number) (take-append-add ms ns j) in
        let place : start + leaves + j ≡ start + (leaves + j) = omega arith in
        let rank : first + total ms + total (take j ns) ≡ first + total (ms ++ take j ns) = omega (arith, total_append ms (take j ns)) in
        rw (place, rank, ← front) (at (leaves + j) (omega arith))

  entries_first : (leaves start first : ℕ) (ns : List ℕ) → EntriesFrom leaves start first ns → 0 < leaves
      → first_from slots (s * start) ≡ get_or list first 0
  unfolding EntriesFrom first_from total
  entries_first leaves start first ns at pos =
      let e : first + 0 + 0 ≡ first = omega arith in
      ap (λ (xs : List ℕ). get_or xs 0 0) (rw (add-zero start) at (at 0 pos)) ∙ get_or-drop (first + 0) list 0 0 ∙ rw e

module _ (M : ℕ) (list slots words : List ℕ)
    (rule : (d i : ℕ) → d < height M → i < 2 ^ d
    → get_or words (2 ^ d + i) 0 ≡ first_from slots (leaf_slots M * ((2 * i + 1) * 2 ^ (height M - d - 1)))) where
  -- The range k is the range i, from 0, of those at depth d, and begins with the leaf `start`.
  range_balance : (levels d i k start first n : ℕ) (t : Tree) → levels + d ≡ height M → k ≡ 2 ^ d + i → i < 2 ^ d → start ≡ i * 2 ^ levels
      → Fits M levels d n → Balanced M levels d n t → EntriesFrom (leaf_slots M) list slots (2 ^ levels) start first (leaf_counts n t)
      → HoldsBalance list words k first t
  unfolding HoldsBalance Balanced leaf_counts
  range_balance zero d i k start first n leaf depth is inside place fits w at = tt
  range_balance (suc levels) d i k start first n (node b l r) depth is inside place fits w at =
      let s = leaf_slots M in
      let halves = fits_halves M levels d n fits b w.0 in
      let left = leaf_counts b l in
      let right = leaf_counts (n - b) r in
      let leaves : length left ≡ 2 ^ levels = length_leaf_counts levels b l (balanced_perfect M levels (suc d) b l w.1) in
      let entries : total left ≡ b = leaf_counts_total M levels (suc d) b l halves.0 w.1 in
      let from : start ≡ i * (2 * 2 ^ levels) = rw (pow-succ' 2 levels) at place in
      let both : EntriesFrom s list slots (2 * 2 ^ levels) start first (left ++ right) = rw (pow-succ' 2 levels) at at in
      let behind : EntriesFrom s list slots (2 ^ levels) (start + 2 ^ levels) (first + b) right
      = rw entries at (entries_right s list slots (2 ^ levels) start first left right leaves both) in
      let below : height M - d - 1 ≡ levels = omega arith in
      let half : (2 * i + 1) * 2 ^ levels ≡ start + 2 ^ levels = omega arith in (
        rw (is, rule d i (omega arith) inside, below, half) (entries_first s list slots (2 ^ levels) (start + 2 ^ levels) (first + b) right behind (pow_pos levels)),
        range_balance levels (suc d) (2 * i) (2 * k) start first b l (omega arith) (rw (pow-succ' 2 d) (omega arith)) (rw (pow-succ' 2 d) (omega arith))
            (omega arith) halves.0 w.1 (entries_left s list slots (2 ^ levels) start first left right leaves both),
        range_balance levels (suc d) (2 * i + 1) (2 * k + 1) (start + 2 ^ levels) (first + b) (n - b) r (omega arith) (rw (pow-succ' 2 d) (omega arith))
            (rw (pow-succ' 2 d) (omega arith)) (omega arith) halves.1 w.2 behind,
      )
  range_balance zero d i k start first n (node b l r) depth is inside place fits w at = elim w [ ]
  range_balance (suc levels) d i k start first n leaf depth is inside place fits w at = elim w [ ]

-- ---- the slots of a sheet

module _ (cap : Capacity) (roomy : Roomy cap) (list : List ℕ) (s : Shape) (w : IsContents cap list s) where
  abbrev laid : List ℕ
  laid = lay_slots cap.slots list s

  laid_fits : Fits s.size (height s.size) 0 (length list)
  laid_fits = fit (length list) s.size w.shape.allowed

  laid_perfect : Perfect (height s.size) s.tree
  laid_perfect = balanced_perfect s.size (height s.size) 0 (length list) s.tree w.shape.balanced

  laid_entries : EntriesFrom (leaf_slots s.size) list laid (2 ^ height s.size) 0 0 (leaf_counts (length list) s.tree)
  unfolding EntriesFrom lay_slots pad_to
  laid_entries j h =
      let M = s.size in
      let ns = leaf_counts (length list) s.tree in
      rw (zero-add j, zero-add (total (take j ns)))
      (entries_from_lem (leaf_slots M) ns list (cap.slots - length (lay_leaves (leaf_slots M) ns list)) j
      (leaf_counts_total M (height M) 0 (length list) s.tree laid_fits w.shape.balanced)
      (leaf_counts_fit M (height M) 0 (length list) s.tree laid_fits w.shape.balanced) w.entries
      (omega (arith, length_leaf_counts (height M) (length list) s.tree laid_perfect)))

  -- The third slice that the slots of a sheet give is that of its list and its shape.
  pub balance_laid : balance_in s.size cap.counts (lay_slots cap.slots list s) ≡ lay_balance cap.counts list s
  balance_laid =
      let M = s.size in
      let room = cap.counts in
      let words = balance_in M room laid in
      let fits : 2 ^ height M ≤ room = omega (arith, roomy.counts_fit (length list) M w.room w.shape.allowed) in
      balance_only (height M) room list s laid_perfect fits words (length_balance_in M room laid fits) (balance_in_zero M room laid)
      (range_balance M list laid words (balance_in_at M room laid) (height M) 0 0 1 0 0 (length list) s.tree (omega arith) (omega arith) (omega arith)
      (omega arith) laid_fits w.shape.balanced laid_entries)
      (balance_in_unused M room laid)
