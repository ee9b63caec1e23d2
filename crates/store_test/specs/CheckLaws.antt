-- The tests that code makes of a store decide whether it is a sheet.
use Rattle.std.specs.Prelude.{◌≡◌, ℕ, ◌-◌, ◌*◌, ◌^◌, ◌≤◌, true, ◌&&◌, List, ◌++◌, length, take, drop, replicate, nat_le, slice_index, slice_index_or}
use Rattle.std.proofs.Math.Path.{refl, sym, ap₂}
use Rattle.std.proofs.Common.{ap, ◌∙◌, length-drop, take-append-drop, drop_at, one-mul, arith, le-leb, leb-true}
use Rattle.base.specs.Lists.{Every, total}
use Rattle.base.specs.BoolLaws.{and_both, tests_agree}
use Rattle.tree_sizes.specs.Sizes.{height, leaf_slots, slots}
use Rattle.tree_sizes.proofs.Fit.{fit}
use Rattle.tree_rules.specs.Tree.{Tree, Shape, IsShape}
use Rattle.tree_counts.specs.Counts.{read_tree, shape_counts, shape_in, Holds}
use Rattle.tree_counts.specs.RangeLaws.{balanced_perfect}
use Rattle.tree_counts.specs.CountLaws.{read_perfect}
use Rattle.tree_counts.specs.ShapeCountLaws.{length_shape_counts, shape_counts_holds, shape_counts_only, shape_counts_size, shape_counts_total, shape_counts_unused}
use Rattle.store_layout.specs.Leaf.{nonzero}
use Rattle.store_layout.specs.declared.Capacity.{Capacity}
use Rattle.store_order.specs.CountOrder.{count_order}
use Rattle.store_layout.specs.Layout.{Store, leaf_counts, lay_leaves, pad_to, lay_slots, lay_counts, lay_out}
use Rattle.store_layout.specs.Sheet.{IsContents, IsSheet}
use Rattle.store_layout.specs.Decode.{numbered, sheet_test}
use Rattle.store_layout.specs.Room.{Roomy}
use Rattle.store_zeros.specs.AllZero.{all_zero}
use Rattle.store_test.specs.Check.{tree_test, counts_test, slots_test, store_test}
use Rattle.store_layout.proofs.LeafLaws.{nonzero_positive}
use Rattle.store_layout.proofs.LayoutLaws.{length_leaf_counts, holds_leaves, leaf_counts_total, leaf_counts_fit, length_lay_leaves}
use Rattle.store_order.proofs.CountOrderLaws.{count_order_size}
use Rattle.store_layout.specs.NumberedLaws.{numbered_given}
use Rattle.store_layout.proofs.SheetLaws.{numbered_lay_out, size_lay_out, sheet_test_lem, test_sheet}
use Rattle.store_zeros.specs.ZeroLaws.{zero_behind, zero_behind_test, zero_sound, zero_test}
use Rattle.store_test.specs.TreeCheck.{tree_sound, tree_test_lem}
use Rattle.store_leaf_test.specs.Check.{leaves_test}
use Rattle.store_leaf_test.specs.LeavesLaws.{leaves_sound, leaves_test_lem}

-- ---- the counts

-- What the test of the counts finds: they are those of a shape of so many entries, and 0 at every number that is not in use.
pub record HasShape (entries : ℕ) (counts : List ℕ) : Type 0 where
  pub few : slice_index_or counts 1 0 ≤ entries
  pub shape : IsShape (slice_index counts 1) (shape_in counts)
  pub holds : Holds counts 1 (slice_index counts 1) (shape_in counts).tree
  pub unused : (j : ℕ) → 2 * 2 ^ height (slice_index counts 0) ≤ j → slice_index counts j ≡ 0

pub counts_sound : (entries : ℕ) (counts : List ℕ) → counts_test entries counts ≡ true → HasShape entries counts
unfolding counts_test shape_in
counts_sound entries counts h =
    let M = slice_index_or counts 0 0 in
    let N = slice_index_or counts 1 0 in
    let unused = and_both (nat_le N entries && nat_le N M && nat_le M (2 * N - 1) && tree_test counts M (height M) 0 1) _ h in
    let ranges = and_both (nat_le N entries && nat_le N M && nat_le M (2 * N - 1)) _ unused.0 in
    let most = and_both (nat_le N entries && nat_le N M) _ ranges.0 in
    let least = and_both (nat_le N entries) _ most.0 in
    let tree = tree_sound counts M (height M) 0 1 ranges.1 in record {
      few = leb-true N entries least.0;
      shape = record {
        allowed = record { least = leb-true N M least.1; most = leb-true M (2 * N - 1) most.1 };
        balanced = tree.0;
      };
      holds = tree.1;
      unused = zero_behind counts (2 * 2 ^ height M) unused.1;
    }

pub counts_test_lem : (entries room N : ℕ) (s : Shape) → N ≤ entries → 2 * 2 ^ height s.size ≤ room → IsShape N s
    → counts_test entries (shape_counts room N s) ≡ true
unfolding counts_test
counts_test_lem entries room N s few fits w =
    let levels = balanced_perfect s.size (height s.size) 0 N s.tree w.balanced in
    rw (
      shape_counts_size (height s.size) room N s levels fits,
      shape_counts_total (height s.size) room N s levels fits,
      le-leb N entries few,
      le-leb N s.size w.allowed.least,
      le-leb s.size (2 * N - 1) w.allowed.most,
      tree_test_lem (shape_counts room N s) s.size (height s.size) 0 1 N s.tree w.balanced
          (shape_counts_holds (height s.size) room N s levels fits),
      zero_behind_test (shape_counts room N s) (2 * 2 ^ height s.size) (shape_counts_unused (height s.size) room N s levels fits),
    )

module _ (entries : ℕ) (counts : List ℕ) (w : HasShape entries counts) where
  abbrev M : ℕ
  M = slice_index counts 0

  abbrev N : ℕ
  N = slice_index counts 1

  abbrev tree : Tree
  tree = read_tree (height M) counts 1

  pub held_total : total (leaf_counts N tree) ≡ N
  unfolding shape_in
  held_total = leaf_counts_total M (height M) 0 N tree (fit N M w.shape.allowed) w.shape.balanced

  module _ (fits : 2 * 2 ^ height M ≤ length counts) where
    pub held_leaves : take (2 ^ height M) (drop (2 ^ height M) counts) ≡ leaf_counts N tree
    unfolding shape_in
    held_leaves =
        rw (one-mul (2 ^ height M)) at
        (holds_leaves (height M) counts 1 N tree (read_perfect (height M) counts 1) (omega arith) w.holds)

    -- No leaf has more entries than slots.
    pub held_fit : Every (λ n. n ≤ leaf_slots M) (take (2 ^ height M) (drop (2 ^ height M) counts))
    unfolding shape_in
    held_fit = rw held_leaves (leaf_counts_fit M (height M) 0 N tree (fit N M w.shape.allowed) w.shape.balanced)

-- ---- the store

padded : (laid all : List ℕ) (n : ℕ) → take n all ≡ laid → length laid ≡ n → all_zero (drop n all) ≡ true → all ≡ pad_to (length all) laid
unfolding pad_to
padded laid all n front number zeros =
    sym (take-append-drop n all)
    ∙ ap₂ (λ (xs ys : List ℕ). xs ++ ys) front
    (zero_sound (drop n all) zeros ∙ rw (length-drop n all, number))

-- The slots and the counts of every sheet meet the tests.
laid_test_lem : (cap : Capacity) → Roomy cap → (list : List ℕ) (s : Shape) → IsContents cap list s
    → store_test cap.entries (lay_slots cap.slots list s) (shape_counts cap.counts (length list) s) ≡ true
unfolding store_test slots_test slots lay_slots pad_to
laid_test_lem cap roomy list s w =
    let N = length list in
    let h = height s.size in
    let ns = leaf_counts N s.tree in
    let leaves = lay_leaves (leaf_slots s.size) ns list in
    let room : 2 * 2 ^ h ≤ cap.counts = roomy.counts_fit N s.size w.room w.shape.allowed in
    let levels = balanced_perfect s.size h 0 N s.tree w.shape.balanced in
    let fits = fit N s.size w.shape.allowed in
    let numbers : take (2 ^ h) (drop (2 ^ h) (shape_counts cap.counts N s)) ≡ ns
    = rw (one-mul (2 ^ h)) at
    (holds_leaves h (shape_counts cap.counts N s) 1 N s.tree levels (omega (arith, length_shape_counts cap.counts N s))
    (shape_counts_holds h cap.counts N s levels room)) in
    let size : length leaves ≡ leaf_slots s.size * 2 ^ h
    = length_lay_leaves (leaf_slots s.size) ns list ∙ rw (length_leaf_counts h N s.tree levels) in
    rw (
      counts_test_lem cap.entries cap.counts N s w.room room w.shape,
      shape_counts_size h cap.counts N s levels room,
      numbers,
      leaves_test_lem (leaf_slots s.size) ns list (replicate (cap.slots - length leaves) 0)
          (leaf_counts_total s.size h 0 N s.tree fits w.shape.balanced)
          (leaf_counts_fit s.size h 0 N s.tree fits w.shape.balanced)
          w.entries,
      drop_at leaves (replicate (cap.slots - length leaves) 0) (leaf_slots s.size * 2 ^ h) size,
      zero_test (cap.slots - length leaves),
    )

module _ (cap : Capacity) (roomy : Roomy cap) (all counts : List ℕ) (slots_are : length all ≡ cap.slots) (counts_are : length counts ≡ cap.counts) where
  -- the store with these slots, and these counts put into its order
  abbrev store : Store
  store = record { slots = all; counts = count_order (height (slice_index counts 0)) counts }

  store_sound : store_test cap.entries all counts ≡ true → IsSheet cap store
  unfolding store_test slots_test slots lay_out lay_slots lay_counts shape_in
  store_sound h =
      let both = and_both (counts_test cap.entries counts) _ h in
      let w = counts_sound cap.entries counts both.0 in
      let M = slice_index_or counts 0 0 in
      let N = slice_index_or counts 1 0 in
      let s = shape_in counts in
      let ns = leaf_counts N s.tree in
      let room : 2 * 2 ^ height M ≤ length counts = rw counts_are (roomy.counts_fit N M w.few w.shape.allowed) in
      let levels = read_perfect (height M) counts 1 in
      let size : leaf_slots M * length ns ≡ slots M = rw (length_leaf_counts (height M) N s.tree levels) in
      let slot = and_both (leaves_test (leaf_slots M) ns all) _ (rw (held_leaves cap.entries counts w room) at both.1) in
      let leaves = rw size at (leaves_sound (leaf_slots M) ns all slot.0) in
      let list : List ℕ = nonzero (take (slots M) all) in
      let number : length list ≡ N = sym leaves.0 ∙ held_total cap.entries counts w in record {
        list = list;
        shape = s;
        valid = record {
          room = omega (arith, number, w.few);
          entries = nonzero_positive (take (slots M) all);
          shape = rw number w.shape;
        };
        laid =
            ap₂ {C = Store} (λ (xs ys : List ℕ). record { slots = xs; counts = ys })
            (rw (number, ← slots_are)
            (padded (lay_leaves (leaf_slots M) ns list) all (slots M) leaves.1 (length_lay_leaves (leaf_slots M) ns list ∙ size) slot.1))
            (ap (count_order (height M))
            (rw (number, ← counts_are) (shape_counts_only (height M) (length counts) N s levels room counts refl refl w.holds w.unused)));
      }

  -- The counts by range number of a sheet are those of its shape.
  sheet_counts : (w : IsSheet cap store) → counts ≡ shape_counts cap.counts (length w.list) w.shape
  sheet_counts w =
      let s = w.shape in
      let size : slice_index_or counts 0 0 ≡ s.size
      = sym (count_order_size (height (slice_index counts 0)) counts)
      ∙ ap (λ (t : Store). slice_index t.counts 0) w.laid ∙ size_lay_out cap w.list s w.valid roomy in
      let fits : 2 * 2 ^ height (slice_index counts 0) ≤ length counts
      = rw (size, counts_are) (roomy.counts_fit (length w.list) s.size w.valid.room w.valid.shape.allowed) in
      sym (numbered_given all counts fits) ∙ ap numbered w.laid ∙ numbered_lay_out cap w.list s w.valid roomy

  sheet_meets : IsSheet cap store → store_test cap.entries all counts ≡ true
  unfolding lay_out
  sheet_meets w =
      rw (ap (λ (t : Store). t.slots) w.laid, sheet_counts w) (laid_test_lem cap roomy w.list w.shape w.valid)

  pub store_test_lem : store_test cap.entries all counts ≡ sheet_test cap store
  store_test_lem =
      tests_agree (store_test cap.entries all counts) (sheet_test cap store)
      (λ h. sheet_test_lem cap roomy store (store_sound h))
      (λ h. sheet_meets (test_sheet cap store h))
