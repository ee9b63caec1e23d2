-- The tests of the counts and of the slots one after the other, by the values that code reads: what each finds, and what it leaves to the
-- next.
use Rattle.std.specs.Prelude.{◌≡◌, ℕ, ◌-◌, ◌*◌, ◌^◌, ◌<◌, ◌≤◌, Bool, true, false, ◌&&◌, List, length, take, drop, nat_le, slice_index}
use Rattle.std.proofs.Math.Path.{sym}
use Rattle.std.proofs.Common.{◌∙◌, ⊎_elim, pow_pos, arith, le-leb}
use Rattle.std.proofs.lemmas.Bool.{lt-leb}
use Rattle.base.specs.CaseLaws.{le_or_gt}
use Rattle.tree_sizes.specs.Sizes.{Allowed, height, leaf_slots, slots}
use Rattle.tree_sizes.proofs.SizeLaws.{leaf_slots_most, height_most, height_small}
use Rattle.tree_sizes.proofs.Fit.{fit}
use Rattle.tree_counts.specs.Counts.{shape_in}
use Rattle.store_layout.specs.declared.Capacity.{Capacity}
use Rattle.store_order.specs.CountOrder.{count_order}
use Rattle.store_layout.specs.Decode.{sheet_test}
use Rattle.store_layout.specs.Room.{CapacityReady}
use Rattle.store_leaf_test.specs.Ready.{LeavesTestReady}
use Rattle.store_leaf_test.specs.Check.{leaves_test}
use Rattle.store_test.specs.Ready.{TreeTestReady, CountsTestReady, SlotsTestReady}
use Rattle.store_zeros.specs.AllZero.{all_zero}
use Rattle.store_test.specs.Check.{tree_test, counts_test, slots_test, store_test}
use Rattle.store_test.specs.CheckLaws.{counts_sound, held_fit, store_test_lem}

-- ---- the counts

-- What is read of the counts: the size m and the number n of entries, which allow each other, and the height h.
pub record SizeRead (entries : ℕ) (counts : List ℕ) (m n h : ℕ) : Type 0 where
  pub m_is : m ≡ slice_index counts 0
  pub n_is : n ≡ slice_index counts 1
  pub few : n ≤ entries
  pub least : n ≤ m
  pub most : m ≤ 2 * n - 1
  pub h_is : h ≡ height m

module _ {entries : ℕ} {counts : List ℕ} (ready : CountsTestReady entries counts) where
  pub two_counts : 1 < length counts
  two_counts =
      omega (arith, ready.room 0 0 (omega arith) record { least = omega arith; most = omega arith }, pow_pos (height 0))

  module _ {m n : ℕ} (m_is : m ≡ slice_index counts 0) (n_is : n ≡ slice_index counts 1) where
    test_is : counts_test entries counts
        ≡ (nat_le n entries && nat_le n m && nat_le m (2 * n - 1) && tree_test counts m (height m) 0 1 && all_zero (drop (2 * 2 ^ height m) counts))
    unfolding counts_test
    test_is = rw (m_is, n_is)

    pub counts_many : entries < n → counts_test entries counts ≡ false
    counts_many h = test_is ∙ rw (lt-leb n entries h)

    pub counts_less : n ≤ entries → m < n → counts_test entries counts ≡ false
    counts_less few h = test_is ∙ rw (le-leb n entries few, lt-leb n m h)

    pub counts_more : n ≤ entries → n ≤ m → 2 * n - 1 < m → counts_test entries counts ≡ false
    counts_more few least h = test_is ∙ rw (le-leb n entries few, le-leb n m least, lt-leb m (2 * n - 1) h)

  module _ {m n h : ℕ} (w : SizeRead entries counts m n h) where
    allowed : Allowed n m
    allowed = record { least = w.least; most = w.most }

    pub height_bound : h ≤ 32
    height_bound = omega (arith, w.h_is, height_most m 32 (omega arith) (omega (arith, w.few, w.most, ready.few)))

    pub counts_room : 2 * 2 ^ h ≤ length counts
    counts_room = rw w.h_is (ready.room n m w.few allowed)

    pub root_ready : TreeTestReady counts m h
    root_ready = record {
      room = counts_room;
      fits = rw (w.h_is, ← w.n_is) (fit n m allowed);
      least =
          λ l.
          ⊎_elim (λ (small : m ≤ 64). omega (arith, w.h_is, height_small m small)) (λ (large : 64 < m). omega arith) (le_or_gt m 64);
      most = omega (arith, w.few, w.most, ready.few);
    }

    module _ {t : Bool} (t-is : t ≡ tree_test counts m h 0 1) where
      tree_is : counts_test entries counts ≡ (t && all_zero (drop (2 * 2 ^ h) counts))
      tree_is =
          test_is w.m_is w.n_is
          ∙ rw (le-leb n entries w.few, le-leb n m w.least, le-leb m (2 * n - 1) w.most, ← w.h_is, ← t-is)

      pub counts_tree : t ≡ false → counts_test entries counts ≡ false
      counts_tree e = tree_is ∙ rw e

      pub counts_rest : t ≡ true → {p : ℕ} → p ≡ 2 ^ h → {z : Bool} → z ≡ all_zero (drop (2 * p) counts) → counts_test entries counts ≡ z
      counts_rest e p_is z-is = tree_is ∙ rw (e, z-is, p_is)

-- ---- the slots

-- What is read of the counts: the size m, the slots s of a leaf, and p leaves.
pub record LeavesRead (counts : List ℕ) (m s h p : ℕ) : Type 0 where
  pub m_is : m ≡ slice_index counts 0
  pub s_is : s ≡ leaf_slots m
  pub h_is : h ≡ height m
  pub p_is : p ≡ 2 ^ h

module _ {all counts : List ℕ} (ready : SlotsTestReady all counts) where
  pub first_count : 0 < length counts
  first_count = omega (arith, ready.counts_room, pow_pos (height (slice_index counts 0)))

  pub height_fits : {m h : ℕ} → m ≡ slice_index counts 0 → h ≡ height m → h ≤ 32
  height_fits {m} m_is h_is = omega (arith, height_most m 32 (omega arith) (omega (arith, ready.most)))

  module _ {m s h p : ℕ} (w : LeavesRead counts m s h p) where
    slots_are : s * p ≡ slots (slice_index counts 0)
    unfolding slots
    slots_are = rw (w.p_is, w.s_is, w.h_is, w.m_is)

    pub leaves_ready : LeavesTestReady all s counts p p
    leaves_ready = record {
      slots_room = omega (arith, slots_are, ready.slots_room);
      counts_room = rw (w.p_is, w.h_is, w.m_is) (omega (arith, ready.counts_room));
      fit = rw (w.p_is, w.s_is, w.h_is, w.m_is) ready.fit;
      small = rw (w.s_is, w.m_is) (leaf_slots_most (slice_index counts 0) ready.most);
    }

    module _ {l : Bool} (l-is : l ≡ leaves_test s (take p (drop p counts)) all) where
      leaves_are : slots_test all counts ≡ (l && all_zero (drop (s * p) all))
      unfolding slots_test slots
      leaves_are = rw (l-is, w.p_is, w.s_is, w.h_is, w.m_is)

      pub slots_broken : l ≡ false → slots_test all counts ≡ false
      slots_broken e = leaves_are ∙ rw e

      pub slots_rest : l ≡ true → {z : Bool} → z ≡ all_zero (drop (s * p) all) → slots_test all counts ≡ z
      slots_rest e z-is = leaves_are ∙ rw (e, z-is)

-- ---- the store

pub counts_ready : {cap : Capacity} → CapacityReady cap → (counts : List ℕ) → length counts ≡ cap.counts
    → CountsTestReady cap.entries counts
counts_ready ready counts counts_are = record {
  few = omega (arith, ready.few);
  room = λ N M few allowed. rw counts_are (ready.roomy.counts_fit N M few allowed);
}

module _ {cap : Capacity} (ready : CapacityReady cap) (all counts : List ℕ)
    (slots_are : length all ≡ cap.slots) (counts_are : length counts ≡ cap.counts) where
  pub slots_ready : counts_test cap.entries counts ≡ true → SlotsTestReady all counts
  unfolding shape_in
  slots_ready h =
      let w = counts_sound cap.entries counts h in
      let room = (counts_ready ready counts counts_are).room (slice_index counts 1) (slice_index counts 0) w.few w.shape.allowed in record {
        most = omega (arith, w.few, w.shape.allowed.most, ready.few);
        slots_room = rw slots_are (ready.roomy.slots_fit (slice_index counts 1) (slice_index counts 0) w.few w.shape.allowed);
        counts_room = room;
        fit = held_fit cap.entries counts w room;
      }

  module _ {c : Bool} (c-is : c ≡ counts_test cap.entries counts) where
    sheet_is : sheet_test cap (record { slots = all; counts = count_order (height (slice_index counts 0)) counts }) ≡ (c && slots_test all counts)
    unfolding store_test
    sheet_is = sym (store_test_lem cap ready.roomy all counts slots_are counts_are) ∙ rw c-is

    pub sheet_broken : c ≡ false
        → sheet_test cap (record { slots = all; counts = count_order (height (slice_index counts 0)) counts }) ≡ false
    sheet_broken e = sheet_is ∙ rw e

    pub sheet_rest : c ≡ true → {r : Bool} → r ≡ slots_test all counts
        → sheet_test cap (record { slots = all; counts = count_order (height (slice_index counts 0)) counts }) ≡ r
    sheet_rest e r-is = sheet_is ∙ rw (e, r-is)
