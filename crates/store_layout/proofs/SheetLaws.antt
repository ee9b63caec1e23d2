-- Decoding: what was laid out is read back, what decodes was laid out, and so a sheet has one list and one shape.
use Rattle.std.specs.Prelude.{◌≡◌, refl, true, false, ◌&&◌, ℕ, zero, suc, ◌+◌, ◌-◌, ◌*◌, ◌^◌, ◌≤◌, ◌<◌, leb, ltb, get_or, replicate}
use Rattle.std.proofs.Common.{sym, ap, ap₂, ◌∙◌, ⊎_elim, arith}
use mathlib.Core.List.{List, append-nil}
use Rattle.std.proofs.Math.Option.{some, none}
use Rattle.std.proofs.Math.ListN.{length, length-append}
use Rattle.std.proofs.lemmas.List.{length-replicate}
use borrow.Author.Tests.{le-leb, lt-ltb, leb-true, ltb-true}
use Rattle.base.specs.Lists.{equal_lists}
use Rattle.base.specs.BoolLaws.{and_both, true_or_false}
use Rattle.base.specs.ListLaws.{equal_itself, equal_sound}
use Rattle.tree_sizes.specs.Sizes.{height, leaf_slots, slots, candidates, window_start, Fits}
use Rattle.tree_sizes.proofs.Fit.{fit}
use Rattle.tree_rules.specs.Tree.{Tree, leaf, node, Balanced, Shape, IsShape}
use Rattle.tree_counts.specs.Ranges.{Perfect}
use Rattle.tree_counts.specs.RangeLaws.{balanced_perfect}
use Rattle.tree_counts.specs.Counts.{shape_counts, shape_in}
use Rattle.tree_counts.specs.ShapeCountLaws.{length_shape_counts, shape_counts_size, shape_counts_total, shape_in_shape_counts}
use Rattle.store_layout.specs.Leaf.{nonzero}
use Rattle.store_layout.specs.declared.Capacity.{Capacity}
use Rattle.store_layout.specs.Layout.{Store, leaf_counts, lay_leaves, pad_to, lay_slots, lay_counts, lay_out}
use Rattle.store_layout.specs.Sheet.{IsContents, IsSheet}
use Rattle.store_layout.specs.Decode.{numbered, list_of, shape_of, balanced_test, shape_test, laid_test, sheet_test, Contents, decode}
use Rattle.store_layout.specs.Room.{Roomy}
use Rattle.store_layout.proofs.LeafLaws.{nonzero_positive, nonzero_append, nonzero_zeros}
use Rattle.store_order.proofs.CountOrderLaws.{length_count_order, count_order_size, count_order_root, number_count}
use Rattle.store_layout.specs.NumberedLaws.{numbered_size}
use Rattle.store_layout.proofs.LayoutLaws.{length_leaf_counts, leaf_counts_total, leaf_counts_fit, length_lay_leaves, nonzero_lay_leaves}

-- ---- the tests and what they test

pub balanced_test_lem : (M levels d n : ℕ) (t : Tree) → Balanced M levels d n t → balanced_test M levels d n t ≡ true
unfolding Balanced balanced_test
balanced_test_lem M zero d n leaf w = refl
balanced_test_lem M (suc levels) d n (node b l r) w =
    rw (
      le-leb (window_start n (candidates M d)) b w.0.from,
      lt-ltb b (window_start n (candidates M d) + candidates M d) w.0.below,
      balanced_test_lem M levels (suc d) b l w.1,
      balanced_test_lem M levels (suc d) (n - b) r w.2,
    )
balanced_test_lem M zero d n (node b l r) w = elim w [ ]
balanced_test_lem M (suc levels) d n leaf w = elim w [ ]

pub balanced_sound : (M levels d n : ℕ) (t : Tree) → balanced_test M levels d n t ≡ true → Balanced M levels d n t
unfolding Balanced balanced_test
balanced_sound M zero d n leaf h = tt
balanced_sound M zero d n (node b l r) h = let z : ◌≡◌ {A = ℕ} 0 1 = cc in omega arith
balanced_sound M (suc levels) d n leaf h = let z : ◌≡◌ {A = ℕ} 0 1 = cc in omega arith
balanced_sound M (suc levels) d n (node b l r) h =
    let start = window_start n (candidates M d) in
    let inside = leb start b && ltb b (start + candidates M d) in
    let right = and_both (inside && balanced_test M levels (suc d) b l) _ h in
    let left = and_both inside _ right.0 in
    let candidate = and_both (leb start b) _ left.0 in (
      record { from = leb-true start b candidate.0; below = ltb-true b (start + candidates M d) candidate.1 },
      balanced_sound M levels (suc d) b l left.1,
      balanced_sound M levels (suc d) (n - b) r right.1,
    )

pub shape_test_lem : (N : ℕ) (s : Shape) → IsShape N s → shape_test N s ≡ true
unfolding shape_test
shape_test_lem N s w =
    rw (
      le-leb N s.size w.allowed.least,
      le-leb s.size (2 * N - 1) w.allowed.most,
      balanced_test_lem s.size (height s.size) 0 N s.tree w.balanced,
    )

pub shape_sound : (N : ℕ) (s : Shape) → shape_test N s ≡ true → IsShape N s
unfolding shape_test
shape_sound N s h =
    let w = and_both (leb N s.size && leb s.size (2 * N - 1)) _ h in
    let size = and_both (leb N s.size) _ w.0 in record {
      allowed = record { least = leb-true N s.size size.0; most = leb-true s.size (2 * N - 1) size.1 };
      balanced = balanced_sound s.size (height s.size) 0 N s.tree w.1;
    }

module _ (cap : Capacity) (store : Store) where
  pub decode_true : sheet_test cap store ≡ true → decode cap store ≡ some (record { list = list_of store; shape = shape_of store })
  unfolding decode
  decode_true h = rw (h, decode)

  pub decode_false : sheet_test cap store ≡ false → decode cap store ≡ none
  unfolding decode
  decode_false h = rw (h, decode)

pub shape_of_size : (store : Store) → (shape_of store).size ≡ get_or store.counts 0 0
unfolding shape_of shape_in
shape_of_size store = numbered_size store

-- ---- the layout of contents

module _ (cap : Capacity) (list : List ℕ) (s : Shape) (w : IsContents cap list s) where
  contents_fits : Fits s.size (height s.size) 0 (length list)
  contents_fits = fit (length list) s.size w.shape.allowed

  contents_perfect : Perfect (height s.size) s.tree
  contents_perfect = balanced_perfect s.size (height s.size) 0 (length list) s.tree w.shape.balanced

  pub leaves_lay_out : nonzero (lay_leaves (leaf_slots s.size) (leaf_counts (length list) s.tree) list) ≡ list
  leaves_lay_out =
      nonzero_lay_leaves (leaf_slots s.size) (leaf_counts (length list) s.tree) list
      (leaf_counts_total s.size (height s.size) 0 (length list) s.tree contents_fits w.shape.balanced)
      (leaf_counts_fit s.size (height s.size) 0 (length list) s.tree contents_fits w.shape.balanced)
      w.entries

  pub length_counts : length (lay_out cap list s).counts ≡ cap.counts
  unfolding lay_out lay_counts
  length_counts =
      length_count_order (height s.size) (shape_counts cap.counts (length list) s) ∙ length_shape_counts cap.counts (length list) s

  pub length_slots : Roomy cap → length (lay_out cap list s).slots ≡ cap.slots
  unfolding lay_out lay_slots pad_to slots
  length_slots roomy =
      let ns = leaf_counts (length list) s.tree in
      let leaves = lay_leaves (leaf_slots s.size) ns list in
      let used : length leaves ≡ slots s.size
      = length_lay_leaves (leaf_slots s.size) ns list ∙ rw (length_leaf_counts (height s.size) (length list) s.tree contents_perfect) in
      length-append leaves (replicate (cap.slots - length leaves) 0)
      ∙ rw (length-replicate {A = ℕ} (cap.slots - length leaves) 0, used)
      (omega (arith, roomy.slots_fit (length list) s.size w.room w.shape.allowed))

  pub list_of_lay_out : list_of (lay_out cap list s) ≡ list
  unfolding list_of lay_out lay_slots pad_to
  list_of_lay_out =
      let leaves = lay_leaves (leaf_slots s.size) (leaf_counts (length list) s.tree) list in
      nonzero_append leaves (replicate (cap.slots - length leaves) 0)
      ∙ rw (nonzero_zeros (cap.slots - length leaves), append-nil (nonzero leaves)) leaves_lay_out

  module _ (roomy : Roomy cap) where
    counts_room : 2 * 2 ^ height s.size ≤ cap.counts
    counts_room = roomy.counts_fit (length list) s.size w.room w.shape.allowed

    -- The size parameter and the number of entries stand at counts 0 and 1.
    pub size_lay_out : get_or (lay_out cap list s).counts 0 0 ≡ s.size
    unfolding lay_out lay_counts
    size_lay_out =
        count_order_size (height s.size) (shape_counts cap.counts (length list) s)
        ∙ shape_counts_size (height s.size) cap.counts (length list) s contents_perfect counts_room

    pub count_lay_out : get_or (lay_out cap list s).counts 1 0 ≡ length list
    unfolding lay_out lay_counts
    count_lay_out =
        count_order_root (height s.size) (shape_counts cap.counts (length list) s)
        ∙ shape_counts_total (height s.size) cap.counts (length list) s contents_perfect counts_room

    pub numbered_lay_out : numbered (lay_out cap list s) ≡ shape_counts cap.counts (length list) s
    unfolding numbered lay_out lay_counts
    numbered_lay_out =
        rw size_lay_out
        (number_count (height s.size) (shape_counts cap.counts (length list) s)
        (rw (length_shape_counts cap.counts (length list) s) counts_room))

    pub shape_of_lay_out : shape_of (lay_out cap list s) ≡ s
    unfolding shape_of
    shape_of_lay_out = rw numbered_lay_out (shape_in_shape_counts cap.counts (length list) s contents_perfect counts_room)

  pub test_lay_out : Roomy cap → sheet_test cap (lay_out cap list s) ≡ true
  unfolding sheet_test laid_test
  test_lay_out roomy =
      rw (
        list_of_lay_out,
        shape_of_lay_out roomy,
        le-leb (length list) cap.entries w.room,
        shape_test_lem (length list) s w.shape,
        equal_itself (lay_out cap list s).slots,
        equal_itself (lay_out cap list s).counts,
      )

  pub decode_complete : Roomy cap → decode cap (lay_out cap list s) ≡ some (record { list = list; shape = s })
  decode_complete roomy = decode_true cap (lay_out cap list s) (test_lay_out roomy) ∙ rw (list_of_lay_out, shape_of_lay_out roomy)

-- What passes the test, by whatever layout.
pub laid_sound : (lay : List ℕ → Shape → Store) (entries : ℕ) (list : List ℕ) (s : Shape) (store : Store) → laid_test lay entries list s store ≡ true
    → (length list ≤ entries) × IsShape (length list) s × (store ≡ lay list s)
unfolding laid_test
laid_sound lay entries list s store h =
    let few = leb (length list) entries in
    let shape = shape_test (length list) s in
    let same = equal_lists store.slots (lay list s).slots in
    let counts = and_both (few && shape && same) _ h in
    let slots = and_both (few && shape) _ counts.0 in
    let shaped = and_both few _ slots.0 in (
      leb-true (length list) entries shaped.0,
      shape_sound (length list) s shaped.1,
      ap₂ {C = Store} (λ (xs ys : List ℕ). record { slots = xs; counts = ys })
          (equal_sound store.slots (lay list s).slots slots.1)
          (equal_sound store.counts (lay list s).counts counts.1),
    )

pub test_sound : (cap : Capacity) (store : Store) → sheet_test cap store ≡ true
    → IsContents cap (list_of store) (shape_of store) × (store ≡ lay_out cap (list_of store) (shape_of store))
unfolding sheet_test list_of
test_sound cap store h =
    let laid = laid_sound (lay_out cap) cap.entries (list_of store) (shape_of store) store h in
    (record { room = laid.0; entries = nonzero_positive store.slots; shape = laid.1 }, laid.2)

pub test_sheet : (cap : Capacity) (store : Store) → sheet_test cap store ≡ true → IsSheet cap store
test_sheet cap store h =
    let w = test_sound cap store h in record { list = list_of store; shape = shape_of store; valid = w.0; laid = w.1 }

-- What decodes passes the test, and its contents are what stands in the store.
pub decoded : (cap : Capacity) (store : Store) (contents : Contents) → decode cap store ≡ some contents
    → (sheet_test cap store ≡ true) × (contents ≡ record { list = list_of store; shape = shape_of store })
decoded cap store contents h =
    ⊎_elim
    (λ yes. (yes, cc (decode_true cap store yes)))
    (λ no. let z : ◌≡◌ {A = ℕ} 0 1 = cc (decode_false cap store no) in absurd (omega arith))
    (true_or_false (sheet_test cap store))

pub decode_sound : (cap : Capacity) (store : Store) (contents : Contents) → decode cap store ≡ some contents
    → IsContents cap contents.list contents.shape × (store ≡ lay_out cap contents.list contents.shape)
decode_sound cap store contents h = let w = decoded cap store contents h in rw w.1 (test_sound cap store w.0)

-- The size parameter stands at count 0.
pub size_known : (cap : Capacity) (store : Store) (c : Contents) → decode cap store ≡ some c → get_or store.counts 0 0 ≡ c.shape.size
size_known cap store c h = sym (ap (λ (x : Contents). x.shape.size) (decoded cap store c h).1 ∙ shape_of_size store)

-- No sheet has a size parameter that its entries cannot have.
pub size_refused : (cap : Capacity) (store : Store) → 2 * cap.entries - 1 < get_or store.counts 0 0 → sheet_test cap store ≡ false
size_refused cap store large =
    ⊎_elim
    (λ yes.
    let w = (test_sound cap store yes).0 in
    absurd (omega (arith, w.room, w.shape.allowed.most, shape_of_size store)))
    (λ no. no)
    (true_or_false (sheet_test cap store))

-- ---- sheets

module _ (cap : Capacity) (roomy : Roomy cap) where
  pub lay_out_injective : (xs ys : List ℕ) (s t : Shape) → IsContents cap xs s → IsContents cap ys t
      → lay_out cap xs s ≡ lay_out cap ys t → (xs ≡ ys) × (s ≡ t)
  lay_out_injective xs ys s t v w e =
      let same : ◌≡◌ {A = Contents} (record { list = xs; shape = s }) (record { list = ys; shape = t })
      = cc (decode_complete cap xs s v roomy, decode_complete cap ys t w roomy) in
      (ap (λ (c : Contents). c.list) same, ap (λ (c : Contents). c.shape) same)

  module _ (store : Store) where
    pub sheet_test_lem : IsSheet cap store → sheet_test cap store ≡ true
    sheet_test_lem w = rw w.laid (test_lay_out cap w.list w.shape w.valid roomy)

    pub sheet_decodes : (w : IsSheet cap store) → decode cap store ≡ some (record { list = w.list; shape = w.shape })
    sheet_decodes w = rw w.laid (decode_complete cap w.list w.shape w.valid roomy)

    pub not_sheet : decode cap store ≡ none → ¬ IsSheet cap store
    not_sheet h w = let z : ◌≡◌ {A = ℕ} 0 1 = cc (sheet_decodes w) in omega arith

    -- The number of entries stands at count 1.
    pub count_is : (c : Contents) → decode cap store ≡ some c → get_or store.counts 1 0 ≡ length c.list
    count_is c h = let w = decode_sound cap store c h in rw w.1 (count_lay_out cap c.list c.shape w.0 roomy)
