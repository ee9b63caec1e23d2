-- A sheet whose part is laid out anew is the sheet of the changed list.
use Rattle.std.specs.Prelude.{◌≡◌, refl, ℕ, ◌+◌, ◌-◌, ◌*◌, ◌^◌, ◌≤◌, max, take, drop, replicate}
use Rattle.std.proofs.Common.{sym, ◌∙◌, subst, ⊎_elim, arith, mul-le-mul_right, zero-add, zero-mul, mul-zero, pow-add, length-append, length-take, length-drop, take-append-drop, take_at, drop_at, length-take-le}
use Rattle.std.proofs.Math.Path.{ap}
use mathlib.Core.List.{List, ◌++◌, append_assoc, append-nil}
use Rattle.std.proofs.Math.Nat.{sub-zero, sub_self}
use Rattle.std.proofs.Math.ListN.{length}
use Rattle.std.proofs.lemmas.List.{length-replicate, replicate-append-replicate}
use Rattle.std.proofs.Math.Seq.{take-append_seam, drop-append_seam, drop-append-add}
use Rattle.base.specs.ListLaws.{drop_replicate}
use Rattle.tree_sizes.specs.Sizes.{height, leaf_slots, slots}
use Rattle.tree_sizes.proofs.Fit.{fit}
use Rattle.tree_rules.specs.declared.Change.{Change}
use Rattle.tree_rules.specs.Tree.{Tree, Shape, IsShape}
use Rattle.tree_rules.specs.Compare.{count_after}
use Rattle.tree_rules.specs.Rules.{rank_of, at_rank, InReach}
use Rattle.tree_rules.specs.ChangeLaws.{rank_itself}
use Rattle.tree_counts.specs.declared.Part.{Part}
use Rattle.tree_counts.specs.Ranges.{Perfect}
use Rattle.tree_counts.specs.Counts.{shape_counts, Holds}
use Rattle.tree_counts.specs.CountLaws.{holds_count}
use Rattle.tree_counts.specs.RangeLaws.{balanced_perfect}
use Rattle.tree_counts.specs.ShapeCountLaws.{length_shape_counts, shape_counts_holds}
use Rattle.tree_counts.specs.Confined.{Confined}
use Rattle.store_layout.specs.Leaf.{nonzero}
use Rattle.store_layout.specs.declared.Capacity.{Capacity}
use Rattle.store_layout.specs.Layout.{leaf_counts, lay_leaves, pad_to, lay_slots}
use Rattle.store_layout.specs.Sheet.{IsContents}
use Rattle.store_layout.specs.Room.{Roomy}
use Rattle.store_layout.proofs.LayoutLaws.{holds_leaves, leaf_counts_total, leaf_counts_fit, nonzero_lay_leaves}
use Rattle.store_layout.proofs.SheetLaws.{leaves_lay_out}
use Rattle.tree_rules.specs.ChangeList.{change_list}
use Rattle.tree_rules.specs.ChangeListLaws.{length_changed}
use Rattle.store_part.specs.Region.{leaves_of, leaves_before}
use Rattle.store_part.specs.Located.{IsRange, Located}
use Rattle.store_part.specs.LocatedLaws.{range_length, located}
use Rattle.store_part.specs.Plan.{part_from, part_length, part_counts, zeroed, PartIn, Plan}

-- ---- lists

pub zeroed_none : (k : ℕ) (xs : List ℕ) → zeroed k k xs ≡ xs
unfolding zeroed
zeroed_none k xs = rw (sub_self k) (rw append-nil (take-append-drop k xs))

pub length_zeroed : (from to : ℕ) (xs : List ℕ) → from ≤ to → to ≤ length xs → length (zeroed from to xs) ≡ length xs
unfolding zeroed
length_zeroed from to xs h l = simp (length-append, length-replicate, length-take, length-drop) (omega arith)

-- a part in the middle, found and put in anew
module _ (left mid right : List ℕ) (room : ℕ) where
  abbrev padded : List ℕ → List ℕ
  padded xs = pad_to room (left ++ xs ++ right)

  abbrev unused : List ℕ → List ℕ
  unused xs = replicate (room - length (left ++ xs ++ right)) 0

  regroup : (xs : List ℕ) → padded xs ≡ left ++ (xs ++ (right ++ unused xs))
  unfolding pad_to
  regroup xs = simp append_assoc

  found_mid : take (length mid) (drop (length left) (padded mid)) ≡ mid
  found_mid =
      rw (regroup mid, drop-append_seam left (mid ++ (right ++ unused mid)), take-append_seam mid (right ++ unused mid))

  put_mid : (mid' : List ℕ) → length mid' ≡ length mid
      → take (length left) (padded mid) ++ mid' ++ drop (length left + length mid) (padded mid) ≡ padded mid'
  put_mid mid' e =
      rw (
        regroup mid,
        take-append_seam left (mid ++ (right ++ unused mid)),
        drop-append-add left (mid ++ (right ++ unused mid)) (length mid),
        drop-append_seam mid (right ++ unused mid),
        regroup mid',
        append_assoc left mid' (right ++ unused mid),
      )
      (ap (λ (n : ℕ). left ++ (mid' ++ (right ++ replicate (room - n) 0))) same)
    where
      same : length (left ++ mid ++ right) ≡ length (left ++ mid' ++ right)
      same = simp length-append (omega arith)

-- a whole sheet, laid out anew over another
put_whole : (old new : List ℕ) (room : ℕ) → length old ≤ room → length new ≤ room
    → take 0 (zeroed (length new) (max (length new) (length old)) (pad_to room old)) ++ new
    ++ drop (length new) (zeroed (length new) (max (length new) (length old)) (pad_to room old))
    ≡ pad_to room new
unfolding pad_to zeroed
put_whole old new room h l =
    let a = length new in
    let b = max (length new) (length old) in
    ap (λ (xs : List ℕ). new ++ xs) (rest a b (omega arith) (omega arith) (omega arith))
  where
    append_drop : (a b : ℕ) → a ≤ length (pad_to room old)
        → drop a (zeroed a b (pad_to room old)) ≡ replicate (b - a) 0 ++ drop b (pad_to room old)
    append_drop a b few =
        rw (append_assoc (take a (pad_to room old)) (replicate (b - a) 0) (drop b (pad_to room old)))
        (drop_at (take a (pad_to room old)) (replicate (b - a) 0 ++ drop b (pad_to room old)) a (length-take-le a (pad_to room old) few))

    -- behind the new sheet there is nothing
    rest : (a b : ℕ) → a ≤ b → length old ≤ b → b ≤ room → drop a (zeroed a b (pad_to room old)) ≡ replicate (room - a) 0
    rest a b u v w =
        let Z : List ℕ = replicate (room - length old) 0 in
        let few : a ≤ length (old ++ Z) = simp (length-append, length-replicate) (omega arith) in
        let at : length old + (b - length old) ≡ b = omega arith in
        let tail : drop b (old ++ Z) ≡ replicate (room - length old - (b - length old)) 0
        = ap (λ (k : ℕ). drop k (old ++ Z)) (sym at) ∙ drop-append-add old Z (b - length old) ∙ drop_replicate 0 (b - length old) (room - length old) in
        let sum : b - a + (room - length old - (b - length old)) ≡ room - a = omega arith in
        append_drop a b few ∙ rw (tail, replicate-append-replicate {A = ℕ} (b - a) (room - length old - (b - length old)) 0, sum)

-- ---- the whole sheet as a part

abbrev whole_sheet : ℕ → Part
whole_sheet rank = record { range = 1; depth = 0; rank = rank }

leaves_whole : (M : ℕ) → leaves_of M 0 ≡ 2 ^ height M
unfolding leaves_of
leaves_whole M = rw (sub-zero (height M))

from_whole : (M rank : ℕ) → part_from M (whole_sheet rank) ≡ 0
unfolding part_from leaves_before
from_whole M rank = rw (zero-mul (leaves_of M 0)) (mul-zero (leaf_slots M))

length_whole : (M rank : ℕ) → part_length M (whole_sheet rank) ≡ slots M
unfolding part_length slots
length_whole M rank = rw (leaves_whole M)

-- ---- the counts of the part

part_counts_lem : (levels M n : ℕ) (counts : List ℕ) (t : Tree) (part : Part) → Perfect levels t → leaves_of M part.depth ≡ 2 ^ levels
    → (part.range + 1) * 2 ^ levels ≤ length counts → Holds counts part.range n t → part_counts M part counts ≡ leaf_counts n t
unfolding part_counts
part_counts_lem levels M n counts t part has e room w = rw e (holds_leaves levels counts part.range n t has room w)

module _ (cap : Capacity) (roomy : Roomy cap) (list : List ℕ) (s s' : Shape) (change : Change) (e : ℕ)
    (w : IsContents cap list s) (reach : InReach change (length list)) (shape' : IsShape (count_after change (length list)) s')
    (few' : count_after change (length list) ≤ cap.entries) where
  abbrev N : ℕ
  N = length list

  abbrev N' : ℕ
  N' = count_after change N

  old_range : IsRange s.size (height s.size) 0 N s.tree
  old_range = record { fits = fit N s.size w.shape.allowed; balanced = w.shape.balanced }

  new_range : IsRange s'.size (height s'.size) 0 N' s'.tree
  new_range = record { fits = fit N' s'.size shape'.allowed; balanced = shape'.balanced }

  old_fits : slots s.size ≤ cap.slots
  old_fits = roomy.slots_fit N s.size w.room w.shape.allowed

  new_fits : slots s'.size ≤ cap.slots
  new_fits = roomy.slots_fit N' s'.size few' shape'.allowed

  counts_fit : 2 * 2 ^ height s'.size ≤ cap.counts
  counts_fit = roomy.counts_fit N' s'.size few' shape'.allowed

  is_perfect : Perfect (height s'.size) s'.tree
  is_perfect = balanced_perfect s'.size (height s'.size) 0 N' s'.tree shape'.balanced

  held : Holds (shape_counts cap.counts N' s') 1 N' s'.tree
  held = shape_counts_holds (height s'.size) cap.counts N' s' is_perfect counts_fit

  length_held : length (shape_counts cap.counts N' s') ≡ cap.counts
  length_held = length_shape_counts cap.counts N' s'

  abbrev old_leaves : List ℕ
  old_leaves = lay_leaves (leaf_slots s.size) (leaf_counts N s.tree) list

  abbrev new_leaves : List ℕ
  new_leaves = lay_leaves (leaf_slots s'.size) (leaf_counts N' s'.tree) (change_list change e list)

  old_length : length old_leaves ≡ slots s.size
  unfolding slots
  old_length = range_length s.size (height s.size) 0 N s.tree old_range (leaf_slots s.size) list

  new_length : length new_leaves ≡ slots s'.size
  unfolding slots
  new_length = range_length s'.size (height s'.size) 0 N' s'.tree new_range (leaf_slots s'.size) (change_list change e list)

  laid_new : lay_slots cap.slots (change_list change e list) s' ≡ pad_to cap.slots new_leaves
  unfolding lay_slots
  laid_new = rw (length_changed change e list reach)

  -- ---- the change is not confined to less than the whole sheet

  whole_counts : part_counts s'.size (whole_sheet (rank_of change)) (shape_counts cap.counts N' s') ≡ leaf_counts N' s'.tree
  whole_counts =
      part_counts_lem (height s'.size) s'.size N' (shape_counts cap.counts N' s') s'.tree (whole_sheet (rank_of change)) is_perfect
      (leaves_whole s'.size) (rw length_held (omega (arith, counts_fit))) held

  whole_in : (M : ℕ) → PartIn M (whole_sheet (rank_of change))
  whole_in M = record { depth_most = omega arith; range_least = omega arith; range_most = omega arith }

  whole_gathered : nonzero (take (slots s.size) (lay_slots cap.slots list s)) ≡ list
  unfolding lay_slots pad_to
  whole_gathered =
      rw (take_at old_leaves (replicate (cap.slots - length old_leaves) 0) (slots s.size) old_length) (leaves_lay_out cap list s w)

  whole_laid :
      let cleared = zeroed (slots s'.size) (max (slots s'.size) (slots s.size)) (lay_slots cap.slots list s) in
      take 0 cleared ++ new_leaves ++ drop (slots s'.size) cleared ≡ pad_to cap.slots new_leaves
  unfolding lay_slots
  whole_laid =
      rw (← old_length, ← new_length)
      (put_whole old_leaves new_leaves cap.slots (omega (arith, old_length, old_fits)) (omega (arith, new_length, new_fits)))

  whole_plan : Plan cap.slots cap.counts list s s' change e (whole_sheet (rank_of change))
  whole_plan = record {
    old_part = whole_in s.size;
    new_part = whole_in s'.size;
    entries = list;
    few = omega arith;
    reach = rw (rank_itself change) reach;
    old_room = rw (from_whole s.size (rank_of change), length_whole s.size (rank_of change)) (omega (arith, old_fits));
    new_room = rw (from_whole s'.size (rank_of change), length_whole s'.size (rank_of change)) (omega (arith, new_fits));
    counts_room = rw (leaves_whole s'.size) (omega (arith, counts_fit));
    gathered = rw (from_whole s.size (rank_of change), length_whole s.size (rank_of change)) whole_gathered;
    count = holds_count (shape_counts cap.counts N' s') 1 N' s'.tree held;
    counts_total = rw whole_counts (leaf_counts_total s'.size (height s'.size) 0 N' s'.tree new_range.fits new_range.balanced);
    counts_fit = rw whole_counts (leaf_counts_fit s'.size (height s'.size) 0 N' s'.tree new_range.fits new_range.balanced);
    laid = rw (
      from_whole s.size (rank_of change),
      from_whole s'.size (rank_of change),
      length_whole s.size (rank_of change),
      length_whole s'.size (rank_of change),
      whole_counts,
      rank_itself change,
      laid_new,
      zero-add (slots s.size),
      zero-add (slots s'.size),
    )
        whole_laid;
  }

-- ---- the change is confined to a part of the tree

module _ (cap : Capacity) (roomy : Roomy cap) (list : List ℕ) (s : Shape) (t' : Tree) (change : Change) (e : ℕ)
    (w : IsContents cap list s) (reach : InReach change (length list))
    (shape' : IsShape (count_after change (length list)) (record { size = s.size; tree = t' }))
    (few' : count_after change (length list) ≤ cap.entries) (part : Part)
    (found : Located s.size (leaf_slots s.size) (height s.size) 1 0 change e (length list) s.tree t' list part) where
  abbrev s' : Shape
  s' = record { size = s.size; tree = t' }

  abbrev M : ℕ
  M = s.size

  abbrev m : ℕ
  m = length found.entries

  abbrev m' : ℕ
  m' = count_after change m

  abbrev counts' : List ℕ
  counts' = shape_counts cap.counts (count_after change (length list)) s'

  abbrev old_mid : List ℕ
  old_mid = lay_leaves (leaf_slots M) (leaf_counts m found.tree) found.entries

  abbrev new_mid : List ℕ
  new_mid = lay_leaves (leaf_slots M) (leaf_counts m' found.tree') (change_list (at_rank change part.rank) e found.entries)

  depth_above : part.depth ≡ found.above
  depth_above = omega (arith, found.depth_is)

  range_number : part.range ≡ 2 ^ found.above + found.number
  range_number = omega (arith, found.range_is)

  part_leaves : leaves_of M part.depth ≡ 2 ^ found.inner
  unfolding leaves_of
  part_leaves = ap (λ (k : ℕ). 2 ^ k) (omega (arith, found.levels_are, depth_above))

  part_number : part.range - 2 ^ part.depth ≡ found.number
  part_number = omega (arith, range_number, ap (λ (k : ℕ). 2 ^ k) depth_above)

  from_left : part_from M part ≡ length found.left
  unfolding part_from leaves_before
  from_left = rw (part_leaves, part_number) (sym found.left_length)

  old_mid_length : length old_mid ≡ leaf_slots M * 2 ^ found.inner
  old_mid_length = range_length M found.inner part.depth m found.tree found.old_range (leaf_slots M) found.entries

  length_mid : part_length M part ≡ length old_mid
  unfolding part_length
  length_mid = rw part_leaves (sym old_mid_length)

  new_mid_length : length new_mid ≡ length old_mid
  new_mid_length =
      range_length M found.inner part.depth m' found.tree' found.new_range (leaf_slots M) (change_list (at_rank change part.rank) e found.entries)
      ∙ sym old_mid_length

  part_in : PartIn M part
  part_in = record {
    depth_most = omega (arith, depth_above, found.levels_are);
    range_least = omega (arith, range_number, ap (λ (k : ℕ). 2 ^ k) depth_above);
    range_most = omega (arith, range_number, ap (λ (k : ℕ). 2 ^ k) depth_above, found.number_below);
  }

  range_room : (part.range + 1) * 2 ^ found.inner ≤ cap.counts
  range_room =
      omega (
        arith,
        mul-le-mul_right (2 ^ found.inner) below_next,
        rw found.levels_are at (pow-add 2 found.inner found.above),
        counts_fit cap roomy list s s' change e w reach shape' few',
      )
    where
      below_next : part.range + 1 ≤ 2 * 2 ^ found.above
      below_next = omega (arith, range_number, found.number_below)

  within_counts : part_counts M part counts' ≡ leaf_counts m' found.tree'
  within_counts =
      part_counts_lem found.inner M m' counts' found.tree' part
      (balanced_perfect M found.inner part.depth m' found.tree' found.new_range.balanced)
      part_leaves
      (rw (length_held cap roomy list s s' change e w reach shape' few') range_room)
      (found.held counts' (held cap roomy list s s' change e w reach shape' few'))

  laid_old : lay_slots cap.slots list s ≡ pad_to cap.slots (found.left ++ old_mid ++ found.right)
  unfolding lay_slots
  laid_old = ap (pad_to cap.slots) found.old

  part_room : part_from M part + part_length M part ≤ cap.slots
  part_room =
      omega (
        arith,
        from_left,
        length_mid,
        simp length-append at (ap length found.old),
        old_length cap roomy list s s' change e w reach shape' few',
        old_fits cap roomy list s s' change e w reach shape' few',
      )

  within_gathered : nonzero (take (part_length M part) (drop (part_from M part) (lay_slots cap.slots list s))) ≡ found.entries
  within_gathered =
      rw (from_left, length_mid, laid_old, found_mid found.left old_mid found.right cap.slots)
      (nonzero_lay_leaves (leaf_slots M) (leaf_counts m found.tree) found.entries
      (leaf_counts_total M found.inner part.depth m found.tree found.old_range.fits found.old_range.balanced)
      (leaf_counts_fit M found.inner part.depth m found.tree found.old_range.fits found.old_range.balanced)
      (found.positive w.entries))

  within_laid :
      let from = part_from M part in
      let end = from + part_length M part in
      let cleared = zeroed end (max end end) (lay_slots cap.slots list s) in
      take from cleared ++ new_mid ++ drop end cleared ≡ lay_slots cap.slots (change_list change e list) s'
  within_laid =
      let end = part_from M part + part_length M part in
      let same : max end end ≡ end = omega arith in
      rw (
        same,
        zeroed_none end (lay_slots cap.slots list s),
        laid_old,
        from_left,
        length_mid,
        put_mid found.left old_mid found.right cap.slots new_mid new_mid_length,
        laid_new cap roomy list s s' change e w reach shape' few',
        found.new,
      )

  within_plan : Plan cap.slots cap.counts list s s' change e part
  within_plan = record {
    old_part = part_in;
    new_part = part_in;
    entries = found.entries;
    few = found.few;
    reach = found.reach;
    old_room = part_room;
    new_room = part_room;
    counts_room = rw part_leaves (omega (arith, range_room));
    gathered = within_gathered;
    count = holds_count counts' part.range m' found.tree' (found.held counts' (held cap roomy list s s' change e w reach shape' few'));
    counts_total = rw within_counts
        (leaf_counts_total M found.inner part.depth m' found.tree' found.new_range.fits found.new_range.balanced);
    counts_fit = rw within_counts
        (leaf_counts_fit M found.inner part.depth m' found.tree' found.new_range.fits found.new_range.balanced);
    laid = rw within_counts within_laid;
  }

-- ---- both

-- A change that is confined to a part of a sheet is laid out by the plan of that part.
pub plan : (cap : Capacity) (roomy : Roomy cap) (list : List ℕ) (s s' : Shape) (change : Change) (e : ℕ) (part : Part)
    → IsContents cap list s → InReach change (length list) → IsShape (count_after change (length list)) s'
    → count_after change (length list) ≤ cap.entries
    → Confined change s s' part
    → Plan cap.slots cap.counts list s s' change e part
unfolding Confined
plan cap roomy list s s' change e part w reach shape' few' confined =
    ⊎_elim
    (λ (at : part ≡ whole_sheet (rank_of change)). rw at (whole_plan cap roomy list s s' change e w reach shape' few'))
    (λ inside.
    let p : s' ≡ record { size = s.size; tree = s'.tree } = λ i. record { size = inside.0 i; tree = s'.tree } in
    let shape = subst (λ (u : Shape). IsShape (count_after change (length list)) u) p shape' in
    subst (λ (u : Shape). Plan cap.slots cap.counts list s u change e part) (sym p)
    (within_plan cap roomy list s s'.tree change e w reach shape few' part
    (located s.size (leaf_slots s.size) (height s.size) 1 0 change e (length list) s.tree s'.tree list part refl reach
    (record { fits = fit (length list) s.size w.shape.allowed; balanced = w.shape.balanced })
    (record { fits = fit (count_after change (length list)) s.size shape.allowed; balanced = shape.balanced })
    inside.1)))
    confined
