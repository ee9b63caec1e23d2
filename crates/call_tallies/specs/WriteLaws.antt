-- The tallies of a sheet: the counts where no boat is retired; and after a change, those before it but for the ranges that have a leaf of the part.
use Rattle.std.specs.Prelude.{◌≡◌, refl, Bool, true, false, ◌≢◌, ◌↔◌, List, ◌∷◌, ℕ, zero, suc, ◌+◌, ◌-◌, ◌*◌, ◌^◌, ◌≤◌, length, get_or, take, drop, replicate}
use Rattle.std.proofs.Common.{sym, ◌∙◌, ap, ⊎_elim, arith, pow_pos}
use Rattle.std.proofs.Math.Nat.{pow-succ'}
use Rattle.std.proofs.lemmas.List.{length-replicate}
use Rattle.base.specs.BoolLaws.{tests_agree}
use Rattle.base.specs.Lists.{equal_lists}
use Rattle.base.specs.ListLaws.{replicate_at, equal_itself, equal_sound}
use Rattle.base.specs.CaseLaws.{eq_or_ne}
use Rattle.tree_sizes.specs.Sizes.{height}
use Rattle.tree_rules.specs.declared.Change.{Change}
use Rattle.tree_rules.specs.declared.Change.TheVariants.{Insert, Delete}
use Rattle.tree_rules.specs.Tree.{Shape}
use Rattle.tree_rules.specs.ChangeList.{change_list}
use Rattle.tree_counts.specs.declared.Part.{Part}
use Rattle.tree_counts.specs.Counts.{shape_counts}
use Rattle.tree_counts.specs.CountLaws.{holds_count}
use Rattle.tree_counts.specs.ShapeCountLaws.{length_shape_counts}
use Rattle.store_order.specs.CountOrder.{count_order, number_order}
use Rattle.store_order.proofs.CountOrderLaws.{number_order_root, length_number_order, count_number, number_count}
use Rattle.store_layout.specs.declared.Capacity.{Capacity}
use Rattle.store_layout.specs.Layout.{lay_slots, lay_counts}
use Rattle.store_layout.specs.Sheet.{IsContents}
use Rattle.store_layout.specs.Room.{Roomy}
use Rattle.store_scoring.specs.Scoring.{retired_bit, tally, none_retired}
use Rattle.store_scoring.specs.ScoringLaws.{none_append, none_parts, tally_none}
use Rattle.store_tallies.specs.Tallies.{range_tallies, lay_tallies}
use Rattle.store_tallies.specs.TalliesIn.{TalliesBut, TalliesIn}
use Rattle.store_tallies.specs.LayLaws.{length_range_tallies, numbered_tallies, range_tallies_holds}
use Rattle.store_tallies.specs.LaidLaws.{tallies_laid, leaves_counted}
use Rattle.store_rows.specs.Above.{PlacedBut}
use Rattle.store_sums.specs.LaidLaws.{numbers_only}
use Rattle.store_sums.specs.KeptLaws.{numbers_none}
use Rattle.store_sums.specs.PlacedLaws.{placed_but}
use Rattle.store_tallies.specs.NoneLaws.{none_tallies}
use Rattle.store_part.specs.Region.{leaves_of}
use Rattle.store_part.specs.Plan.{first_leaf, last_leaf, PartIn}
use Rattle.call_tallies.specs.Ready.{CountsReady, PartReady, StartsFrom}

-- ---- no boat is retired

-- None is after a change where none was and none comes in.
pub none_changed : (change : Change) (e : ℕ) (list : List ℕ) → none_retired list ≡ true → retired_bit e ≡ false → none_retired (change_list change e list) ≡ true
unfolding change_list none_retired
none_changed (Insert i) e list none scores =
    let parts = none_parts i list none in rw (none_append (take i list) (e ∷ drop i list), parts.0, scores, parts.1)
none_changed (Delete i) e list none scores =
    rw (none_append (take i list) (drop (suc i) list), (none_parts i list none).0, (none_parts (suc i) list none).1)

module _ (cap : Capacity) (roomy : Roomy cap) (list : List ℕ) (s : Shape) (w : IsContents cap list s) where
  abbrev tallies : List ℕ
  tallies = lay_tallies cap.counts list s

  -- The root's tally, at number 1, is that of the whole list.
  pub root_tally : get_or tallies 1 0 ≡ tally list
  root_tally =
      sym (number_order_root (height s.size) tallies)
      ∙ ap (λ (xs : List ℕ). get_or xs 1 0) (numbered_tallies cap roomy list s w)
      ∙ holds_count (range_tallies cap.counts list s) 1 (tally list) _ (range_tallies_holds cap roomy list s w)

  pub none_known : get_or tallies 1 0 ≡ length list → none_retired list ≡ true
  none_known all = tally_none list (sym root_tally ∙ all)

  -- The counts by range number tell the numbers of entries of the leaves.
  pub counts_ready : {m : ℕ} {slots counts : List ℕ} → s.size ≡ m → slots ≡ lay_slots cap.slots list s → counts ≡ shape_counts cap.counts (length list) s
      → CountsReady m slots counts
  counts_ready size laid are = record {
    room = rw (are, length_shape_counts cap.counts (length list) s, ← size) (roomy.counts_fit (length list) s.size w.room w.shape.allowed);
    counted = rw (← size, laid, are) (leaves_counted cap roomy list s w);
  }

  -- The tallies that are written.
  pub none_written : none_retired list ≡ true → {tallies' counts : List ℕ} → counts ≡ lay_counts cap.counts (length list) s → tallies' ≡ 0 ∷ drop 1 counts
      → tallies' ≡ tallies
  none_written none laid is = is ∙ rw laid (sym (none_tallies cap roomy list s w none))

  pub slots_written : {m : ℕ} {slots tallies' : List ℕ} → s.size ≡ m → slots ≡ lay_slots cap.slots list s
      → ((words : List ℕ) → TalliesIn m slots words → length words ≡ cap.counts → tallies' ≡ count_order (height m) words) → tallies' ≡ tallies
  unfolding lay_tallies
  slots_written size laid is =
      is (range_tallies cap.counts list s) (rw (← size, laid) (tallies_laid cap roomy list s w)) (length_range_tallies cap.counts list s) ∙ rw (← size)

-- Tallies that are right by range number are right in the order of the counts.
module _ {M : ℕ} {sl : List ℕ} (tallies : List ℕ) {numbers : List ℕ} (is : numbers ≡ number_order (height M) tallies) (room : 2 * 2 ^ height M ≤ length tallies) where
  pub tested_by_number : {r : Bool} → (r ≡ true) ↔ TalliesIn M sl numbers → (words : List ℕ) → TalliesIn M sl words → length words ≡ length tallies
      → r ≡ equal_lists tallies (count_order (height M) words)
  tested_by_number {r} tells words found size =
      let number : length numbers ≡ length words = ap length is ∙ length_number_order (height M) tallies ∙ sym size in
      tests_agree r (equal_lists tallies (count_order (height M) words))
      (λ all.
      let same : numbers ≡ words = numbers_only tally 0 M sl numbers words (tells.0 all) found number in
      let order : tallies ≡ count_order (height M) words = sym (count_number (height M) tallies room) ∙ ap (count_order (height M)) (sym is ∙ same) in
      rw (← order) (equal_itself tallies))
      (λ equal.
      let order = equal_sound tallies (count_order (height M) words) equal in
      let same : numbers ≡ words = is ∙ ap (number_order (height M)) order ∙ number_count (height M) words (omega (arith, size)) in
      tells.1 (rw same found))

-- ---- a part of the sheet

depth_zero : (d : ℕ) → 2 ^ d ≤ 1 → d ≡ 0
depth_zero zero h = refl
depth_zero (suc d) h = absurd (omega (arith, pow_pos d, rw (pow-succ' 2 d) at h))

-- A part with the range number 1 has all leaves.
whole_leaves : {M : ℕ} {part : Part} → PartIn M part → part.range ≡ 1 → leaves_of M part.depth ≡ 2 ^ height M
unfolding leaves_of
whole_leaves {M} {part} w one =
    let top : part.depth ≡ 0 = depth_zero part.depth (omega (arith, one, w.range_least)) in
    let all : height M - 0 ≡ height M = omega arith in rw (top, all)

module _ {M : ℕ} {part : Part} {sl tallies old : List ℕ} (w : PartReady M part sl tallies old) {start : List ℕ} (s : StartsFrom part.range old start) where
  -- The numbers from which the tallies are brought up to date are theirs but for the ranges that have a leaf of the part.
  pub start_tallies : TalliesBut M sl (first_leaf M part) (last_leaf M part + 1) start
  start_tallies =
      ⊎_elim
      (λ (one : part.range ≡ 1).
      let room = length old in
      let leaves : leaves_of M part.depth ≡ 2 ^ height M = whole_leaves w.inside one in
      let first : 1 * 2 ^ height M ≡ 2 ^ height M = omega arith in
      let end : 2 ^ height M + (2 ^ height M - 1) + 1 ≡ 2 * 2 ^ height M = omega (arith, pow_pos (height M)) in
      rw (s.whole one, leaves, one, first, end)
      (numbers_none tally 0 M sl (replicate room 0) (replicate_at 0 room 0) (λ k h. replicate_at 0 room k)))
      (λ (other : part.range ≢ 1). rw (s.other other) (w.kept other))
      (eq_or_ne part.range 1)

  pub start_length : length start ≡ length old
  start_length =
      ⊎_elim (λ (one : part.range ≡ 1). ap length (s.whole one) ∙ length-replicate (length old) 0)
      (λ (other : part.range ≢ 1). ap length (s.other other))
      (eq_or_ne part.range 1)

  -- Where it is not the whole sheet, only the numbers above its leaves are to be written.
  pub start_placed : {new : List ℕ} → TalliesIn M sl new → length old ≡ length new → 2 * 2 ^ height M ≤ length old → part.range ≢ 1
      → PlacedBut (height M) (first_leaf M part) (last_leaf M part) new tallies
  start_placed found size room other = placed_but (w.kept other) found (w.same other) size room
