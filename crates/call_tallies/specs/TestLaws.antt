-- The tests of the tallies of a sheet: by the counts where no boat is retired, and by the slots.
use Rattle.std.proofs.Math.Path.{◌≡◌, refl, sym, ap}
use Rattle.std.proofs.Common.{◌∙◌, subst, arith}
use Rattle.std.specs.Prelude.{Bool, ℕ, length, take}
use Rattle.std.proofs.Math.Bool.{true, false}
use mathlib.Core.List.{List, ◌∷◌}
use Rattle.std.proofs.Math.ListN.{get_or, drop}
use Rattle.base.specs.Lists.{equal_lists}
use Rattle.base.specs.ListLaws.{equal_sound}
use Rattle.tree_sizes.specs.Sizes.{height, slots}
use Rattle.store_order.specs.CountOrder.{count_order}
use Rattle.store_layout.specs.declared.Capacity.{Capacity}
use Rattle.store_layout.specs.Leaf.{nonzero}
use Rattle.store_layout.specs.Room.{CapacityReady}
use Rattle.store_layout.specs.Decode.{numbered}
use Rattle.store_layout.proofs.SheetLaws.{numbered_lay_out}
use Rattle.store_scoring.specs.Scoring.{none_retired}
use Rattle.store_tallies.specs.Tallies.{range_tallies, lay_tallies}
use Rattle.store_tallies.specs.TalliesIn.{TalliesIn}
use Rattle.store_tallies.specs.LaidLaws.{tallies_laid, tallies_ordered}
use Rattle.store_tallies.specs.NoneLaws.{none_tallies}
use Rattle.call_outcomes.specs.Untallied.{store_of}
use Rattle.call_outcomes.specs.Slice.{slice_test}
use Rattle.call_outcomes.specs.Plain.{tally_slice}
use Rattle.call_open.specs.Opening.{OpenedSheet}
use Rattle.call_open.specs.OpenedLaws as opened
use Rattle.call_tallies.specs.Ready.{CountsReady}
use Rattle.call_tallies.specs.WriteLaws.{none_known, counts_ready}

-- The slots give the tallies of the contents.
pub opened_tallies : {cap : Capacity} (ready : CapacityReady cap) {sl counts work : List ℕ} {n m : ℕ} (w : OpenedSheet cap (store_of sl counts) n m work)
    → TalliesIn m sl (range_tallies cap.counts w.contents.list w.contents.shape)
opened_tallies {cap} ready {sl} w =
    let words = range_tallies cap.counts w.contents.list w.contents.shape in
    subst (λ (k : ℕ). TalliesIn k sl words) w.size
    (subst (λ (xs : List ℕ). TalliesIn w.contents.shape.size xs words) (sym (opened.slots_are ready w))
    (tallies_laid cap ready.roomy w.contents.list w.contents.shape (opened.laid ready w).0))

-- The counts by range number tell the numbers of entries of the leaves.
pub opened_counts : {cap : Capacity} (ready : CapacityReady cap) {sl counts work : List ℕ} {n m : ℕ} (w : OpenedSheet cap (store_of sl counts) n m work)
    → CountsReady m sl work
opened_counts {cap} ready w =
    let l = opened.laid ready w in
    counts_ready cap ready.roomy w.contents.list w.contents.shape l.0 w.size (opened.slots_are ready w)
    (w.copied ∙ ap numbered l.1 ∙ numbered_lay_out cap w.contents.list w.contents.shape l.0 ready.roomy)

module _ {cap : Capacity} (ready : CapacityReady cap) {sl counts work : List ℕ} {n m : ℕ} (w : OpenedSheet cap (store_of sl counts) n m work)
    (tallies : List ℕ) where
  -- With no retired boat the tallies are the counts, with 0 at number 0.
  pub none_test : none_retired (nonzero (take (slots m) sl)) ≡ true → equal_lists tallies (0 ∷ drop 1 counts) ≡ slice_test (tally_slice cap) tallies w.contents
  unfolding slice_test
  none_test none =
      ap (equal_lists tallies)
      (ap (λ (xs : List ℕ). 0 ∷ drop 1 xs) (opened.counts_are ready w)
      ∙ sym (none_tallies cap ready.roomy _ _ (opened.laid ready w).0 (ap none_retired (sym (opened.front_entries ready w)) ∙ none)))

  -- With one, the tallies are others where the root's tally is the number of all entries.
  pub some_test : get_or tallies 1 0 ≡ n → none_retired (nonzero (take (slots m) sl)) ≡ false → slice_test (tally_slice cap) tallies w.contents ≡ false
  unfolding slice_test
  some_test root out = go (equal_lists tallies (lay_tallies cap.counts w.contents.list w.contents.shape)) refl
    where
      go : (b : Bool) → equal_lists tallies (lay_tallies cap.counts w.contents.list w.contents.shape) ≡ b
          → equal_lists tallies (lay_tallies cap.counts w.contents.list w.contents.shape) ≡ false
      go false e = e
      go true e =
          let same = equal_sound tallies (lay_tallies cap.counts w.contents.list w.contents.shape) e in
          let none = none_known cap ready.roomy w.contents.list w.contents.shape (opened.laid ready w).0
          (ap (λ (xs : List ℕ). get_or xs 1 0) (sym same) ∙ root ∙ sym w.count) in
          let both : true ≡ false = sym none ∙ ap none_retired (sym (opened.front_entries ready w)) ∙ out in
          let z : ◌≡◌ {A = ℕ} 0 1 = cc in absurd (omega arith)

  -- Otherwise they are what the slots give, in the order of the counts.
  pub slots_test_lem : (words : List ℕ) → TalliesIn m sl words → length words ≡ cap.counts
      → equal_lists tallies (count_order (height m) words) ≡ slice_test (tally_slice cap) tallies w.contents
  unfolding slice_test
  slots_test_lem words found size =
      ap (equal_lists tallies)
      (rw (← w.size)
      (tallies_ordered cap ready.roomy _ _ (opened.laid ready w).0 words (rw (← opened.slots_are ready w, w.size) found) size))
