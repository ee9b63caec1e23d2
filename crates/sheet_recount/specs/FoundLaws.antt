-- The counts and the tallies of the sheet that was found.
use Rattle.std.specs.Prelude.{◌≡◌, true, List, ◌∷◌, ℕ, ◌<◌, length, get_or, take, drop}
use Rattle.std.proofs.Common.{sym, ap, ◌∙◌, arith, pow_pos, drop-cons}
use Rattle.std.proofs.Math.Option.{some}
use Rattle.tree_sizes.specs.Sizes.{height, slots}
use Rattle.store_order.specs.CountOrder.{count_order}
use Rattle.store_layout.specs.declared.Capacity.{Capacity}
use Rattle.store_layout.specs.Room.{CapacityReady}
use Rattle.store_layout.specs.Leaf.{nonzero}
use Rattle.store_layout.specs.Decode.{Contents}
use Rattle.store_layout.proofs.SheetLaws.{size_known}
use Rattle.store_scoring.specs.Scoring.{none_retired}
use Rattle.store_tallies.specs.Tallies.{lay_tallies}
use Rattle.store_tallies.specs.TalliesIn.{TalliesIn}
use Rattle.call_outcomes.specs.Untallied.{store_of}
use Rattle.call_open.specs.Opening.{OpenedSheet}
use Rattle.call_open.specs.OpenedLaws as opened
use Rattle.call_tallies.specs.WriteLaws.{none_written, slots_written}
use Rattle.sheet_recount.specs.Recount.{TalliesOf}

module _ {cap : Capacity} (ready : CapacityReady cap) {sl fresh work : List ℕ} {n m : ℕ} (w : OpenedSheet cap (store_of sl fresh) n m work) where
  abbrev c : Contents
  c = w.contents

  pub fresh_number : length fresh ≡ cap.counts
  fresh_number = opened.counts_length ready w

  pub fresh_size : get_or fresh 0 0 ≡ m
  fresh_size = size_known cap (store_of sl fresh) c w.decoded ∙ w.size

  -- The counts from number 1 on are copied, and number 0 is the size parameter in both.
  pub same_counts : (counts : List ℕ) {counts' : List ℕ} → get_or counts 0 0 ≡ m → counts' ≡ get_or counts 0 0 ∷ drop 1 fresh → counts' ≡ fresh
  same_counts counts kept is =
      let some : 0 < length fresh = omega (arith, fresh_number, opened.levels_room ready w, pow_pos (height m)) in
      is ∙ ap (λ (x : ℕ). x ∷ drop 1 fresh) (kept ∙ sym fresh_size) ∙ sym (drop-cons fresh 0 0 some)

  -- Their tallies.
  tallies_of : {tallies : List ℕ} → tallies ≡ lay_tallies cap.counts c.list c.shape → TalliesOf cap sl fresh tallies
  tallies_of is = record {
    tallies_are = λ found e. let both : some c ≡ some found = sym w.decoded ∙ e in let same : c ≡ found = cc in rw (← same) is;
  }

  pub tallies_none : {tallies : List ℕ} → none_retired (nonzero (take (slots m) sl)) ≡ true → tallies ≡ 0 ∷ drop 1 fresh → TalliesOf cap sl fresh tallies
  tallies_none none copied =
      tallies_of
      (none_written cap ready.roomy c.list c.shape (opened.laid ready w).0 (ap none_retired (sym (opened.front_entries ready w)) ∙ none)
      (opened.counts_are ready w) copied)

  pub tallies_some : {tallies : List ℕ}
      → ((words : List ℕ) → TalliesIn m sl words → length words ≡ cap.counts → tallies ≡ count_order (height m) words) → TalliesOf cap sl fresh tallies
  tallies_some written = tallies_of (slots_written cap ready.roomy c.list c.shape (opened.laid ready w).0 w.size (opened.slots_are ready w) written)
