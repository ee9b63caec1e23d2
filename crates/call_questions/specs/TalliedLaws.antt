-- The tallies of a plain sheet by range number: they are those of the ranges of its slots, and the root's is that of the whole list.
use Rattle.std.specs.Prelude.{Result, Ok, ◌≡◌, List, ℕ, ◌*◌, ◌^◌, ◌≤◌, length, get_or}
use Rattle.std.proofs.Common.{◌∙◌}
use Rattle.std.proofs.Math.Path.{ap}
use Rattle.tree_sizes.specs.Sizes.{height}
use Rattle.tree_counts.specs.CountLaws.{holds_count}
use Rattle.store_layout.specs.Layout.{Store, lay_slots, lay_out}
use Rattle.store_layout.specs.Leaf.{nonzero}
use Rattle.store_scoring.specs.Scoring.{tally}
use Rattle.store_tallies.specs.TalliesIn.{TalliesIn}
use Rattle.store_tallies.specs.TallyTree.{tally_tree}
use Rattle.store_tallies.specs.LayLaws.{length_range_tallies, range_tallies_holds}
use Rattle.store_tallies.specs.LaidLaws.{tallies_laid}
use Rattle.call_outcomes.specs.Untallied.{store_of}
use Rattle.call_outcomes.specs.declared.Cause.{Cause}
use Rattle.call_open.specs.declared.Opened.{Opened}
use Rattle.call_questions.specs.Asked.{Tallied, ByNumber}
use Rattle.call_questions.specs.StartLaws.{decoded_list, laid, ranges_room}

pub by_number : {found : Result Opened Cause} {slots work words : List ℕ} {sheet : Opened} → Tallied found slots work words → found ≡ Ok sheet
    → ByNumber sheet.m slots work words
by_number {sheet = sheet} t is = record {
  cap = t.readable.cap;
  counts = t.readable.counts;
  entries = sheet.n;
  ready = t.readable.ready;
  sheet = t.readable.sheet sheet is;
  tallies = t.tallies sheet is;
}

module _ {m : ℕ} {slots work words : List ℕ} (t : ByNumber m slots work words) where
  pub numbers_room : 2 * 2 ^ height m ≤ length words
  numbers_room =
      rw (t.tallies, length_range_tallies t.cap.counts t.sheet.contents.list t.sheet.contents.shape) (ranges_room t.sheet t.ready)

  laid_slots : slots ≡ lay_slots t.cap.slots t.sheet.contents.list t.sheet.contents.shape
  unfolding lay_out
  laid_slots = ap (λ (x : Store). x.slots) (laid t.sheet).1

  pub ranges_tallied : TalliesIn m slots words
  ranges_tallied =
      rw (t.tallies, laid_slots, ← t.sheet.size)
      (tallies_laid t.cap t.ready.roomy t.sheet.contents.list t.sheet.contents.shape (laid t.sheet).0)

  pub root_tallied : get_or words 1 0 ≡ tally (nonzero slots)
  root_tallied =
      let list = t.sheet.contents.list in
      let shape = t.sheet.contents.shape in
      ap (λ (xs : List ℕ). get_or xs 1 0) t.tallies
      ∙ holds_count _ 1 (tally list) (tally_tree list shape.tree) (range_tallies_holds t.cap t.ready.roomy list shape (laid t.sheet).0)
      ∙ ap tally (decoded_list t.cap (store_of slots t.counts) t.sheet.contents t.sheet.decoded)
