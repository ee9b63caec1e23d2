-- The counts and the tallies of the sheet that a change leaves have 16 bits.
use Rattle.std.specs.Prelude.{◌≡◌, List, ℕ, ◌^◌, ◌<◌, length}
use Rattle.std.proofs.Common.{sym, ◌∙◌, ap, subst}
use Rattle.base.specs.Lists.{Every}
use Rattle.tree_sizes.specs.Sizes.{height}
use Rattle.store_order.specs.CountOrder.{count_order}
use Rattle.store_layout.specs.Layout.{Store, lay_out}
use Rattle.store_tallies.specs.TalliesIn.{TalliesIn}
use Rattle.store_tallies.specs.LayLaws.{length_lay_tallies}
use Rattle.call_outcomes.specs.Clubs.{clubs}
use Rattle.sheet_change.specs.PlainReady.{LeftSheet}
use Rattle.sheet_clubs.specs.SmallLaws.{sheet_small}

module _ {m : ℕ} {slots counts tallies : List ℕ} (w : LeftSheet clubs m slots counts tallies) where
  counts_are : counts ≡ (lay_out clubs w.list w.shape).counts
  counts_are = ap (λ (t : Store). t.counts) w.laid

  pub left_counts : Every (λ c. c < 2 ^ 16) counts
  left_counts = subst (Every (λ c. c < 2 ^ 16)) (sym counts_are) (sheet_small w.list w.shape w.contents).counts

  pub left_number : length counts ≡ 256
  left_number = ap length counts_are ∙ (sheet_small w.list w.shape w.contents).counts_number

  module _ {new : List ℕ} (is : (words : List ℕ) → TalliesIn m slots words → length words ≡ length tallies → new ≡ count_order (height m) words) where
    pub left_tallies : Every (λ c. c < 2 ^ 16) new
    left_tallies = subst (Every (λ c. c < 2 ^ 16)) (sym (w.tallied is)) (sheet_small w.list w.shape w.contents).tallies

    pub left_tallies_number : length new ≡ 256
    left_tallies_number = ap length (w.tallied is) ∙ length_lay_tallies 256 w.list w.shape
