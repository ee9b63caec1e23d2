-- `put_in` meets its contract.
use mathlib.Core.Path.{refl, sym, ◌∙◌, subst}
use native.Mathlib.Omega.{arith}
use Rattle.call_outcomes.specs.Plain.{plain_store_of}
use Rattle.call_outcomes.specs.Clubs.{clubs}
use Rattle.call_outcomes.proofs.ClubsLaws.{clubs_ready}
use Rattle.call_open.specs.OpenedLaws.{laid}
use Rattle.sheet_clubs.specs.SmallLaws.{Small, sheet_small}
use Rattle.sheet_recount.specs.Recount.{TalliesOf}
use Rattle.sheet_recount.specs.FoundLaws.{same_counts}
use Rattle.sheet_recount.specs.MendLaws.{put_laid}
use Rattle.sheet_mend.proofs.put_in.Goals.{After-tally}
use Rattle.sheet_mend.proofs.put_in.Goals as goal

-- The tallies of the sheet.
tallied : (c : After-tally) → let a = c.args in
    TalliesOf clubs a.slots.now a.fresh.now c.tally.new.tallies
tallied c = rw c.capacity-cap.ensures at c.tally.ensures

-- Counts and tallies have 16 bits.
small : (c : After-tally) → let a = c.args in
    Small (plain_store_of a.slots.now a.fresh.now c.tally.new.tallies)
small c =
    let w = c.requires.sheet in
    subst Small (sym (put_laid clubs_ready w refl (tallied c))) (sheet_small w.contents.list w.contents.shape (laid clubs_ready w).0)

pub tally-requires : goal.tally-requires
tally-requires c =
    rw c.capacity-cap.ensures record { ready = clubs_ready; sheet = c.requires.sheet; numbers = refl; tallies = refl }

pub narrow_ranges-requires : goal.narrow_ranges-requires
narrow_ranges-requires c =
    record { lengths = c.requires.counts ∙ sym (small (goal.at.narrow_ranges-requires c).After-tally).counts_number; some = omega (arith, (small (goal.at.narrow_ranges-requires c).After-tally).counts_number); fit = (small (goal.at.narrow_ranges-requires c).After-tally).counts }

pub narrow-requires : goal.narrow-requires
narrow-requires c =
    record { lengths = c.requires.tallies ∙ sym (small (goal.at.narrow-requires c).After-tally).tallies_number; fit = (small (goal.at.narrow-requires c).After-tally).tallies }

pub returns : goal.returns
returns c =
    (same_counts clubs_ready c.requires.sheet c.args.counts.now c.requires.kept c.narrow_ranges.ensures, rw c.narrow.ensures (tallied (goal.at.returns c).After-tally))
