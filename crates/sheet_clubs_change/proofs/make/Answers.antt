-- `make` meets its contract.
use mathlib.Core.Path.{◌≡◌, refl, sym, ◌∙◌}
use native.Mathlib.Omega.{arith}
use Rattle.call_outcomes.specs.Untallied.{store_of}
use Rattle.call_outcomes.specs.Clubs.{clubs}
use Rattle.call_outcomes.proofs.ClubsLaws.{clubs_ready}
use Rattle.call_change.specs.SheetChange.{written}
use Rattle.call_change.specs.SheetChangeLaws.{few, in_reach, update_ready, write_ready, before_few, change_ended}
use Rattle.sheet_change.specs.Made.{PartMade}
use Rattle.sheet_change.specs.PlainReady.{LeftSheet}
use Rattle.sheet_change.specs.TallyLaws.{sheet_ready, counts_before, tallies_number, old_room, left_sheet, tallies_after, part_made, plain_made_by_slots, plain_made_by_counts, plain_ended}
use Rattle.sheet_clubs_change.specs.NarrowLaws.{left_counts, left_number}
use Rattle.sheet_clubs_change.proofs.make.Goals.{After-write_small, then-scoring, else-scoring}
use Rattle.sheet_clubs_change.proofs.make.Goals as goal

-- Slots and counts with the change written.
written_is : (c : After-write_small) → let a = c.args in
    store_of c.write_small.new.slots c.write_small.new.counts
    ≡ written (record { old = a.sheet.m; new = c.in_ok-updated.updated.m; part = c.in_ok-updated.updated.part; change = a.change; entry = a.entry }) c.update.new.counts
    (store_of a.slots.now a.counts.now)
written_is c = rw c.requires.same at c.write_small.ensures

-- The sheet that is left.
left : (c : After-write_small) → let a = c.args in
    LeftSheet clubs c.in_ok-updated.updated.m c.write_small.new.slots c.write_small.new.counts a.tallies.now
left c = left_sheet clubs_ready c.requires.sheet _ _ _ c.update.ensures _ _ _ c.in_ok-updated.was (written_is c)

-- What the change leaves outside of its part.
made_in : (c : After-write_small) → let a = c.args in
    PartMade a.sheet.m c.in_ok-updated.updated.m c.in_ok-updated.updated.part a.slots.now c.write_small.new.slots c.write_small.new.counts
made_in c = part_made clubs_ready c.requires.sheet _ _ _ c.update.ensures _ _ _ c.in_ok-updated.was (written_is c)

pub count_after-after-requires : goal.count_after-after-requires
count_after-after-requires c =
    let p = sheet_ready clubs_ready c.requires.sheet in
    (in_reach clubs_ready p, omega (arith, few clubs_ready p))

pub all_score-scoring-requires : goal.all_score-scoring-requires
all_score-scoring-requires c = omega (arith, tallies_number clubs_ready c.requires.sheet)

pub update-requires : goal.update-requires
update-requires c = update_ready clubs_ready (sheet_ready clubs_ready c.requires.sheet)

pub write_small-requires : goal.write_small-requires
write_small-requires c =
    let p = sheet_ready clubs_ready c.requires.sheet in record { ready = rw c.requires.same (write_ready clubs_ready p _ _ _ c.update.ensures _ _ _ c.in_ok-updated.was); most = before_few clubs_ready p _ _ _ c.update.ensures _ _ _ c.in_ok-updated.was }

pub narrow-requires : goal.narrow-requires
narrow-requires c =
    record { lengths = counts_before clubs_ready c.requires.sheet ∙ sym (left_number (left (goal.at.narrow-requires c).After-write_small)); fit = left_counts (left (goal.at.narrow-requires c).After-write_small) }

pub narrow_counts-requires : goal.narrow_counts-requires
narrow_counts-requires c =
    let many = left_number (left (goal.at.narrow_counts-requires c).After-write_small) in
    record { lengths = tallies_number clubs_ready c.requires.sheet ∙ sym many; some = omega (arith, many); fit = left_counts (left (goal.at.narrow_counts-requires c).After-write_small) }

pub write_tallies-requires : goal.write_tallies-requires
write_tallies-requires c =
    let pre = c.requires.sheet in
    record { old = old_room clubs_ready pre; tallies = tallies_number clubs_ready pre; left = left (goal.at.write_tallies-requires c).After-write_small; ready = tallies_after clubs_ready pre _ _ _ c.update.ensures _ _ _ c.in_ok-updated.was (written_is (goal.at.write_tallies-requires c).After-write_small) refl }

pub returns : goal.returns
returns c =
    let made = (goal.at.returns c).After-write_small in
    rw c.narrow.ensures (
      elim c.if-scoring.branch [
        | then-scoring w ↦
            rw w.tallies-is
            (plain_made_by_counts clubs_ready c.requires.sheet _ _ _ c.update.ensures _ _ _ c.in_ok-updated.was (written_is made)
            (sym c.all_score-scoring.ensures ∙ w.if-scoring.true) _ c.count_after-after.ensures w.narrow_counts.ensures)
        | else-scoring w ↦
            rw w.tallies-is
            (plain_made_by_slots clubs_ready c.requires.sheet _ _ _ c.update.ensures _ _ _ c.in_ok-updated.was (written_is made) _
            c.count_after-after.ensures w.write_tallies.ensures)
      ],
      made_in made,
    )

pub returns-in_err-updated : goal.returns-in_err-updated
returns-in_err-updated c =
    let pre = c.requires.sheet in
    rw c.from_residual.ensures (plain_ended clubs_ready pre _ (change_ended clubs_ready (sheet_ready clubs_ready pre) _ _ _ c.update.ensures c.in_err-updated.was), tt)
