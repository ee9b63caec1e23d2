-- `is_tallied` meets its contract.
use mathlib.Core.Path.{refl, sym, ◌∙◌}
use native.Mathlib.Omega.{arith}
use Rattle.call_outcomes.proofs.ClubsLaws.{clubs_ready}
use Rattle.call_open.specs.OpenedLaws.{size_small}
use Rattle.call_tallies.specs.TestLaws.{opened_counts}
use Rattle.sheet_open.specs.TestedLaws.{slots_room, counts_number, tallies_ready, tested_by_counts, tested_out, tested_by_slots}
use Rattle.sheet_clubs.proofs.is_tallied.Goals as goal

pub slots-requires : goal.slots-requires
slots-requires c = omega (arith, size_small clubs_ready c.requires.sheet)

pub none_retired-requires : goal.none_retired-requires
none_retired-requires c =
    record { room = rw c.slots.ensures (slots_room clubs_ready c.requires.sheet) }

pub returns-then-not-none_retired : goal.returns-then-not-none_retired
returns-then-not-none_retired c =
    tested_out clubs_ready c.requires.sheet c.args.tallies.now c.if-root-sheet.true
    (rw (← c.slots.ensures) (sym c.none_retired.ensures ∙ c.if-not-none_retired.true))

pub are_counts-requires : goal.are_counts-requires
are_counts-requires c =
    record { lengths = c.requires.tallies ∙ sym (counts_number clubs_ready c.requires.sheet); some = omega (arith, c.requires.tallies) }

pub returns-then-root-sheet : goal.returns-then-root-sheet
returns-then-root-sheet c =
    tested_by_counts clubs_ready c.requires.sheet c.args.tallies.now
    (rw (← c.slots.ensures) (sym c.none_retired.ensures ∙ c.if-not-none_retired.false)) c.are_counts.ensures

pub are_tallies-requires : goal.are_tallies-requires
are_tallies-requires c =
    rw (c.widen.ensures, c.requires.tallies) record { ready = tallies_ready clubs_ready c.requires.sheet; counted = opened_counts clubs_ready c.requires.sheet; numbers = refl }

pub returns : goal.returns
returns c =
    tested_by_slots clubs_ready c.requires.sheet c.args.tallies.now (rw (c.widen.ensures, c.requires.tallies) at c.are_tallies.ensures.0)
