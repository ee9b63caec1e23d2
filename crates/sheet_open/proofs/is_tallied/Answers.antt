-- `is_tallied` meets its contract.
use mathlib.Core.Path.{refl, sym, ◌∙◌}
use native.Mathlib.Omega.{arith}
use lib.Pow.{pow_pos}
use Rattle.base.specs.BoolLaws.{not_both}
use Rattle.tree_sizes.specs.Sizes.{height}
use Rattle.call_open.specs.OpenedLaws.{size_small, levels_room}
use Rattle.call_tallies.specs.TestLaws.{opened_counts}
use Rattle.sheet_open.specs.TestedLaws.{slots_room, counts_number, work_number, tallies_ready, numbers_copied, tested_by_counts, tested_out, tested_by_slots}
use Rattle.sheet_open.proofs.is_tallied.Goals as goal

-- There are tallies.
pub root_tally-requires : goal.root_tally-requires
root_tally-requires c =
    omega (arith, c.requires.tallies, levels_room c.requires.ready c.requires.sheet, pow_pos (height c.args.sheet.m))

pub slots-requires : goal.slots-requires
slots-requires c = omega (arith, size_small c.requires.ready c.requires.sheet)

pub none_retired-requires : goal.none_retired-requires
none_retired-requires c =
    record { room = rw c.slots.ensures (slots_room c.requires.ready c.requires.sheet) }

pub returns-then-not-none_retired : goal.returns-then-not-none_retired
returns-then-not-none_retired c = (
  tested_out c.requires.ready c.requires.sheet c.args.tallies.now (sym c.root_tally.ensures ∙ c.if-root_tally-sheet.true)
      (rw (← c.slots.ensures) (sym c.none_retired.ensures ∙ c.if-not-none_retired.true)),
  λ e. absurd (not_both e refl),
)

pub copy_counts-requires : goal.copy_counts-requires
copy_counts-requires c =
    record { lengths = c.requires.numbers ∙ sym (work_number c.requires.ready c.requires.sheet); some = omega (arith, c.requires.numbers, levels_room c.requires.ready c.requires.sheet, pow_pos (height c.args.sheet.m)) }

pub are_counts-requires : goal.are_counts-requires
are_counts-requires c =
    record { lengths = c.requires.tallies ∙ sym (counts_number c.requires.ready c.requires.sheet); some = omega (arith, c.requires.tallies, levels_room c.requires.ready c.requires.sheet, pow_pos (height c.args.sheet.m)) }

pub returns-then-root_tally-sheet : goal.returns-then-root_tally-sheet
returns-then-root_tally-sheet c =
    let w = c.requires.sheet in (
      tested_by_counts c.requires.ready w c.args.tallies.now
          (rw (← c.slots.ensures) (sym c.none_retired.ensures ∙ c.if-not-none_retired.false)) c.are_counts.ensures,
      numbers_copied c.requires.ready w c.args.tallies.now c.are_counts.ensures c.copy_counts.ensures,
    )

pub are_tallies-requires : goal.are_tallies-requires
are_tallies-requires c =
    rw c.requires.tallies record { ready = tallies_ready c.requires.ready c.requires.sheet; counted = opened_counts c.requires.ready c.requires.sheet; numbers = c.requires.numbers }

pub returns : goal.returns
returns c = (
  tested_by_slots c.requires.ready c.requires.sheet c.args.tallies.now (rw c.requires.tallies at c.are_tallies.ensures.0),
  λ e. c.are_tallies.ensures.1,
)
