-- `tally` meets its contract.
use mathlib.Core.Path.{sym, ◌∙◌}
use native.Mathlib.Omega.{arith}
use lib.Pow.{pow_pos}
use Rattle.tree_sizes.specs.Sizes.{height}
use Rattle.call_open.specs.OpenedLaws.{size_small, slots_room, levels_room}
use Rattle.call_tallies.specs.TestLaws.{opened_counts}
use Rattle.sheet_open.specs.TestedLaws.{tallies_ready}
use Rattle.sheet_recount.specs.FoundLaws.{fresh_number, tallies_none, tallies_some}
use Rattle.sheet_recount.proofs.tally.Goals as goal

pub slots-requires : goal.slots-requires
slots-requires c = omega (arith, size_small c.requires.ready c.requires.sheet)

pub none_retired-requires : goal.none_retired-requires
none_retired-requires c =
    record { room = rw c.slots.ensures (slots_room c.requires.ready c.requires.sheet) }

pub copy_counts-requires : goal.copy_counts-requires
copy_counts-requires c =
    record { lengths = c.requires.tallies ∙ sym (fresh_number c.requires.ready c.requires.sheet); some = omega (arith, c.requires.tallies, levels_room c.requires.ready c.requires.sheet, pow_pos (height c.args.sheet.m)) }

pub fresh_tallies-requires : goal.fresh_tallies-requires
fresh_tallies-requires c =
    rw c.requires.tallies record { ready = tallies_ready c.requires.ready c.requires.sheet; counted = opened_counts c.requires.ready c.requires.sheet; numbers = c.requires.numbers }

pub returns-then-none_retired : goal.returns-then-none_retired
returns-then-none_retired c =
    tallies_none c.requires.ready c.requires.sheet (rw (← c.slots.ensures) (sym c.none_retired.ensures ∙ c.if-none_retired.true)) c.copy_counts.ensures

pub returns-else-none_retired : goal.returns-else-none_retired
returns-else-none_retired c =
    tallies_some c.requires.ready c.requires.sheet (rw c.requires.tallies at c.fresh_tallies.ensures)
