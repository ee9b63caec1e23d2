-- `is_sheet` meets its contract.
use Rattle.std.proofs.Common.{sym, ◌∙◌}
use Rattle.store_test.specs.StoreCheck.{slots_ready, sheet_broken, sheet_rest}
use Rattle.store_test.proofs.is_sheet.Goals as goal

pub returns-then-not-counts_are_shaped : goal.returns-then-not-counts_are_shaped
returns-then-not-counts_are_shaped c =
    sym (sheet_broken c.requires.ready _ _ c.requires.slots c.requires.counts c.counts_are_shaped.ensures c.if-not-counts_are_shaped.true)

pub slots_are_laid-requires : goal.slots_are_laid-requires
slots_are_laid-requires c =
    slots_ready c.requires.ready _ _ c.requires.slots c.requires.counts (sym c.counts_are_shaped.ensures ∙ c.if-not-counts_are_shaped.false)

pub returns : goal.returns
returns c =
    sym
    (sheet_rest c.requires.ready _ _ c.requires.slots c.requires.counts c.counts_are_shaped.ensures c.if-not-counts_are_shaped.false
    c.slots_are_laid.ensures)
