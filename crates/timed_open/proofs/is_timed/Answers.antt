-- `is_timed` meets its contract.
use mathlib.Core.Path.{sym, ◌∙◌}
use Rattle.timed_open.proofs.is_timed.Goals as goal

pub returns-then-not-entries_rise : goal.returns-then-not-entries_rise
returns-then-not-entries_rise c =
    rw (← c.slots.ensures, sym c.entries_rise.ensures ∙ c.if-not-entries_rise.true)

pub returns : goal.returns
returns c =
    rw (← c.slots.ensures, sym c.entries_rise.ensures ∙ c.if-not-entries_rise.false) c.is_balance.ensures
