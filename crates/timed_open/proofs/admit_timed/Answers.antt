-- `admit_timed` meets its contract.
use mathlib.Core.Path.{sym, ◌∙◌}
use Rattle.call_open.specs.PassedLaws.{passed_on}
use Rattle.timed_open.specs.TimedLook.{timed_by, timed_look}
use Rattle.timed_open.proofs.admit_timed.Goals as goal

pub is_timed-requires : goal.is_timed-requires
is_timed-requires c =
    record { most = c.requires.ready.most _ c.in_ok-sheet.was; slots = c.requires.ready.slots_room _ c.in_ok-sheet.was; levels = c.requires.ready.levels_room _ c.in_ok-sheet.was; right = c.requires.right }

pub returns-then-not-is_timed : goal.returns-then-not-is_timed
unfolding timed_look timed_by
returns-then-not-is_timed c = rw (c.in_ok-sheet.was, sym c.is_timed.ensures ∙ c.if-not-is_timed.true)

pub returns : goal.returns
unfolding timed_look timed_by
returns c = rw (c.in_ok-sheet.was, sym c.is_timed.ensures ∙ c.if-not-is_timed.false)

pub returns-in_err-sheet : goal.returns-in_err-sheet
unfolding timed_look
returns-in_err-sheet c = passed_on c.from_residual.ensures.1 ∙ rw c.in_err-sheet.was
