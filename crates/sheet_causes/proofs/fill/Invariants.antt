-- The loop of `fill` ends when the next entry is 1,025.
use Rattle.std.proofs.Common.{◌-◌}
use Rattle.sheet_causes.proofs.fill.Given as goal

abbrev pub decreases-loop-entry : goal.decreases-loop-entry
decreases-loop-entry l = 1025 - l.entry
