-- `group_first` meets its contract. The loop's invariant is `Back`: there are `first` scoring boats before the slot `at`, and the group of the boat
-- goes on to the last of them where the retired boats behind that one bear the bit.
use mathlib.Core.Bool.{true}
use Rattle.store_ties.specs.Steps.{entries_before, end_tied, Back}
use Rattle.store_ties.proofs.group_first.Given as goal

abbrev pub invariant-loop-first : goal.invariant-loop-first
invariant-loop-first l = Back l.slots l.before l.at l.first (end_tied true (entries_before l.slots l.at))

abbrev pub decreases-loop-first : goal.decreases-loop-first
decreases-loop-first l = l.at
