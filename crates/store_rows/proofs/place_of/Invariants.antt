-- `place_of` meets its contract. The loop's invariant: k is within the tree whose places begin at `at`.
use Rattle.store_rows.specs.Within.{Within}
use Rattle.store_rows.proofs.place_of.Given as goal

abbrev pub invariant-loop-levels : goal.invariant-loop-levels
invariant-loop-levels l = Within l.h l.k l.levels l.below l.at

abbrev pub decreases-loop-levels : goal.decreases-loop-levels
decreases-loop-levels l = l.levels
