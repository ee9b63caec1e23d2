-- `scoring_among` meets its contract. The loop's invariant: of the entries from `from` on, the first `seen` have so many scoring ones, and those
-- behind them are those of the slots from `at` on.
use mathlib.Core.Path.{◌≡◌}
use Prim.Native.Nat.{◌-◌, ◌≤◌}
use lib.ListN.{length, take, drop}
use Rattle.store_layout.specs.Leaf.{nonzero}
use Rattle.store_scoring.specs.Scoring.{tally}
use Rattle.store_scoring.proofs.scoring_among.Given as goal

abbrev pub invariant-loop-seen : goal.invariant-loop-seen
invariant-loop-seen l =
    (l.seen ≤ l.count) × (drop l.seen (nonzero (drop l.from l.slots)) ≡ nonzero (drop l.at l.slots))
    × (l.scoring ≡ tally (take l.seen (nonzero (drop l.from l.slots))))

abbrev pub decreases-loop-seen : goal.decreases-loop-seen
decreases-loop-seen l = length l.slots - l.at
