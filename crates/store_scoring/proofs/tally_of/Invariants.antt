-- `tally_of` meets its contract. The loop's invariant: the first slots have so many retired boats, and the others score.
use mathlib.Core.Path.{◌≡◌}
use Prim.Native.Nat.{◌+◌}
use lib.ListN.{length, take}
use Rattle.store_layout.specs.Leaf.{nonzero}
use Rattle.store_scoring.specs.Scoring.{tally}
use Rattle.store_scoring.proofs.tally_of.Given as goal

abbrev pub invariant-loop-slot : goal.invariant-loop-slot
invariant-loop-slot l =
    l.retired + tally (nonzero (take l.slot-index l.slot-items)) ≡ length (nonzero (take l.slot-index l.slot-items))
