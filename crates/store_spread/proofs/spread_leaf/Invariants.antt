-- `spread_leaf` meets its contract. The loop's invariant: the leaf's slots up to i are written, and its later ones are as they were.
use mathlib.Core.Path.{◌≡◌}
use lib.ListN.{length}
use Rattle.store_layout.specs.Pass.{written_to}
use Rattle.store_spread.proofs.spread_leaf.Given as goal

abbrev pub invariant-loop-i : goal.invariant-loop-i
invariant-loop-i l =
    (l.slots ≡ written_to l.leaf l.list l.i l.initial.slots) × (length l.slots ≡ length l.initial.slots)
