-- `spread_leaf` meets its contract. The loop's invariant: the leaf's slots up to i are written, and its later ones are as they were (`SoFar`).
use mathlib.Core.Path.{◌≡◌}
use lib.ListN.{length}
use Rattle.store_layout.specs.Pass.{SoFar}
use Rattle.store_layout.proofs.spread_leaf.Given as goal

abbrev pub invariant-loop-i : goal.invariant-loop-i
invariant-loop-i l = SoFar l.leaf l.list l.initial.slots l.i l.next l.slots × (length l.slots ≡ length l.initial.slots)
