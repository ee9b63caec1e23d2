-- `copy_rest` meets its contract. The loop's invariant: the numbers up to i that are no range's are copied.
use Prim.Native.Nat.{◌≤◌, ◌<◌}
use lib.ListN.{length}
use Rattle.store_order.specs.Copied.{RestCopied}
use Rattle.store_counts.proofs.copy_rest.Given as goal

abbrev pub invariant-loop-i : goal.invariant-loop-i
invariant-loop-i l = (0 < l.i) × (l.i ≤ length l.from) × RestCopied l.start l.i l.from l.to
