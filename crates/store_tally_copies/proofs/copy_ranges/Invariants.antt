-- `copy_ranges` meets its contract. The loop's invariant: the numbers from 1 on before k are copied.
use Prim.Native.Nat.{◌<◌}
use lib.ListN.{get_or}
use Rattle.store_tally_copies.specs.CopyLaws.{CopiedTo}
use Rattle.store_tally_copies.proofs.copy_ranges.Given as goal

abbrev pub invariant-loop-k : goal.invariant-loop-k
invariant-loop-k l = (0 < l.k) × CopiedTo (get_or l.initial.to 0 0) l.from l.k l.to
