-- `write_table` meets its contract. The loop's invariant: the counts of the first i ranges are copied.
use mathlib.Core.Path.{◌≡◌}
use lib.ListN.{length}
use Rattle.store_order.specs.Copied.{put_to}
use Rattle.store_order.specs.Places.{places_from}
use Rattle.store_counts.proofs.write_table.Given as goal

abbrev pub invariant-loop-i : goal.invariant-loop-i
invariant-loop-i l =
    (length l.counts ≡ length l.initial.counts) × (l.counts ≡ put_to 1 (places_from 7 1 l.i) l.work l.initial.counts)
