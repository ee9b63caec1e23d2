-- `taken_slots` meets its contract. The loop's invariant: the first i slots of each third are told.
use Rattle.store_masks.specs.ThirdsLaws.{Told}
use Rattle.store_masks.proofs.taken_slots.Given as goal

abbrev pub invariant-loop-i : goal.invariant-loop-i
invariant-loop-i l =
    Told l.slots l.from l.i l.left × Told l.slots l.second l.i l.middle × Told l.slots l.third l.i l.right
