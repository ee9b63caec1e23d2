-- `recount` meets its contract.
use mathlib.Core.Path.{◌≡◌, sym, ap, ◌∙◌}
use Prim.Native.Nat.{ℕ, ◌-◌, ◌*◌, ◌≤◌}
use native.Mathlib.Omega.{arith}
use lib.ListN.{length, length-replicate}
use Rattle.sheet_recount.specs.RecountLaws.{recounted_large, slots_room, counts_room, recounted}
use Rattle.sheet_recount.proofs.recount.Goals.{Else-greatest_size-m, Start}
use Rattle.sheet_recount.proofs.recount.Goals as goal

-- The work array has as many numbers as there are counts.
work_length : (c : Start) → length c.args.work.now ≡ c.args.cap.counts
work_length c = ap length c.requires.work ∙ length-replicate {A = ℕ} c.args.cap.counts 0

-- The size parameter is not above the greatest.
within : (c : Else-greatest_size-m) → let a = c.args in a.m ≤ 2 * a.cap.entries - 1
within c = omega (arith, c.if-greatest_size-m.false, c.greatest_size.ensures)

pub returns-then-greatest_size-m : goal.returns-then-greatest_size-m
returns-then-greatest_size-m c =
    recounted_large c.args.cap c.args.slots.now c.args.m (omega (arith, c.if-greatest_size-m.true, c.greatest_size.ensures)) _ _

pub count_entries-requires : goal.count_entries-requires
count_entries-requires c =
    record { most = omega (arith, within (goal.at.count_entries-requires c).Else-greatest_size-m, c.requires.ready.few); slots = slots_room c.requires.ready c.args.slots.now c.args.m c.requires.slots (within (goal.at.count_entries-requires c).Else-greatest_size-m); room = rw (work_length (goal.at.count_entries-requires c).Start) (counts_room c.requires.ready c.args.slots.now c.args.m c.requires.slots (within (goal.at.count_entries-requires c).Else-greatest_size-m)); zeros = rw (work_length (goal.at.count_entries-requires c).Start) c.requires.work }

pub write_counts-requires : goal.write_counts-requires
write_counts-requires c =
    record { lengths = c.requires.fresh ∙ sym (c.count_entries.ensures.1 ∙ work_length (goal.at.write_counts-requires c).Start); room = rw (c.count_entries.ensures.1 ∙ work_length (goal.at.write_counts-requires c).Start) (counts_room c.requires.ready c.args.slots.now c.args.m c.requires.slots (within (goal.at.write_counts-requires c).Else-greatest_size-m)) }

pub examine-requires : goal.examine-requires
examine-requires c =
    record { capacity = c.requires.ready; room = c.count_entries.ensures.1 ∙ work_length (goal.at.examine-requires c).Start }

pub returns : goal.returns
returns c =
    recounted c.requires.ready c.args.slots.now c.args.m c.requires.slots (within (goal.at.returns c).Else-greatest_size-m) _ c.count_entries.ensures.0
    (c.count_entries.ensures.1 ∙ work_length (goal.at.returns c).Start) _ c.write_counts.ensures _ _ c.examine.ensures c.or.ensures
