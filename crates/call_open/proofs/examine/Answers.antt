-- `examine` meets its contract.
use mathlib.Core.Path.{sym, ◌∙◌}
use native.Mathlib.Omega.{arith}
use Rattle.call_open.specs.OpeningLaws.{slots_wrong, counts_wrong, open_wrong, open_large, two_counts, read_room, work_length, open_other, open_sheet}
use Rattle.call_open.proofs.examine.Goals as goal

pub returns-then-slots-cap : goal.returns-then-slots-cap
returns-then-slots-cap c = open_wrong _ _ _ (slots_wrong _ _ _ c.if-slots-cap.true) _

pub returns-then-counts-cap : goal.returns-then-counts-cap
returns-then-counts-cap c = open_wrong _ _ _ (counts_wrong _ _ _ c.if-counts-cap.true) _

pub bounds-counts-0 : goal.bounds-counts-0
bounds-counts-0 c =
    omega (arith, two_counts c.args.cap c.args.slots.now c.args.counts.now c.if-slots-cap.false c.if-counts-cap.false c.requires.capacity)

pub returns-then-greatest_size-m : goal.returns-then-greatest_size-m
returns-then-greatest_size-m c =
    open_large _ _ _ c.if-slots-cap.false c.if-counts-cap.false c.greatest_size.ensures c.if-greatest_size-m.true _

pub read_counts-requires : goal.read_counts-requires
read_counts-requires c =
    record { lengths = c.requires.room ∙ sym c.if-counts-cap.false; room = read_room c.args.cap c.args.slots.now c.args.counts.now c.if-slots-cap.false c.if-counts-cap.false c.requires.capacity c.greatest_size.ensures c.if-greatest_size-m.false }

pub is_sheet-requires : goal.is_sheet-requires
is_sheet-requires c =
    record { ready = c.requires.capacity; slots = c.if-slots-cap.false; counts = work_length _ c.args.slots.now c.args.counts.now c.if-slots-cap.false c.if-counts-cap.false c.requires.capacity c.greatest_size.ensures c.if-greatest_size-m.false c.read_counts.ensures }

pub returns-then-not-is_sheet : goal.returns-then-not-is_sheet
returns-then-not-is_sheet c =
    open_other _ _ _ c.if-slots-cap.false c.if-counts-cap.false c.requires.capacity c.greatest_size.ensures c.if-greatest_size-m.false c.read_counts.ensures c.is_sheet.ensures
    c.if-not-is_sheet.true

pub bounds-work-1 : goal.bounds-work-1
bounds-work-1 c =
    omega (arith, two_counts c.args.cap c.args.slots.now c.args.counts.now c.if-slots-cap.false c.if-counts-cap.false c.requires.capacity)

pub returns : goal.returns
returns c =
    open_sheet _ _ _ c.if-slots-cap.false c.if-counts-cap.false c.requires.capacity c.greatest_size.ensures c.if-greatest_size-m.false c.read_counts.ensures c.is_sheet.ensures
    c.if-not-is_sheet.false
