-- `print_sheet` meets its contract.
use native.Mathlib.Omega.{arith}
use Rattle.call_outcomes.specs.Untallied.{store_of}
use Rattle.frame_replies.specs.WroteLaws.{wrote_room}
use Rattle.frame_replies.specs.DigitLaws.{length_sheet}
use Rattle.frame_print.specs.Printed.{leaves_most}
use Rattle.frame_print.specs.PrintLaws.{LeafNumbers, height_fits, leaf_numbers, sheet_empty, sheet_leaves}
use Rattle.frame_print.proofs.print_sheet.Goals.{After-power-leaves}
use Rattle.frame_print.proofs.print_sheet.Goals as goal

pub returns-then-m-eq0 : goal.returns-then-m-eq0
returns-then-m-eq0 c =
    sheet_empty _ _ (rw c.entry_count-n.ensures at c.put_sheet-next.ensures) c.if-m-eq0.true

pub power-leaves-requires : goal.power-leaves-requires
power-leaves-requires c =
    omega (arith, c.height.ensures, height_fits _ c.requires.sheet)

-- The numbers of the leaves, once they are found.
numbers : (c : After-power-leaves)
    → LeafNumbers
    (store_of c.args.slots.now
    c.args.counts.now)
    c.leaf_slots-s.result c.power-leaves.result
numbers c =
    leaf_numbers _ c.requires.sheet _ _ _ c.leaf_slots-s.ensures c.height.ensures c.power-leaves.ensures

pub print_leaves-requires : goal.print_leaves-requires
print_leaves-requires c =
    let n = numbers (goal.at.print_leaves-requires c).After-power-leaves in
    let most = leaves_most (store_of c.args.slots.now c.args.counts.now) in record { slots = n.slots_fit; counts = omega (arith, n.counts_fit, c.read_counts.auto.work, c.requires.sheet.counts_are); room = omega (arith, n.output_fits, wrote_room c.put_sheet-next.ensures 11 most (length_sheet _ _) (omega arith)) }

pub returns : goal.returns
returns c =
    sheet_leaves _ _ (rw c.entry_count-n.ensures at c.put_sheet-next.ensures) c.if-m-eq0.false (numbers (goal.at.returns c).After-power-leaves)
    c.read_counts.ensures c.print_leaves.ensures
