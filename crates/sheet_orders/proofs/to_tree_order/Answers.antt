-- `to_tree_order` meets its contract.
use mathlib.Core.Path.{sym, ◌∙◌}
use Prim.Native.Nat.{◌^◌, ◌<◌}
use native.Mathlib.Omega.{arith}
use lib.ListN.{get_or}
use Rattle.base.specs.Lists.{Every}
use Rattle.base.specs.ListLaws.{every_from}
use Rattle.tree_sizes.specs.Sizes.{height}
use Rattle.store_order.proofs.CountOrderLaws.{every_count_order}
use Rattle.call_outcomes.specs.Clubs.{clubs}
use Rattle.call_outcomes.proofs.ClubsLaws.{clubs_roomy}
use Rattle.call_orders.specs.Conversion.{to_tree, Convertible}
use Rattle.call_orders.proofs.ConversionLaws.{conversion_lengths, conversion_size, tree_room}
use Rattle.sheet_orders.specs.ConvertLaws.{tree_order_done}
use Rattle.sheet_orders.proofs.to_tree_order.Goals.{Else-m-gt2047}
use Rattle.sheet_orders.proofs.to_tree_order.Goals as goal

pub returns-then-counts-ne256 : goal.returns-then-counts-ne256
returns-then-counts-ne256 c = sym (conversion_lengths clubs to_tree _ c.if-counts-ne256.true)

pub returns-then-m-gt2047 : goal.returns-then-m-gt2047
returns-then-m-gt2047 c = sym (conversion_size clubs to_tree _ c.if-counts-ne256.false c.if-m-gt2047.true)

-- Neither cause refuses the counts, and each has 16 bits.
convertible : (c : Else-m-gt2047) → Convertible clubs c.args.counts.now
convertible c = record { lengths = c.if-counts-ne256.false; size = c.if-m-gt2047.false }

small : (c : Else-m-gt2047) → Every (λ x. x < 2 ^ 16) c.args.counts.now
small c = every_from (λ x. x < 2 ^ 16) 0 c.args.counts.now (λ i l. omega (arith, c.slice_known-1.given i))

pub widen-requires : goal.widen-requires
widen-requires c = sym (convertible (goal.at.widen-requires c).Else-m-gt2047).lengths

pub write_counts-requires : goal.write_counts-requires
write_counts-requires c =
    rw c.widen.ensures record { lengths = sym (convertible (goal.at.write_counts-requires c).Else-m-gt2047).lengths; room = tree_room clubs clubs_roomy _ (convertible (goal.at.write_counts-requires c).Else-m-gt2047) }

pub narrow-requires : goal.narrow-requires
narrow-requires c =
    let counts = c.args.counts.now in
    record { lengths = (convertible (goal.at.narrow-requires c).Else-m-gt2047).lengths ∙ sym c.write_counts.auto.counts; fit = rw (c.write_counts.ensures, c.widen.ensures) (every_count_order (height (get_or counts 0 0)) counts (λ x. x < 2 ^ 16) (small (goal.at.narrow-requires c).Else-m-gt2047) (omega arith)) }

pub returns : goal.returns
returns c =
    tree_order_done (convertible (goal.at.returns c).Else-m-gt2047) (c.narrow.ensures ∙ c.write_counts.ensures ∙ rw c.widen.ensures)
