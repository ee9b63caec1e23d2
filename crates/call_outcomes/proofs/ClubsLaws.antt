-- The clubs' store has room for every sheet of its entries.
use Rattle.std.specs.Prelude.{◌*◌, ◌^◌, ◌<◌}
use Rattle.std.proofs.Common.{arith}
use Rattle.base.specs.Cases.{if_le}
use Rattle.tree_sizes.specs.Sizes.{doublings, digits, height, leaf_slots, slots}
use Rattle.tree_sizes.proofs.Capacity.{greatest, slots_most, counts_most}
use Rattle.store_layout.specs.Room.{Roomy, CapacityReady}
use Rattle.call_outcomes.specs.Kind.{Lawful}
use Rattle.call_outcomes.specs.Plain.{plain}
use Rattle.call_outcomes.proofs.PlainLaws.{plain_lawful}
use Rattle.call_outcomes.specs.Clubs.{clubs}

-- A size parameter of its sheets is below 2 ^ 11.
pub clubs_roomy : Roomy clubs
unfolding greatest slots leaf_slots height digits doublings if_le
clubs_roomy = record {
  slots_fit = λ N M h a. slots_most 11 M (omega arith) (omega (arith, a.most));
  counts_fit = λ N M h a. counts_most 11 M (omega arith) (omega (arith, a.most));
}

-- The code can work with it, and every count of its sheets has 16 bits.
pub clubs_ready : CapacityReady clubs
clubs_ready = record { roomy = clubs_roomy; few = omega arith }

pub clubs_width : 2 * clubs.entries < 2 ^ 16
clubs_width = omega arith

pub clubs_lawful : Lawful (plain clubs)
clubs_lawful = plain_lawful clubs clubs_roomy
