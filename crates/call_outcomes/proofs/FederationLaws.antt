-- The federation's store has room for every sheet of its entries.
use Rattle.std.specs.Prelude.{◌*◌, ◌^◌, ◌<◌}
use Rattle.std.proofs.Common.{arith}
use Rattle.base.specs.Cases.{if_le}
use Rattle.tree_sizes.specs.Sizes.{doublings, digits, height, leaf_slots, slots}
use Rattle.tree_sizes.proofs.Capacity.{greatest, slots_most, counts_most}
use Rattle.store_layout.specs.Room.{Roomy, CapacityReady}
use Rattle.call_outcomes.specs.Kind.{Lawful}
use Rattle.call_outcomes.specs.Plain.{plain}
use Rattle.call_outcomes.proofs.PlainLaws.{plain_lawful}
use Rattle.call_outcomes.specs.Federation.{federation}

-- A size parameter of its sheets is below 2 ^ 17.
pub federation_roomy : Roomy federation
unfolding greatest slots leaf_slots height digits doublings if_le
federation_roomy = record {
  slots_fit = λ N M h a. slots_most 17 M (omega arith) (omega (arith, a.most));
  counts_fit = λ N M h a. counts_most 17 M (omega arith) (omega (arith, a.most));
}

-- The code can work with it, and every count of its sheets has 32 bits.
pub federation_ready : CapacityReady federation
federation_ready = record { roomy = federation_roomy; few = omega arith }

pub federation_width : 2 * federation.entries < 2 ^ 32
federation_width = omega arith

pub federation_lawful : Lawful (plain federation)
federation_lawful = plain_lawful federation federation_roomy
