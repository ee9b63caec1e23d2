-- Laws of a capacity that is roomy.
use Rattle.std.specs.Prelude.{ℕ, zero, suc, ◌+◌, ◌-◌, ◌*◌, ◌/◌, ◌^◌, ◌≤◌}
use Rattle.std.proofs.Common.{arith}
use Rattle.tree_sizes.specs.Sizes.{height, slots}
use Rattle.store_layout.specs.declared.Capacity.{Capacity}
use Rattle.store_layout.specs.Room.{Roomy}

-- Counts and slots are enough for every size up to the greatest of the most entries.
pub counts_enough : (cap : Capacity) → Roomy cap → (M : ℕ) → M ≤ 2 * cap.entries - 1 → 2 * 2 ^ height M ≤ cap.counts
counts_enough cap roomy zero h = roomy.counts_fit 0 0 (omega arith) record { least = omega arith; most = omega arith }
counts_enough cap roomy (suc m) h =
    roomy.counts_fit (suc m / 2 + 1) (suc m) (omega arith) record { least = omega arith; most = omega arith }

pub slots_enough : (cap : Capacity) → Roomy cap → (M : ℕ) → M ≤ 2 * cap.entries - 1 → slots M ≤ cap.slots
slots_enough cap roomy zero h = roomy.slots_fit 0 0 (omega arith) record { least = omega arith; most = omega arith }
slots_enough cap roomy (suc m) h =
    roomy.slots_fit (suc m / 2 + 1) (suc m) (omega arith) record { least = omega arith; most = omega arith }
