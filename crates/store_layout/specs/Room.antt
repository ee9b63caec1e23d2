-- What a capacity has to meet. Definitions only.
use Rattle.std.specs.Prelude.{ℕ, ◌*◌, ◌^◌, ◌≤◌, ◌<◌}
use Rattle.tree_sizes.specs.Sizes.{Allowed, height, slots}
use Rattle.store_layout.specs.declared.Capacity.{Capacity}

-- The slots and the counts are enough for every size that the entries can have.
pub record Roomy (cap : Capacity) : Type 0 where
  pub slots_fit : (N M : ℕ) → N ≤ cap.entries → Allowed N M → slots M ≤ cap.slots
  pub counts_fit : (N M : ℕ) → N ≤ cap.entries → Allowed N M → 2 * 2 ^ height M ≤ cap.counts

-- The capacity is roomy, and has few enough entries for the sums of the code.
pub record CapacityReady (cap : Capacity) : Type 0 where
  pub roomy : Roomy cap
  pub few : cap.entries < 2 ^ 29
