-- The numbers of a store fit the widths of its slots and counts. Definitions only.
use Rattle.std.specs.Prelude.{ℕ, ◌^◌, ◌<◌}
use Rattle.base.specs.Lists.{Every}
use Rattle.store_layout.specs.Layout.{Store}

-- Slots of 64 bits and counts of 16 bits, as those of every store that the program keeps.
pub record StoreFits (store : Store) : Type 0 where
  pub slots : Every (λ (x : ℕ). x < 2 ^ 64) store.slots
  pub counts : Every (λ (x : ℕ). x < 2 ^ 16) store.counts
