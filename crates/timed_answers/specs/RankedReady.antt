-- What the code that changes a timed sheet is given. Definitions only.
use Rattle.std.specs.Prelude.{List, ◌≡◌, ℕ}
use Rattle.tree_rules.specs.declared.Change.{Change}
use Rattle.store_layout.specs.declared.Capacity.{Capacity}
use Rattle.call_outcomes.specs.PlainCalls.{changing}
use Rattle.call_open.specs.Opening.{Admitted}
use Rattle.call_timed.specs.Timed.{TimedStore, ranked, timed_numbers}

-- The change at a rank goes on with a timed sheet of n entries and the size parameter m, and the work array has its counts by range number.
pub record RankedReady (cap : Capacity) (change : Change) (e n m : ℕ) (store : TimedStore) (work : List ℕ) : Type 0 where
  pub admitted : Admitted (ranked cap) (changing change e) store n m
  pub copied : work ≡ timed_numbers store
