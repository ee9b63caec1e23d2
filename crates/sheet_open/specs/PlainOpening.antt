-- What the look at a plain store leaves. Definitions only.
use Rattle.std.specs.Prelude.{Result, Ok, List, ◌≡◌, ℕ}
use Rattle.tree_sizes.specs.Sizes.{height}
use Rattle.store_order.specs.CountOrder.{number_order}
use Rattle.store_layout.specs.declared.Capacity.{Capacity}
use Rattle.call_outcomes.specs.Plain.{PlainStore, plain_view}
use Rattle.call_outcomes.specs.declared.Cause.{Cause}
use Rattle.call_open.specs.declared.Opened.{Opened}
use Rattle.call_open.specs.Opening.{plain_numbers, Opening}

-- Where the store is a plain sheet, `work` has its counts by range number, and `numbers` its tallies.
pub record PlainOpening (cap : Capacity) (store : PlainStore) (answer : Result Opened Cause) (work numbers : List ℕ) : Type 0 where
  pub opening : Opening (plain_view cap) plain_numbers store answer work
  pub tallied : {sheet : Opened} → answer ≡ Ok sheet → numbers ≡ number_order (height sheet.m) store.slice
