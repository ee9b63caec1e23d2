-- What is left of the look at the plain store in a timed one. Definitions only.
use Rattle.std.specs.Prelude.{Result, Ok, Err, Bool, true, false, ◌&&◌, List, ◌≡◌, ℕ, ◌^◌, ◌≤◌, ◌<◌, length, take}
use Rattle.base.specs.Lists.{equal_lists}
use Rattle.tree_sizes.specs.Sizes as sizes
use Rattle.store_order.specs.CountOrder.{number_order}
use Rattle.store_layout.specs.declared.Capacity.{Capacity}
use Rattle.store_layout.specs.Leaf.{nonzero}
use Rattle.store_keys.specs.Key.{rises}
use Rattle.store_balance.specs.BalanceIn.{balance_in}
use Rattle.call_outcomes.specs.declared.Cause.TheVariants.{NotTimed}
use Rattle.call_outcomes.specs.declared.Cause.{Cause}
use Rattle.call_open.specs.declared.Opened.{Opened}
use Rattle.call_open.specs.Opening.{Opening}
use Rattle.call_timed.specs.Timed.{timed_view, TimedStore, timed_numbers}

-- The entries of a sheet of size M with these slots rise, and the third slice is the one that the slots give.
abbrev pub timed_test : ℕ → List ℕ → List ℕ → Bool
timed_test M slots balance = rises (nonzero (take (sizes.slots M) slots)) && equal_lists balance (balance_in M (length balance) slots)

unfoldable pub timed_by : Bool → Opened → Result Opened Cause
timed_by true sheet = Ok sheet
timed_by false sheet = Err NotTimed

-- What was found, unless cause 11 decides.
unfoldable pub timed_look : Result Opened Cause → List ℕ → List ℕ → Result Opened Cause
timed_look (Ok sheet) slots balance = timed_by (timed_test sheet.m slots balance) sheet
timed_look (Err cause) slots balance = Err cause

-- A sheet of size m that was found stands in these slots, and the third slice has room for its ranges.
pub record LookReady (found : Result Opened Cause) (slots balance : List ℕ) : Type 0 where
  pub most : (sheet : Opened) → found ≡ Ok sheet → sheet.m < 2 ^ 32
  pub slots_room : (sheet : Opened) → found ≡ Ok sheet → sizes.slots sheet.m ≤ length slots
  pub levels_room : (sheet : Opened) → found ≡ Ok sheet → 2 ^ sizes.height sheet.m ≤ length balance

-- Where the store is a timed sheet, `work` has its counts by range number, and `numbers` its tallies.
pub record TimedOpening (cap : Capacity) (store : TimedStore) (answer : Result Opened Cause) (work numbers : List ℕ) : Type 0 where
  pub opening : Opening (timed_view cap) timed_numbers store answer work
  pub tallied : {sheet : Opened} → answer ≡ Ok sheet → numbers ≡ number_order (sizes.height sheet.m) store.sheet.slice
