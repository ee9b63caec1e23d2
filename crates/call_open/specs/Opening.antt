-- What the look at a store comes to, and what is left of it by the causes of the arguments. Definitions only.
use Rattle.std.specs.Prelude.{Result, Ok, Err, List, ◌≡◌, ℕ, length}
use Rattle.std.proofs.Math.Option.{Option, some, none}
use Rattle.store_layout.specs.declared.Capacity.{Capacity}
use Rattle.store_layout.specs.Layout.{Store}
use Rattle.store_layout.specs.Decode.{Contents, decode, numbered}
use Rattle.call_outcomes.specs.declared.Cause.{Cause}
use Rattle.call_outcomes.specs.Kind.{View, Kind, CallFor, StoreFor}
use Rattle.call_outcomes.specs.Causes.{Decision, refuse, accept, store_decision, decision}
use Rattle.call_outcomes.specs.Untallied.{untallied_view}
use Rattle.call_outcomes.specs.Plain.{PlainStore}
use Rattle.call_open.specs.declared.Opened.{Opened}

-- What is decided, by the numbers that the code has: n entries, and the size parameter m.
unfoldable pub opened_as : Decision → Result Opened Cause
opened_as (refuse cause) = Err cause
opened_as (accept before) = Ok (record { n = length before.list; m = before.shape.size })

-- The answer of the look at a store of any view, and the work array: where the store is a sheet it has the counts by range number, which are
-- the `numbers` of the store.
pub record Opening (view : View) (numbers : view.Store → List ℕ) (store : view.Store) (answer : Result Opened Cause) (work : List ℕ) : Type 0 where
  pub found : answer ≡ opened_as (store_decision view store)
  pub copied : {sheet : Opened} → answer ≡ Ok sheet → work ≡ numbers store

-- The counts of a plain store by range number.
abbrev pub plain_numbers : PlainStore → List ℕ
plain_numbers store = numbered store.sheet

-- The store is a sheet of n entries with the size parameter m, and the work array has its counts by range number.
pub record OpenedStore (view : View) (numbers : view.Store → List ℕ) (store : view.Store) (n m : ℕ) (work : List ℕ) : Type 0 where
  pub contents : Contents
  pub decided : store_decision view store ≡ accept contents
  pub count : length contents.list ≡ n
  pub size : contents.shape.size ≡ m
  pub copied : work ≡ numbers store

unfoldable pub admitted_by : Option Cause → Opened → Result Opened Cause
admitted_by (some cause) sheet = Err cause
admitted_by none sheet = Ok sheet

-- What was found, unless a cause decides that goes by the number of entries.
unfoldable pub admitted : (ℕ → Option Cause) → Result Opened Cause → Result Opened Cause
admitted causes (Ok sheet) = admitted_by (causes sheet.n) sheet
admitted causes (Err cause) = Err cause

-- The call, of any kind of sheet, goes on with a sheet of n entries and the size parameter m.
pub record Admitted (kind : Kind) (call : CallFor kind) (store : StoreFor kind) (n m : ℕ) : Type 0 where
  pub contents : Contents
  pub decided : decision kind call store ≡ accept contents
  pub count : length contents.list ≡ n
  pub size : contents.shape.size ≡ m

-- Slots and counts are a sheet of n entries with the size parameter m, and the work array has its counts by range number.
pub record OpenedSheet (cap : Capacity) (store : Store) (n m : ℕ) (work : List ℕ) : Type 0 where
  pub contents : Contents
  pub decided : store_decision (untallied_view cap) store ≡ accept contents
  pub decoded : decode cap store ≡ some contents
  pub count : length contents.list ≡ n
  pub size : contents.shape.size ≡ m
  pub copied : work ≡ numbered store
