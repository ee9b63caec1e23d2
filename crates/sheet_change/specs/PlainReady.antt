-- What the code that changes a plain sheet is given. Definitions only.
use Rattle.std.specs.Prelude.{List, ◌≡◌, ℕ, length}
use Rattle.tree_sizes.specs.Sizes.{height}
use Rattle.tree_rules.specs.declared.Change.{Change}
use Rattle.tree_rules.specs.Tree.{Shape}
use Rattle.store_order.specs.CountOrder.{count_order}
use Rattle.store_layout.specs.declared.Capacity.{Capacity}
use Rattle.store_layout.specs.Layout.{lay_out}
use Rattle.store_layout.specs.Sheet.{IsContents}
use Rattle.store_tallies.specs.Tallies.{lay_tallies}
use Rattle.store_tallies.specs.TalliesIn.{TalliesIn}
use Rattle.call_outcomes.specs.PlainCalls.{changing}
use Rattle.call_outcomes.specs.Untallied.{store_of}
use Rattle.call_outcomes.specs.Plain.{plain, PlainStore}
use Rattle.call_open.specs.Opening.{plain_numbers, Admitted}
use Rattle.call_change.specs.declared.DrawnChange.{DrawnChange}
use Rattle.call_tallies.specs.Ready.{TalliesReady, CountsReady, PartReady}

-- The change goes on with a plain sheet of n entries and the size parameter m, and the work array has its counts by range number.
pub record PlainReady (cap : Capacity) (change : Change) (e n m : ℕ) (store : PlainStore) (work : List ℕ) : Type 0 where
  pub admitted : Admitted (plain cap) (changing change e) store n m
  pub copied : work ≡ plain_numbers store

-- The tallies can be written where these are the slots after the change, and `numbers` the tallies before it by range number.
pub record TalliesAfter (d : DrawnChange) (slots tallies work numbers : List ℕ) : Type 0 where
  pub ready : TalliesReady d.new slots (length tallies)
  pub part : PartReady d.new d.part slots tallies numbers
  pub counted : CountsReady d.new slots work

-- These slots and counts are those of a sheet of size m, whose tallies are those that the slots give.
pub record LeftSheet (cap : Capacity) (m : ℕ) (slots counts tallies : List ℕ) : Type 0 where
  pub list : List ℕ
  pub shape : Shape
  pub contents : IsContents cap list shape
  pub laid : store_of slots counts ≡ lay_out cap list shape
  pub tallied : {new : List ℕ} → ((words : List ℕ) → TalliesIn m slots words → length words ≡ length tallies → new ≡ count_order (height m) words)
      → new ≡ lay_tallies cap.counts list shape
