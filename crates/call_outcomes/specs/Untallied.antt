-- Sheets as slots and counts alone, without the tallies of document 02, F-11: what the rules lay out, for any capacity. Definitions only.
use Rattle.std.specs.Prelude.{Result, Bool, ◌&&◌, List, ◌≡◌, ℕ, ◌≤◌, ◌<◌, eqb, length}
use Rattle.std.proofs.Math.Option.{Option, some, none}
use Rattle.base.specs.Lists.{Every, equal_lists}
use Rattle.tree_rules.specs.Tree.{Shape}
use Rattle.store_layout.specs.declared.Capacity.{Capacity}
use Rattle.store_layout.specs.Layout.{Store, lay_out}
use Rattle.store_layout.specs.Decode.{Contents, decode}
use Rattle.call_outcomes.specs.declared.Cause.TheVariants.{NotASheet}
use Rattle.call_outcomes.specs.declared.Cause.{Cause}
use Rattle.call_outcomes.specs.declared.Answer.{Answer}
use Rattle.call_outcomes.specs.Kind.{Found, holds, wrong, View, Kind}
use Rattle.call_outcomes.specs.Outcome.{Outcome}
use Rattle.call_outcomes.specs.PlainCalls.{plain_calls}

-- A list that a sheet can hold: no more entries than there is room for, and none is zero.
pub record IsList (cap : Capacity) (list : List ℕ) : Type 0 where
  pub room : length list ≤ cap.entries
  pub entries : Every (λ e. 0 < e) list

-- The store has the right lengths, and the test of that.
pub record RightLengths (cap : Capacity) (store : Store) : Type 0 where
  pub slots : length store.slots ≡ cap.slots
  pub counts : length store.counts ≡ cap.counts

unfoldable pub right_lengths : Capacity → Store → Bool
right_lengths cap store = eqb (length store.slots) cap.slots && eqb (length store.counts) cap.counts

-- Cause 2 where the store is no sheet.
unfoldable pub found_by : Option Contents → Found
found_by (some c) = holds c
found_by none = wrong NotASheet

-- Every slot and every count are the same.
unfoldable pub equal_stores : Store → Store → Bool
equal_stores a b = equal_lists a.slots b.slots && equal_lists a.counts b.counts

-- The view of such lists by a layout and how it is read back; here by the layout of document 01.
abbrev pub view_of : Capacity → (List ℕ → Shape → Store) → (Store → Option Contents) → View
view_of cap lay decode = record {
  Store = Store;
  IsList = IsList cap;
  lay = lay;
  right_lengths = right_lengths cap;
  decode = λ store. found_by (decode store);
  equal = equal_stores;
}

abbrev pub untallied_view : Capacity → View
untallied_view cap = view_of cap (lay_out cap) (decode cap)

-- The kind, with the calls of plain sheets.
abbrev pub untallied : Capacity → Kind
untallied cap = record { view = untallied_view cap; calls = plain_calls cap.entries }

-- The two slices as a store.
abbrev pub store_of : List ℕ → List ℕ → Store
store_of slots counts = record { slots = slots; counts = counts }

-- What a call leaves in them.
abbrev pub outcome_of : Result Answer Cause → List ℕ → List ℕ → List ℕ → Outcome Store
outcome_of answer slots counts output = record { answer = answer; store = store_of slots counts; output = output }
