-- Plain sheets, for any capacity: slots, counts and tallies (documents 01 and 02, F-11), with the calls of document 01. Definitions only.
use Rattle.std.specs.Prelude.{Result, Bool, true, List, ◌≡◌, ℕ, length}
use Rattle.tree_rules.specs.Tree.{Shape}
use Rattle.store_layout.specs.declared.Capacity.{Capacity}
use Rattle.store_layout.specs.Layout.{Store}
use Rattle.store_tallies.specs.Tallies.{lay_tallies}
use Rattle.call_outcomes.specs.declared.Cause.TheVariants.{NotASheet}
use Rattle.call_outcomes.specs.declared.Cause.{Cause}
use Rattle.call_outcomes.specs.declared.Answer.{Answer}
use Rattle.call_outcomes.specs.Kind.{View, Kind}
use Rattle.call_outcomes.specs.Outcome.{Outcome}
use Rattle.call_outcomes.specs.PlainCalls.{plain_calls}
use Rattle.call_outcomes.specs.Untallied.{IsList, RightLengths, equal_stores, untallied_view, store_of}
use Rattle.call_outcomes.specs.Slice.{Slice, Sliced, equal_with, with_slice}

-- The tallies as a further slice: as long as the counts, on sheets of any list; a wrong one is cause 2.
abbrev pub tally_slice : Capacity → Slice
tally_slice cap = record {
  IsList = IsList cap;
  is_list = λ list. true;
  room = cap.counts;
  lay = lay_tallies cap.counts;
  cause = NotASheet;
}

abbrev pub plain_view : Capacity → View
plain_view cap = with_slice (untallied_view cap) (tally_slice cap)

abbrev pub plain : Capacity → Kind
plain cap = record { view = plain_view cap; calls = plain_calls cap.entries }

-- ---- the slices

abbrev pub PlainStore : Type 0
PlainStore = Sliced Store

-- The three slices have the right lengths.
pub record PlainLengths (cap : Capacity) (store : PlainStore) : Type 0 where
  pub sheet : RightLengths cap store.sheet
  pub tallies : length store.slice ≡ cap.counts

-- The sheet of a list with a shape; and whether every slot, every count and every tally of two stores are the same.
abbrev pub lay_plain : Capacity → List ℕ → Shape → PlainStore
lay_plain cap = (plain_view cap).lay

abbrev pub equal_plain : PlainStore → PlainStore → Bool
equal_plain = equal_with equal_stores

-- The three lent slices as a store.
abbrev pub plain_store_of : List ℕ → List ℕ → List ℕ → PlainStore
plain_store_of slots counts tallies = record { sheet = store_of slots counts; slice = tallies }

-- What a call leaves in the slices that it was lent.
abbrev pub plain_outcome_of : Result Answer Cause → List ℕ → List ℕ → List ℕ → List ℕ → Outcome PlainStore
plain_outcome_of answer slots counts tallies output = record { answer = answer; store = plain_store_of slots counts tallies; output = output }
