-- A view with a further slice that follows from list and shape (document 02, F-1 and F-11). Definitions only.
use Rattle.std.specs.Prelude.{Bool, true, false, ◌&&◌, List, [], ◌≡◌, ℕ, eqb, length}
use Rattle.base.specs.Lists.{equal_lists}
use Rattle.tree_rules.specs.Tree.{Shape}
use Rattle.store_layout.specs.Decode.{Contents}
use Rattle.call_outcomes.specs.declared.Cause.{Cause}
use Rattle.call_outcomes.specs.Kind.{Found, holds, wrong, View}

-- A further slice: which lists a sheet with it can hold, and the test of that; its length; what it is for a list with a shape; and the cause
-- where a sheet of the view has a list or a slice that does not belong there.
pub record Slice : Type 1 where
  pub IsList : List ℕ → Type 0
  pub is_list : List ℕ → Bool
  pub room : ℕ
  pub lay : List ℕ → Shape → List ℕ
  pub cause : Cause

-- A store with a slice beside it.
pub record Sliced (S : Type 0) : Type 0 where
  pub sheet : S
  pub slice : List ℕ

-- The list can stand on a sheet with the slice, and the slice is that of the list with the shape.
unfoldable pub slice_test : Slice → List ℕ → Contents → Bool
slice_test further slice c = further.is_list c.list && equal_lists slice (further.lay c.list c.shape)

unfoldable pub found_if : Cause → Bool → Contents → Found
found_if cause true c = holds c
found_if cause false c = wrong cause

-- The cause of the store without the slice decides first, then that of the slice.
unfoldable pub found_with : Slice → List ℕ → Found → Found
found_with further slice (wrong cause) = wrong cause
found_with further slice (holds c) = found_if further.cause (slice_test further slice c) c

-- The right lengths, and stores that are the same, by those of the view.
unfoldable pub lengths_with : {S : Type 0} → (S → Bool) → ℕ → Sliced S → Bool
lengths_with right room store = right store.sheet && eqb (length store.slice) room

unfoldable pub equal_with : {S : Type 0} → (S → S → Bool) → Sliced S → Sliced S → Bool
equal_with equal a b = equal a.sheet b.sheet && equal_lists a.slice b.slice

abbrev pub with_slice : View → Slice → View
with_slice view further = record {
  Store = Sliced view.Store;
  IsList = further.IsList;
  lay = λ list s. record { sheet = view.lay list s; slice = further.lay list s };
  right_lengths = lengths_with view.right_lengths further.room;
  decode = λ store. found_with further store.slice (view.decode store.sheet);
  equal = equal_with view.equal;
}

-- What is asked of a further slice of a view: the empty list is one of its lists, which are lists of the view and told by the test among them;
-- its length does not depend on list and shape.
pub record LawfulSlice (view : View) (further : Slice) : Type 0 where
  pub no_entry : further.IsList []
  pub narrower : (list : List ℕ) → further.IsList list → view.IsList list
  pub listed : (list : List ℕ) → further.IsList list → further.is_list list ≡ true
  pub tested : (list : List ℕ) → view.IsList list → further.is_list list ≡ true → further.IsList list
  pub length_is : (list : List ℕ) (s : Shape) → length (further.lay list s) ≡ further.room
