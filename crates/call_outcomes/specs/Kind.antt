-- A kind of sheet: how its sheets stand in a store, as a view of a list and a shape, and which calls it takes. Everything that is said of
-- calls and of histories is said of any kind. Definitions only.
use Rattle.std.specs.Prelude.{Bool, true, List, [], ◌≡◌, ℕ, length}
use Rattle.std.proofs.Math.Option.{Option, none}
use Rattle.draw_shares.specs.Apart.{EqualityTest}
use Rattle.tree_rules.specs.declared.Change.{Change}
use Rattle.tree_rules.specs.Tree.{leaf, Shape, IsShape}
use Rattle.tree_rules.specs.Rules.{InReach}
use Rattle.tree_rules.specs.ChangeList.{change_list}
use Rattle.store_layout.specs.Decode.{Contents}
use Rattle.call_outcomes.specs.declared.Cause.{Cause}
use Rattle.call_outcomes.specs.declared.Answer.{Answer}

-- ---- the store

-- What a store is found to hold: the sheet with these contents, or no sheet, with the cause that says so.
pub data Found : Type 0 where
  holds : Contents → Found
  wrong : Cause → Found

-- A view of a list and a shape as a store: which lists a sheet can hold, the sheet of a list with a shape, whether the store has the right
-- lengths, the contents read back, and whether two stores are equal.
pub record View : Type 1 where
  pub Store : Type 0
  pub IsList : List ℕ → Type 0
  pub lay : List ℕ → Shape → Store
  pub right_lengths : Store → Bool
  pub decode : Store → Found
  pub equal : Store → Store → Bool

-- The contents of the empty sheet.
abbrev pub empty : Contents
empty = record { list = []; shape = record { size = 0; tree = leaf } }

-- What is asked of a view: the empty list is one of its lists; its sheets have the right lengths, and decoding gives back what was laid
-- out, and nothing else; the test of equality tells stores apart.
pub record LawfulView (view : View) : Type 0 where
  pub no_entry : view.IsList []
  pub lengths : (list : List ℕ) (s : Shape) → view.IsList list → IsShape (length list) s → view.right_lengths (view.lay list s) ≡ true
  pub complete : (list : List ℕ) (s : Shape) → view.IsList list → IsShape (length list) s
      → view.decode (view.lay list s) ≡ holds (record { list = list; shape = s })
  pub sound : (store : view.Store) (c : Contents) → view.decode store ≡ holds c
      → view.IsList c.list × IsShape (length c.list) c.shape × (store ≡ view.lay c.list c.shape)
  pub test : EqualityTest view.equal

-- The store is a sheet of the list: some shape lays it out.
pub record SheetOf (view : View) (list : List ℕ) (store : view.Store) : Type 0 where
  pub shape : Shape
  pub is_list : view.IsList list
  pub is_shape : IsShape (length list) shape
  pub laid : store ≡ view.lay list shape

-- ---- the calls

-- What a change does to a list: an entry comes in at a rank, or the one at a rank goes out.
pub record Edit : Type 0 where
  pub change : Change
  pub entry : ℕ

unfoldable pub applied : Edit → List ℕ → List ℕ
applied edit list = change_list edit.change edit.entry list

-- The changes and the questions that a kind of sheet takes, with their arguments, by the list before the call: the causes of the arguments,
-- what a change does to the list, what a question is answered, and which entries it writes to the front of its output.
pub record Calls : Type 1 where
  pub ChangeCall : Type 0
  pub Question : Type 0
  pub change_cause : ChangeCall → List ℕ → Option Cause
  pub edit : ChangeCall → List ℕ → Edit
  pub question_cause : Question → List ℕ → Option Cause
  pub reply : Question → List ℕ → Answer
  pub written : Question → List ℕ → List ℕ

-- What is asked of the calls: a change that no cause refuses is in reach, and leads to a list that a sheet can hold. Of questions nothing is
-- asked.
pub record LawfulCalls (IsList : List ℕ → Type 0) (calls : Calls) : Type 0 where
  pub reach : (c : calls.ChangeCall) (list : List ℕ) → IsList list → calls.change_cause c list ≡ none
      → InReach (calls.edit c list).change (length list)
  pub keeps : (c : calls.ChangeCall) (list : List ℕ) → IsList list → calls.change_cause c list ≡ none → IsList (applied (calls.edit c list) list)

-- A call, the tape apart: clear, a change of the list, or a question.
pub data CallOf (C Q : Type 0) : Type 0 where
  clear : CallOf C Q
  change : C → CallOf C Q
  ask : Q → CallOf C Q

-- ---- both

pub record Kind : Type 1 where
  pub view : View
  pub calls : Calls

pub record Lawful (kind : Kind) : Type 0 where
  pub view : LawfulView kind.view
  pub calls : LawfulCalls kind.view.IsList kind.calls

-- The calls, and the stores, of a kind.
abbrev pub CallFor : Kind → Type 0
CallFor kind = CallOf kind.calls.ChangeCall kind.calls.Question

abbrev pub StoreFor : Kind → Type 0
StoreFor kind = kind.view.Store
