-- A call on any sheet of a list leaves a sheet of the next list, unless it returns 7.
use Rattle.std.specs.Prelude.{Err, ◌≡◌, ◌≢◌, ℕ, length}
use Rattle.std.proofs.Math.Path.{refl}
use mathlib.Core.List.{List, []}
use Rattle.std.proofs.Math.Option.{Option, some, none}
use Rattle.draw_shares.specs.Program.{Ends}
use Rattle.draw_shares.specs.ProgramLaws.{ends_bind, ends_done}
use Rattle.draw_shares.proofs.TapeLaws.{follows_ends}
use Rattle.tree_rules.specs.Tree.{Shape, IsShape}
use Rattle.tree_rules.specs.Compare.{count_after}
use Rattle.tree_rules.specs.Rules.{InReach, update}
use Rattle.tree_rules.proofs.ShapeLaws.{update_ends}
use Rattle.tree_rules.specs.ChangeListLaws.{length_changed}
use Rattle.call_outcomes.specs.declared.Cause.{Cause}
use Rattle.call_outcomes.specs.declared.Cause.TheVariants.{TapeEnded}
use Rattle.call_outcomes.specs.Kind.{View, SheetOf, Edit, applied, clear, change, ask, Kind, Lawful, CallFor, StoreFor}
use Rattle.call_outcomes.specs.Causes.{argument_cause}
use Rattle.call_outcomes.specs.Outcome.{list_after, edited, effect, outcome, call_program}
use Rattle.call_history.specs.History.{next_list}
use Rattle.call_history.specs.CallKeeps.{empty_sheets, sheets_end, program_on, sheet_program}
use Rattle.call_history.specs.Words.{call_follows}

-- An edit in reach draws a sheet of the edited list.
edited_ends : (view : View) (edit : Edit) (list : List ℕ) (s : Shape) → InReach edit.change (length list) → IsShape (length list) s
    → view.IsList (applied edit list) → Ends (SheetOf view (applied edit list)) (edited view edit (record { list = list; shape = s }))
unfolding edited applied
edited_ends view edit list s reach shape w =
    ends_bind (IsShape (count_after edit.change (length list))) _ (update edit.change (length list) s) _ (update_ends edit.change (length list) s reach shape)
    (λ t new. ends_done _ _ record { shape = t; is_list = w; is_shape = rw (length_changed edit.change edit.entry list reach) new; laid = refl })

module _ (kind : Kind) (lawful : Lawful kind) (list : List ℕ) (s : Shape) (w : kind.view.IsList list) (shape : IsShape (length list) s) where
  abbrev sheet : StoreFor kind
  sheet = kind.view.lay list s

  effect_ends : (call : CallFor kind) → argument_cause kind call list ≡ none
      → Ends (SheetOf kind.view (list_after kind call list)) (effect kind call (record { list = list; shape = s }) sheet)
  unfolding effect list_after argument_cause
  effect_ends clear free = rw (empty_sheets kind.view) at (sheets_end kind.view [] lawful.view.no_entry)
  effect_ends (change c) free =
      edited_ends kind.view (kind.calls.edit c list) list s (lawful.calls.reach c list w free) shape (lawful.calls.keeps c list w free)
  effect_ends (ask q) free = ends_done _ _ record { shape = s; is_list = w; is_shape = shape; laid = refl }

  program_ends : (call : CallFor kind) → Ends (SheetOf kind.view (next_list kind call list)) (call_program kind call sheet)
  unfolding next_list program_on
  program_ends call = rw (sheet_program kind lawful list s w shape call) (go (argument_cause kind call list) (effect_ends call))
    where
      go : (found : Option Cause) → (found ≡ none → Ends (SheetOf kind.view (list_after kind call list)) (effect kind call (record { list = list; shape = s }) sheet))
          → Ends (SheetOf kind.view (elim found [ some cause ↦ list | none ↦ list_after kind call list ])) (program_on kind list s call found)
      go none h = h refl
      go (some cause) h = ends_done _ _ record { shape = s; is_list = w; is_shape = shape; laid = refl }

pub next_sheet : (kind : Kind) → Lawful kind → (list : List ℕ) (store : StoreFor kind) → SheetOf kind.view list store
    → (call : CallFor kind) (tape output : List ℕ) → (outcome kind call tape store output).answer ≢ Err TapeEnded
    → SheetOf kind.view (next_list kind call list) (outcome kind call tape store output).store
next_sheet kind lawful list store w call tape output go_on =
    follows_ends (SheetOf kind.view (next_list kind call list)) (call_program kind call store) _ _
    (rw w.laid (program_ends kind lawful list w.shape w.is_list w.is_shape call))
    (call_follows kind call tape store output go_on)
