-- A call on the sheets of a list, canonically distributed, leads to those of the next list.
use Rattle.std.specs.Prelude.{◌≡◌, List, [], ℕ, length}
use Rattle.std.proofs.Math.Path.{refl}
use Rattle.std.proofs.Common.{◌∙◌}
use Rattle.std.proofs.Math.Option.{Option, some, none}
use Rattle.base.specs.Cases.{if_le}
use Rattle.draw_shares.specs.Program.{Program, done, ◌>>=◌, Live, Ends}
use Rattle.draw_shares.specs.ProgramLaws.{done_bind, bind_bind, draws_bind, draws_done, ends_bind, ends_done}
use Rattle.draw_shares.specs.Same.{◌≈◌}
use Rattle.draw_shares.specs.SameLaws.{≈_refl, ≈_sym, ≈_trans, ≈_path, bind_cong_left, bind_cong_ends, bind_const}
use Rattle.tree_sizes.specs.Sizes.{height}
use Rattle.tree_rules.specs.Tree.{Shape, IsShape}
use Rattle.tree_rules.specs.Rules.{InReach, rebuild, fresh, update}
use Rattle.tree_rules.specs.ChangeListLaws.{length_changed}
use Rattle.tree_canonical.specs.Canonical.{canonical_size, canonical}
use Rattle.tree_canonical.specs.ShapeLaws.{canonical_ends, canonical_live}
use Rattle.tree_canonical.specs.UpdateKeeps.{update_keeps}
use Rattle.store_layout.specs.Decode.{Contents}
use Rattle.call_outcomes.specs.declared.Cause.{Cause}
use Rattle.call_outcomes.specs.Kind.{View, empty, SheetOf, Edit, applied, clear, change, ask, Kind, Lawful, CallFor}
use Rattle.call_outcomes.specs.Causes.{accept, by_lengths, looked_at, argument_cause, by_arguments, decision}
use Rattle.call_outcomes.specs.Outcome.{list_after, edited, effect, call_program_by, call_program}
use Rattle.call_outcomes.specs.DecisionLaws.{store_decided, arguments_none, arguments_some}
use Rattle.call_history.specs.History.{next_list, refusal_of}

-- ---- the sheets of a list

-- The sheets of a list, canonically distributed.
unfoldable pub sheets_of : (view : View) → List ℕ → Program view.Store
sheets_of view list = canonical (length list) >>= λ s. done (view.lay list s)

module _ (view : View) where
  pub empty_sheets : sheets_of view [] ≡ done (view.lay empty.list empty.shape)
  unfolding sheets_of canonical canonical_size fresh rebuild height if_le ◌>>=◌
  empty_sheets = refl

  pub sheets_end : (list : List ℕ) → view.IsList list → Ends (SheetOf view list) (sheets_of view list)
  unfolding sheets_of
  sheets_end list w =
      ends_bind (IsShape (length list)) (SheetOf view list) (canonical (length list)) _ (canonical_ends (length list))
      (λ s shape. ends_done (SheetOf view list) (view.lay list s) record { shape = s; is_list = w; is_shape = shape; laid = refl })

  pub sheets_live : (list : List ℕ) → Live (sheets_of view list)
  unfolding sheets_of
  sheets_live list = draws_bind _ (canonical (length list)) _ (canonical_live (length list)) (λ s. draws_done _ (view.lay list s))

  -- An edit in reach leads from the sheets of a list to those of the edited list.
  edited_keeps : (edit : Edit) (list : List ℕ) → InReach edit.change (length list)
      → (canonical (length list) >>= λ s. edited view edit (record { list = list; shape = s })) ≈ sheets_of view (applied edit list)
  unfolding edited sheets_of applied
  edited_keeps edit list reach =
      ≈_trans
      (≈_sym (≈_path (bind_bind (canonical (length list)) (update edit.change (length list)) (λ s. done (view.lay (applied edit list) s)))))
      (rw (length_changed edit.change edit.entry list reach)
      (bind_cong_left (λ s. done (view.lay (applied edit list) s)) (update_keeps edit.change (length list) reach)))

-- The program of a call on the sheet of the list with this shape: refused by a cause of the arguments, or accepted.
unfoldable pub program_on : (kind : Kind) → List ℕ → Shape → CallFor kind → Option Cause → Program kind.view.Store
program_on kind list s call none = effect kind call (record { list = list; shape = s }) (kind.view.lay list s)
program_on kind list s call (some cause) = done (kind.view.lay list s)

module _ (kind : Kind) (lawful : Lawful kind) where
  -- ---- the list after a call

  accepted_list : (call : CallFor kind) (list : List ℕ) → kind.view.IsList list → argument_cause kind call list ≡ none
      → kind.view.IsList (list_after kind call list)
  unfolding argument_cause list_after
  accepted_list clear list w free = lawful.view.no_entry
  accepted_list (change c) list w free = lawful.calls.keeps c list w free
  accepted_list (ask q) list w free = w

  pub next_list_lem : (call : CallFor kind) (list : List ℕ) → kind.view.IsList list → kind.view.IsList (next_list kind call list)
  unfolding next_list
  next_list_lem call list w = go (argument_cause kind call list) (accepted_list call list w)
    where
      go : (found : Option Cause) → (found ≡ none → kind.view.IsList (list_after kind call list))
          → kind.view.IsList (elim found [ some cause ↦ list | none ↦ list_after kind call list ])
      go none h = h refl
      go (some cause) h = w

  -- ---- a call on a sheet of the list

  module _ (list : List ℕ) (s : Shape) (w : kind.view.IsList list) (shape : IsShape (length list) s) where
    abbrev sheet : kind.view.Store
    sheet = kind.view.lay list s

    -- What is looked at in a sheet decides nothing. Clear starts from the empty list, which no cause of its arguments goes by.
    looked : (call : CallFor kind) → (before : Contents) × (looked_at kind call sheet ≡ accept before)
        × (argument_cause kind call before.list ≡ argument_cause kind call list)
        × (effect kind call before sheet ≡ effect kind call (record { list = list; shape = s }) sheet)
    unfolding looked_at by_lengths argument_cause effect
    looked clear = (empty, rw (lawful.view.lengths list s w shape), refl, refl)
    looked (change c) =
        (record { list = list; shape = s }, store_decided kind.view sheet _ (lawful.view.lengths list s w shape) (lawful.view.complete list s w shape), refl, refl)
    looked (ask q) =
        (record { list = list; shape = s }, store_decided kind.view sheet _ (lawful.view.lengths list s w shape) (lawful.view.complete list s w shape), refl, refl)

    pub sheet_program : (call : CallFor kind) → call_program kind call sheet ≡ program_on kind list s call (argument_cause kind call list)
    unfolding call_program decision call_program_by program_on
    sheet_program call =
        let l = looked call in
        rw l.1 (go (argument_cause kind call list) l.0 l.2 l.3)
      where
        go : (found : Option Cause) (before : Contents) → argument_cause kind call before.list ≡ found
            → effect kind call before sheet ≡ effect kind call (record { list = list; shape = s }) sheet
            → call_program_by kind call sheet (by_arguments (argument_cause kind call) (accept before)) ≡ program_on kind list s call found
        go none before e same = rw (arguments_none (argument_cause kind call) before e) same
        go (some cause) before e same = rw (arguments_some (argument_cause kind call) before cause e)

    -- Whether the call is refused, and by which cause, follows from the arguments and the list.
    pub sheet_refusal : (call : CallFor kind) → refusal_of (decision kind call sheet) ≡ argument_cause kind call list
    unfolding decision
    sheet_refusal call = let l = looked call in rw l.1 (go (argument_cause kind call list) l.0 l.2)
      where
        go : (found : Option Cause) (before : Contents) → argument_cause kind call before.list ≡ found
            → refusal_of (by_arguments (argument_cause kind call) (accept before)) ≡ found
        go none before e = rw (arguments_none (argument_cause kind call) before e)
        go (some cause) before e = rw (arguments_some (argument_cause kind call) before cause e)

  -- ---- a call on the sheets of the list

  accepted_keeps : (call : CallFor kind) (list : List ℕ) → kind.view.IsList list → argument_cause kind call list ≡ none
      → (canonical (length list) >>= λ s. effect kind call (record { list = list; shape = s }) (kind.view.lay list s))
      ≈ sheets_of kind.view (list_after kind call list)
  unfolding argument_cause effect list_after sheets_of
  accepted_keeps clear list w free =
      ≈_trans (bind_const (canonical (length list)) _ (canonical_live (length list))) (≈_sym (≈_path (empty_sheets kind.view)))
  accepted_keeps (change c) list w free = edited_keeps kind.view (kind.calls.edit c list) list (lawful.calls.reach c list w free)
  accepted_keeps (ask q) list w free = ≈_refl (sheets_of kind.view list)

  found_keeps : (call : CallFor kind) (list : List ℕ) (w : kind.view.IsList list) (found : Option Cause) → argument_cause kind call list ≡ found
      → (canonical (length list) >>= λ s. program_on kind list s call found)
      ≈ sheets_of kind.view (elim found [ some cause ↦ list | none ↦ list_after kind call list ])
  unfolding program_on sheets_of
  found_keeps call list w none h = accepted_keeps call list w h
  found_keeps call list w (some cause) h = ≈_refl (sheets_of kind.view list)

  -- A call on the sheets of the list leads to the sheets of the next list.
  pub call_keeps : (call : CallFor kind) (list : List ℕ) → kind.view.IsList list
      → (sheets_of kind.view list >>= call_program kind call) ≈ sheets_of kind.view (next_list kind call list)
  unfolding sheets_of next_list
  call_keeps call list w =
      ≈_trans (≈_path (bind_bind (canonical (length list)) (λ s. done (kind.view.lay list s)) (call_program kind call)))
      (≈_trans
      (bind_cong_ends (IsShape (length list)) (canonical (length list)) (canonical_ends (length list))
      (λ s shape. ≈_path (done_bind (kind.view.lay list s) (call_program kind call) ∙ sheet_program list s w shape call)))
      (found_keeps call list w (argument_cause kind call list) refl))
