-- Demand 3, for any kind of sheet: for every two histories the tables of shares are equal exactly when the lists at the end are.
use Rattle.std.specs.Prelude.{◌≡◌, true, ◌↔◌, ℕ}
use Rattle.std.proofs.Common.{sym, ap}
use mathlib.Core.List.{List, [], ◌∷◌}
use Rattle.draw_shares.specs.Program.{◌>>=◌}
use Rattle.draw_shares.specs.ProgramLaws.{bind_bind, bind_done}
use Rattle.draw_shares.specs.Rational.{≐_trans}
use Rattle.draw_shares.specs.Course.{share}
use Rattle.draw_shares.specs.Same.{◌≈◌}
use Rattle.draw_shares.specs.SameLaws.{≈_sym, ≈_trans, ≈_path, bind_cong_left}
use Rattle.draw_shares.proofs.ShareLaws.{same_shares}
use Rattle.draw_shares.proofs.Apart.{tables_meet}
use Rattle.call_outcomes.specs.Kind.{SheetOf, clear, Kind, Lawful, CallFor, StoreFor}
use Rattle.call_outcomes.specs.KindLaws.{one_list}
use Rattle.call_outcomes.specs.Causes.{by_lengths, looked_at, argument_cause, by_arguments, decision}
use Rattle.call_outcomes.specs.Outcome.{effect, call_program_by, call_program}
use Rattle.call_history.specs.History.{run_calls, history, next_list, final_list, list_at_end, SameTable}
use Rattle.call_history.specs.CallKeeps.{sheets_of, empty_sheets, sheets_end, sheets_live, next_list_lem, call_keeps}

module _ (kind : Kind) (lawful : Lawful kind) where
  -- ---- a history leads to the sheets of its list

  runs_keep : (calls : List (CallFor kind)) (list : List ℕ) → kind.view.IsList list
      → (sheets_of kind.view list >>= run_calls kind calls) ≈ sheets_of kind.view (final_list kind calls list)
  unfolding run_calls final_list
  runs_keep [] list w = ≈_path (bind_done (sheets_of kind.view list))
  runs_keep (call ∷ calls) list w =
      ≈_trans (≈_sym (≈_path (bind_bind (sheets_of kind.view list) (call_program kind call) (run_calls kind calls))))
      (≈_trans (bind_cong_left (run_calls kind calls) (call_keeps kind lawful call list w))
      (runs_keep calls (next_list kind call list) (next_list_lem kind lawful call list w)))

  final_list_lem : (calls : List (CallFor kind)) (list : List ℕ) → kind.view.IsList list → kind.view.IsList (final_list kind calls list)
  unfolding final_list
  final_list_lem [] list w = w
  final_list_lem (call ∷ calls) list w = final_list_lem calls (next_list kind call list) (next_list_lem kind lawful call list w)

  pub end_list : (calls : List (CallFor kind)) → kind.view.IsList (list_at_end kind calls)
  unfolding list_at_end
  end_list calls = final_list_lem calls [] lawful.view.no_entry

  -- A store of the right lengths is cleared, whatever it holds.
  pub clear_program : (store : StoreFor kind) → kind.view.right_lengths store ≡ true → call_program kind clear store ≡ sheets_of kind.view []
  unfolding call_program decision looked_at by_lengths by_arguments argument_cause call_program_by effect
  clear_program store right = rw right (sym (empty_sheets kind.view))

  pub history_sheets : (calls : List (CallFor kind)) (store : StoreFor kind) → kind.view.right_lengths store ≡ true
      → history kind calls store ≈ sheets_of kind.view (list_at_end kind calls)
  unfolding history run_calls list_at_end
  history_sheets calls store right = rw (clear_program store right) (runs_keep calls [] lawful.view.no_entry)

  -- ---- the theorem

  module _ (calls calls' : List (CallFor kind)) (store store' : StoreFor kind)
      (right : kind.view.right_lengths store ≡ true) (right' : kind.view.right_lengths store' ≡ true) where
    same_list : SameTable kind.view (history kind calls store) (history kind calls' store') → list_at_end kind calls ≡ list_at_end kind calls'
    unfolding SameTable
    same_list tables =
        let end = list_at_end kind calls in
        let end' = list_at_end kind calls' in
        let sheets = sheets_of kind.view end in
        let sheets' = sheets_of kind.view end' in
        let met = tables_meet (SheetOf kind.view end) (SheetOf kind.view end') kind.view.equal sheets sheets' lawful.view.test
        (sheets_live kind.view end) (sheets_end kind.view end (end_list calls)) (sheets_end kind.view end' (end_list calls'))
        (λ v.
        let test = kind.view.equal v in
        ≐_trans (share test sheets) (share test (history kind calls store)) (share test sheets')
        (same_shares (≈_sym (history_sheets calls store right)) test)
        (≐_trans (share test (history kind calls store)) (share test (history kind calls' store')) (share test sheets')
        (tables v) (same_shares (history_sheets calls' store' right') test))) in
        one_list kind.view lawful.view end end' met.0 met.1 met.2

    same_table : list_at_end kind calls ≡ list_at_end kind calls' → SameTable kind.view (history kind calls store) (history kind calls' store')
    unfolding SameTable
    same_table e v =
        same_shares
        (≈_trans (history_sheets calls store right) (≈_trans (≈_path (ap (sheets_of kind.view) e)) (≈_sym (history_sheets calls' store' right'))))
        (kind.view.equal v)

    -- Every store has the same share in both histories exactly when both end with the same list.
    pub history_independent : SameTable kind.view (history kind calls store) (history kind calls' store') ↔ (list_at_end kind calls ≡ list_at_end kind calls')
    history_independent = (same_list, same_table)
