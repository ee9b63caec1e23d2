-- Parts of histories exchanged, for any kind of sheet: parts that lead from the list before them to the same list.
use Rattle.std.specs.Prelude.{◌≡◌, true, ℕ}
use Rattle.std.proofs.Math.Path.{refl}
use Rattle.std.proofs.Common.{sym, ap, ◌∙◌}
use mathlib.Core.List.{List, [], ◌∷◌, ◌++◌}
use Rattle.std.proofs.Math.Option.{none}
use Rattle.call_outcomes.specs.Kind.{Kind, Lawful, CallFor, StoreFor}
use Rattle.call_outcomes.specs.Causes.{argument_cause}
use Rattle.call_outcomes.specs.Outcome.{list_after}
use Rattle.call_history.specs.History.{history, next_list, final_list, list_at_end, SameTable}
use Rattle.call_history.proofs.Independence.{history_independent}
use Rattle.call_history.specs.Refusals.{goes_on}
use Rattle.call_corrections.specs.Accepted.{AcceptedOn, AllAccepted}

module _ (kind : Kind) where
  -- The list after a call that no cause of its arguments refuses.
  pub next_free : (call : CallFor kind) (list : List ℕ) → argument_cause kind call list ≡ none → next_list kind call list ≡ list_after kind call list
  unfolding next_list
  next_free call list free = rw (free, next_list)

  -- The list after some calls and then others.
  pub final_append : (calls more : List (CallFor kind)) (list : List ℕ)
      → final_list kind (calls ++ more) list ≡ final_list kind more (final_list kind calls list)
  unfolding final_list
  final_append [] more list = refl
  final_append (call ∷ calls) more list = final_append calls more (next_list kind call list)

  -- The list after two calls of which no cause of the arguments refuses one.
  pub two_lead : (call call' : CallFor kind) (list : List ℕ) → argument_cause kind call list ≡ none
      → argument_cause kind call' (list_after kind call list) ≡ none → final_list kind (call ∷ call' ∷ []) list ≡ list_after kind call' (list_after kind call list)
  unfolding final_list
  two_lead call call' list free free' = rw (next_free call list free) (next_free call' (list_after kind call list) free')

module _ (kind : Kind) (lawful : Lawful kind) where
  -- A call that no cause of its arguments refuses is accepted on the sheets of the list.
  pub free_accepted : (call : CallFor kind) (list : List ℕ) → argument_cause kind call list ≡ none → AcceptedOn kind list call
  unfolding AcceptedOn
  free_accepted call list free store w = goes_on kind lawful list store w call free

  -- Two calls one after the other, the second on the list to which the first one leads.
  pub two_accepted : (call call' : CallFor kind) (list : List ℕ) → argument_cause kind call list ≡ none
      → argument_cause kind call' (list_after kind call list) ≡ none → AllAccepted kind (call ∷ call' ∷ []) list
  unfolding AllAccepted
  two_accepted call call' list free free' =
      (free_accepted call list free, (rw (next_free kind call list free) (free_accepted call' (list_after kind call list) free'), tt))

  module _ (before part part' after : List (CallFor kind)) (store store' : StoreFor kind)
      (right : kind.view.right_lengths store ≡ true) (right' : kind.view.right_lengths store' ≡ true) where
    through : (middle : List (CallFor kind))
        → list_at_end kind (before ++ (middle ++ after)) ≡ final_list kind after (final_list kind middle (list_at_end kind before))
    unfolding list_at_end
    through middle = final_append kind before (middle ++ after) [] ∙ final_append kind middle after (final_list kind before [])

    -- Where two parts lead from the list before them to the same list, the history with the one and the history with the other, between the
    -- same calls, give every store the same share.
    pub parts_exchanged : final_list kind part (list_at_end kind before) ≡ final_list kind part' (list_at_end kind before)
        → SameTable kind.view (history kind (before ++ (part ++ after)) store) (history kind (before ++ (part' ++ after)) store')
    parts_exchanged same =
        (history_independent kind lawful (before ++ (part ++ after)) (before ++ (part' ++ after)) store store' right right').1
        (through part ∙ ap (final_list kind after) same ∙ sym (through part'))
