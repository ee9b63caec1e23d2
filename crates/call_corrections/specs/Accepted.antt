-- Calls that are accepted one after the other, for any kind of sheet. Definitions only.
use Rattle.std.specs.Prelude.{◌≡◌, List, [], ◌∷◌, ℕ}
use Rattle.store_layout.specs.Decode.{Contents}
use Rattle.call_outcomes.specs.Kind.{SheetOf, Kind, CallFor, StoreFor}
use Rattle.call_outcomes.specs.Causes.{accept, decision}
use Rattle.call_history.specs.History.{next_list}

-- The call is accepted on the sheets of the list: on none of them, whatever its shape, does a cause before 7 refuse it.
unfoldable pub AcceptedOn : (kind : Kind) → List ℕ → CallFor kind → Type 0
AcceptedOn kind list call = (store : StoreFor kind) → SheetOf kind.view list store → (before : Contents) × (decision kind call store ≡ accept before)

-- Each of the calls is accepted on the sheets of the list that the calls before it lead to.
unfoldable pub AllAccepted : (kind : Kind) → List (CallFor kind) → List ℕ → Type 0
AllAccepted kind [] list = Unit {0}
AllAccepted kind (call ∷ calls) list = AcceptedOn kind list call × AllAccepted kind calls (next_list kind call list)
