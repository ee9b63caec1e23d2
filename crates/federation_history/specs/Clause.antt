-- Demand 3 for the federation's sheets (document 02, F-14): the theory of any kind of sheet, at this one.
use Rattle.std.specs.Prelude.{◌≡◌, ◌↔◌, List, ◌∷◌, ℕ, ◌^◌, length}
use Rattle.draw_shares.specs.Fraction.{◌≐◌, unit}
use Rattle.draw_shares.specs.Program.{Among, Draws}
use Rattle.draw_shares.specs.Course.{Follows, share}
use Rattle.tree_rules.specs.Tree.{Shape, IsShape}
use Rattle.tree_canonical.specs.ShapeShare.{shape_product}
use Rattle.call_outcomes.specs.Kind.{SheetOf}
use Rattle.call_outcomes.specs.Outcome.{call_program}
use Rattle.call_outcomes.specs.PlainCalls.{Call}
use Rattle.call_outcomes.specs.Plain.{plain_view, plain, PlainStore, PlainLengths, lay_plain, equal_plain}
use Rattle.call_outcomes.proofs.PlainLaws.{plain_right}
use Rattle.call_outcomes.specs.Federation.{federation}
use Rattle.call_outcomes.proofs.FederationLaws.{federation_ready, federation_lawful}
use Rattle.call_history.specs.History.{history, list_at_end, SameTable, Sent, clearing, last_store, NoneEnds, faces_sent, calls_of}
use Rattle.call_history.proofs.Supply.{program_draws, history_supplied}
use Rattle.call_history.proofs.PlainSupply.{plain_suppliable}
use Rattle.call_history.specs.Words.{words_of}
use Rattle.call_history.proofs.Independence.{history_independent}
use Rattle.call_history.proofs.Shares.{sheet_share}

-- For every two histories, on stores that held anything at all before: every store has the same share in both exactly when both end with
-- the same list.
pub clause : (calls calls' : List Call) (store store' : PlainStore) → PlainLengths federation store → PlainLengths federation store'
    → SameTable (plain_view federation) (history (plain federation) calls store) (history (plain federation) calls' store')
    ↔ (list_at_end (plain federation) calls ≡ list_at_end (plain federation) calls')
clause calls calls' store store' right right' =
    history_independent (plain federation) federation_lawful calls calls' store store' (plain_right federation store right) (plain_right federation store' right')

-- For every history and whatever words the tapes of its calls hold: if no call returns 7, the calls leave exactly the store with which the
-- course ends whose faces those words decide.
pub words : (sent : List (Sent Call)) (store : PlainStore) → NoneEnds (plain federation) (clearing (plain federation) ∷ sent) store → (final : PlainStore)
    → Follows (history (plain federation) (calls_of sent) store) (faces_sent (plain federation) (clearing (plain federation) ∷ sent) store) final
    ↔ (final ≡ last_store (plain federation) (clearing (plain federation) ∷ sent) store)
words = words_of (plain federation)

-- Each sheet of the list at the end has the share 1 / N times 1 / c for each range above the leaves.
pub sheet_shares : (calls : List Call) (store : PlainStore) → PlainLengths federation store → (s : Shape) → IsShape (length (list_at_end (plain federation) calls)) s
    → share (equal_plain (lay_plain federation (list_at_end (plain federation) calls) s)) (history (plain federation) calls store)
    ≐ unit (shape_product (length (list_at_end (plain federation) calls)) s)
sheet_shares calls store right = sheet_share (plain federation) federation_lawful calls store (plain_right federation store right)

-- Every draw that a call makes on any sheet is among 1 to 2^32.
pub draws_among : (list : List ℕ) (store : PlainStore) → SheetOf (plain_view federation) list store → (call : Call)
    → Draws (Among (2 ^ 32)) (call_program (plain federation) call store)
draws_among = program_draws (plain federation) federation_lawful (plain_suppliable federation_ready)

-- For every course of a history there are tapes such that no call returns 7 and the words decide this very course.
pub coins_supplied : (calls : List Call) (store : PlainStore) → PlainLengths federation store → (faces : List ℕ) (v : PlainStore)
    → Follows (history (plain federation) calls store) faces v
    → (sent : List (Sent Call)) × (calls_of sent ≡ calls) × NoneEnds (plain federation) (clearing (plain federation) ∷ sent) store
    × (faces_sent (plain federation) (clearing (plain federation) ∷ sent) store ≡ faces) × (last_store (plain federation) (clearing (plain federation) ∷ sent) store ≡ v)
coins_supplied calls store right =
    history_supplied (plain federation) federation_lawful (plain_suppliable federation_ready) calls store (plain_right federation store right)
