-- Demand 3 for the federation's timed sheets (document 02, F-14): the theory of any kind of sheet, at this one.
use Rattle.std.specs.Prelude.{◌≡◌, ◌↔◌, List, ◌∷◌, ℕ, ◌^◌, length}
use Rattle.draw_shares.specs.Fraction.{◌≐◌, unit}
use Rattle.draw_shares.specs.Program.{Among, Draws}
use Rattle.draw_shares.specs.Course.{Follows, share}
use Rattle.tree_rules.specs.Tree.{Shape, IsShape}
use Rattle.tree_canonical.specs.ShapeShare.{shape_product}
use Rattle.call_outcomes.specs.Kind.{Lawful, SheetOf}
use Rattle.call_outcomes.specs.Outcome.{call_program}
use Rattle.call_outcomes.specs.Federation.{federation}
use Rattle.call_outcomes.proofs.FederationLaws.{federation_roomy, federation_ready}
use Rattle.call_history.specs.History.{history, list_at_end, SameTable, Sent, clearing, last_store, NoneEnds, faces_sent, calls_of}
use Rattle.call_history.proofs.Supply.{program_draws, history_supplied}
use Rattle.call_history.specs.Words.{words_of}
use Rattle.call_history.proofs.Independence.{history_independent}
use Rattle.call_history.proofs.Shares.{sheet_share}
use Rattle.call_timed.specs.Timed.{TimedStore, lay_timed, TimedLengths, equal_timed, timed_view, timed, TimedCall}
use Rattle.call_timed.proofs.TimedLaws.{timed_right, timed_lawful}
use Rattle.timed_history.specs.TimedSupply.{timed_suppliable}

pub federation_timed : Lawful (timed federation)
federation_timed = timed_lawful federation federation_roomy

-- For every two timed histories, on stores of four slices that held anything at all before: every store has the same share in both exactly
-- when both end with the same list.
pub clause : (calls calls' : List TimedCall) (store store' : TimedStore) → TimedLengths federation store → TimedLengths federation store'
    → SameTable (timed_view federation) (history (timed federation) calls store) (history (timed federation) calls' store')
    ↔ (list_at_end (timed federation) calls ≡ list_at_end (timed federation) calls')
clause calls calls' store store' right right' =
    history_independent (timed federation) federation_timed calls calls' store store' (timed_right federation store right) (timed_right federation store' right')

-- For every timed history and whatever words the tapes of its calls hold: if no call returns 7, the calls leave exactly the store of four
-- slices with which the course ends whose faces those words decide.
pub words : (sent : List (Sent TimedCall)) (store : TimedStore) → NoneEnds (timed federation) (clearing (timed federation) ∷ sent) store → (final : TimedStore)
    → Follows (history (timed federation) (calls_of sent) store) (faces_sent (timed federation) (clearing (timed federation) ∷ sent) store) final
    ↔ (final ≡ last_store (timed federation) (clearing (timed federation) ∷ sent) store)
words = words_of (timed federation)

-- Each timed sheet of the list at the end has the share 1 / N times 1 / c for each range above the leaves.
pub sheet_shares : (calls : List TimedCall) (store : TimedStore) → TimedLengths federation store → (s : Shape)
    → IsShape (length (list_at_end (timed federation) calls)) s
    → share (equal_timed (lay_timed federation (list_at_end (timed federation) calls) s)) (history (timed federation) calls store)
    ≐ unit (shape_product (length (list_at_end (timed federation) calls)) s)
sheet_shares calls store right = sheet_share (timed federation) federation_timed calls store (timed_right federation store right)

-- Every draw that a call makes on any timed sheet is among 1 to 2^32.
pub draws_among : (list : List ℕ) (store : TimedStore) → SheetOf (timed_view federation) list store → (call : TimedCall)
    → Draws (Among (2 ^ 32)) (call_program (timed federation) call store)
draws_among = program_draws (timed federation) federation_timed (timed_suppliable federation_ready)

-- For every course of a timed history there are tapes such that no call returns 7 and the words decide this very course.
pub coins_supplied : (calls : List TimedCall) (store : TimedStore) → TimedLengths federation store → (faces : List ℕ) (v : TimedStore)
    → Follows (history (timed federation) calls store) faces v
    → (sent : List (Sent TimedCall)) × (calls_of sent ≡ calls) × NoneEnds (timed federation) (clearing (timed federation) ∷ sent) store
    × (faces_sent (timed federation) (clearing (timed federation) ∷ sent) store ≡ faces) × (last_store (timed federation) (clearing (timed federation) ∷ sent) store ≡ v)
coins_supplied calls store right =
    history_supplied (timed federation) federation_timed (timed_suppliable federation_ready) calls store (timed_right federation store right)
