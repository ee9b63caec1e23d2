-- Demand 3 for the clubs' timed sheets: the theory of any kind of sheet, at this one.
use Rattle.std.specs.Prelude.{◌≡◌, ◌↔◌, List, ◌∷◌, length}
use Rattle.draw_shares.specs.Fraction.{◌≐◌, unit}
use Rattle.draw_shares.specs.Course.{Follows, share}
use Rattle.tree_rules.specs.Tree.{Shape, IsShape}
use Rattle.tree_canonical.specs.ShapeShare.{shape_product}
use Rattle.call_outcomes.specs.Kind.{Lawful}
use Rattle.call_outcomes.specs.Clubs.{clubs}
use Rattle.call_outcomes.proofs.ClubsLaws.{clubs_roomy}
use Rattle.call_history.specs.History.{history, list_at_end, SameTable, Sent, clearing, last_store, NoneEnds, faces_sent, calls_of}
use Rattle.call_history.specs.Words.{words_of}
use Rattle.call_history.proofs.Independence.{history_independent}
use Rattle.call_history.proofs.Shares.{sheet_share}
use Rattle.call_timed.specs.Timed.{TimedStore, lay_timed, TimedLengths, equal_timed, timed_view, timed, TimedCall}
use Rattle.call_timed.proofs.TimedLaws.{timed_right, timed_lawful}

pub clubs_timed : Lawful (timed clubs)
clubs_timed = timed_lawful clubs clubs_roomy

-- For every two timed histories, on stores of four slices that held anything at all before: every store has the same share in both exactly
-- when both end with the same list.
pub clause : (calls calls' : List TimedCall) (store store' : TimedStore) → TimedLengths clubs store → TimedLengths clubs store'
    → SameTable (timed_view clubs) (history (timed clubs) calls store) (history (timed clubs) calls' store')
    ↔ (list_at_end (timed clubs) calls ≡ list_at_end (timed clubs) calls')
clause calls calls' store store' right right' =
    history_independent (timed clubs) clubs_timed calls calls' store store' (timed_right clubs store right) (timed_right clubs store' right')

-- For every timed history and whatever words the tapes of its calls hold: if no call returns 7, the calls leave exactly the store of four
-- slices with which the course ends whose faces those words decide.
pub words : (sent : List (Sent TimedCall)) (store : TimedStore) → NoneEnds (timed clubs) (clearing (timed clubs) ∷ sent) store → (final : TimedStore)
    → Follows (history (timed clubs) (calls_of sent) store) (faces_sent (timed clubs) (clearing (timed clubs) ∷ sent) store) final
    ↔ (final ≡ last_store (timed clubs) (clearing (timed clubs) ∷ sent) store)
words = words_of (timed clubs)

-- Each timed sheet of the list at the end has the share 1 / N times 1 / c for each range above the leaves.
pub sheet_shares : (calls : List TimedCall) (store : TimedStore) → TimedLengths clubs store → (s : Shape)
    → IsShape (length (list_at_end (timed clubs) calls)) s
    → share (equal_timed (lay_timed clubs (list_at_end (timed clubs) calls) s)) (history (timed clubs) calls store)
    ≐ unit (shape_product (length (list_at_end (timed clubs) calls)) s)
sheet_shares calls store right = sheet_share (timed clubs) clubs_timed calls store (timed_right clubs store right)
