-- Demand 3 for the clubs' sheets.
use Rattle.std.specs.Prelude.{◌≡◌, ◌↔◌, List, ◌∷◌, length}
use Rattle.draw_shares.specs.Fraction.{◌≐◌, unit}
use Rattle.draw_shares.specs.Course.{Follows, share}
use Rattle.tree_rules.specs.Tree.{Shape, IsShape}
use Rattle.tree_canonical.specs.ShapeShare.{shape_product}
use Rattle.call_outcomes.specs.PlainCalls.{Call}
use Rattle.call_outcomes.specs.Plain.{plain_view, plain, PlainStore, PlainLengths, lay_plain, equal_plain}
use Rattle.call_outcomes.proofs.PlainLaws.{plain_right}
use Rattle.call_outcomes.specs.Clubs.{clubs}
use Rattle.call_outcomes.proofs.ClubsLaws.{clubs_lawful}
use Rattle.call_history.specs.History.{history, list_at_end, SameTable, Sent, clearing, last_store, NoneEnds, faces_sent, calls_of}
use Rattle.call_history.specs.Words.{words_of}
use Rattle.call_history.proofs.Independence.{history_independent}
use Rattle.call_history.proofs.Shares.{sheet_share}

-- For every two histories, on stores that held anything at all before: every store has the same share in both exactly when both end with
-- the same list.
pub clause : (calls calls' : List Call) (store store' : PlainStore) → PlainLengths clubs store → PlainLengths clubs store'
    → SameTable (plain_view clubs) (history (plain clubs) calls store) (history (plain clubs) calls' store')
    ↔ (list_at_end (plain clubs) calls ≡ list_at_end (plain clubs) calls')
clause calls calls' store store' right right' =
    history_independent (plain clubs) clubs_lawful calls calls' store store' (plain_right clubs store right) (plain_right clubs store' right')

-- For every history and whatever words the tapes of its calls hold: if no call returns 7, the calls leave exactly the store with which the
-- course ends whose faces those words decide.
pub words : (sent : List (Sent Call)) (store : PlainStore) → NoneEnds (plain clubs) (clearing (plain clubs) ∷ sent) store → (final : PlainStore)
    → Follows (history (plain clubs) (calls_of sent) store) (faces_sent (plain clubs) (clearing (plain clubs) ∷ sent) store) final
    ↔ (final ≡ last_store (plain clubs) (clearing (plain clubs) ∷ sent) store)
words = words_of (plain clubs)

-- Each sheet of the list at the end has the share 1 / N times 1 / c for each range above the leaves.
pub sheet_shares : (calls : List Call) (store : PlainStore) → PlainLengths clubs store → (s : Shape) → IsShape (length (list_at_end (plain clubs) calls)) s
    → share (equal_plain (lay_plain clubs (list_at_end (plain clubs) calls) s)) (history (plain clubs) calls store)
    ≐ unit (shape_product (length (list_at_end (plain clubs) calls)) s)
sheet_shares calls store right = sheet_share (plain clubs) clubs_lawful calls store (plain_right clubs store right)
