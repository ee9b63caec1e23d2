-- The reviewer's page on the federation's sheets (document 02, F-14): what is claimed of them, a sentence and a theorem each. Their definitions are those
-- of the clubs' sheets at the capacity `federation` (call_outcomes, Federation).
use Rattle.std.specs.Prelude.{◌≡◌, ◌↔◌, List, ◌∷◌, ℕ, ◌^◌, ◌≤◌, length}
use Rattle.draw_shares.specs.Fraction.{◌≐◌, unit}
use Rattle.draw_shares.specs.Program.{Among, Draws}
use Rattle.draw_shares.specs.Course.{Follows, share}
use Rattle.tree_sizes.specs.Sizes.{height, Allowed, Fits}
use Rattle.tree_rules.specs.Tree.{Shape, IsShape}
use Rattle.tree_canonical.specs.ShapeShare.{shape_product}
use Rattle.call_outcomes.specs.Kind.{SheetOf}
use Rattle.call_outcomes.specs.Outcome.{call_program}
use Rattle.call_outcomes.specs.PlainCalls.{Call}
use Rattle.call_outcomes.specs.Plain.{plain_view, plain, PlainStore, PlainLengths, lay_plain, equal_plain}
use Rattle.call_outcomes.specs.Clubs.{clubs}
use Rattle.call_outcomes.specs.Federation.{federation}
use Rattle.call_outcomes.specs.FitLaws as fits
use Rattle.call_history.specs.History.{history, list_at_end, SameTable, Sent, clearing, last_store, NoneEnds, faces_sent, calls_of}
use Rattle.call_timed.specs.Timed.{TimedStore, lay_timed, TimedLengths, equal_timed, timed_view, timed, TimedCall}
use Rattle.federation_history.specs.Clause as clause
use Rattle.federation_history.specs.TimedClause as timed-clause

-- ---- sizes

-- For up to 65,536 entries, where the size parameter M goes to 131,071: candidates always fit, no leaf has more entries than slots, and for M > 64 no
-- leaf is empty. The clubs' sheets, of up to 1,024 entries, follow from it.
pub federation_fit : (N M : ℕ) → N ≤ federation.entries → Allowed N M → (M ≤ 131071) × Fits M (height M) 0 N
federation_fit = fits.federation_fit

pub clubs_fit : (N M : ℕ) → N ≤ clubs.entries → Allowed N M → Fits M (height M) 0 N
clubs_fit = fits.clubs_fit

-- ---- histories and shares

-- For every two histories, on stores that held anything at all before, every store has the same share in both exactly when both end with
-- the same list.
pub equal_tables : (calls calls' : List Call) (store store' : PlainStore) → PlainLengths federation store → PlainLengths federation store'
    → SameTable (plain_view federation) (history (plain federation) calls store) (history (plain federation) calls' store')
    ↔ (list_at_end (plain federation) calls ≡ list_at_end (plain federation) calls')
equal_tables = clause.clause

-- Each sheet of the list at the end has the share 1 / N times 1 / c for each range above the leaves.
pub sheet_shares : (calls : List Call) (store : PlainStore) → PlainLengths federation store → (s : Shape) → IsShape (length (list_at_end (plain federation) calls)) s
    → share (equal_plain (lay_plain federation (list_at_end (plain federation) calls) s)) (history (plain federation) calls store)
    ≐ unit (shape_product (length (list_at_end (plain federation) calls)) s)
sheet_shares = clause.sheet_shares

-- Whatever words the tapes of the calls hold, if no call returns 7, the calls leave the store with which the course ends whose faces those
-- words decide.
pub words_decide : (sent : List (Sent Call)) (store : PlainStore) → NoneEnds (plain federation) (clearing (plain federation) ∷ sent) store → (final : PlainStore)
    → Follows (history (plain federation) (calls_of sent) store) (faces_sent (plain federation) (clearing (plain federation) ∷ sent) store) final
    ↔ (final ≡ last_store (plain federation) (clearing (plain federation) ∷ sent) store)
words_decide = clause.words

-- Every draw that a call makes on any sheet is among 1 to 2^32, and for every course of a history there are tapes such that no call returns 7
-- and the words decide this very course.
pub draws_among : (list : List ℕ) (store : PlainStore) → SheetOf (plain_view federation) list store → (call : Call)
    → Draws (Among (2 ^ 32)) (call_program (plain federation) call store)
draws_among = clause.draws_among

pub coins_supplied : (calls : List Call) (store : PlainStore) → PlainLengths federation store → (faces : List ℕ) (v : PlainStore)
    → Follows (history (plain federation) calls store) faces v
    → (sent : List (Sent Call)) × (calls_of sent ≡ calls) × NoneEnds (plain federation) (clearing (plain federation) ∷ sent) store
    × (faces_sent (plain federation) (clearing (plain federation) ∷ sent) store ≡ faces) × (last_store (plain federation) (clearing (plain federation) ∷ sent) store ≡ v)
coins_supplied = clause.coins_supplied

-- ---- timed sheets

pub equal_timed_tables : (calls calls' : List TimedCall) (store store' : TimedStore) → TimedLengths federation store → TimedLengths federation store'
    → SameTable (timed_view federation) (history (timed federation) calls store) (history (timed federation) calls' store')
    ↔ (list_at_end (timed federation) calls ≡ list_at_end (timed federation) calls')
equal_timed_tables = timed-clause.clause

pub timed_sheet_shares : (calls : List TimedCall) (store : TimedStore) → TimedLengths federation store → (s : Shape)
    → IsShape (length (list_at_end (timed federation) calls)) s
    → share (equal_timed (lay_timed federation (list_at_end (timed federation) calls) s)) (history (timed federation) calls store)
    ≐ unit (shape_product (length (list_at_end (timed federation) calls)) s)
timed_sheet_shares = timed-clause.sheet_shares

pub timed_words_decide : (sent : List (Sent TimedCall)) (store : TimedStore) → NoneEnds (timed federation) (clearing (timed federation) ∷ sent) store → (final : TimedStore)
    → Follows (history (timed federation) (calls_of sent) store) (faces_sent (timed federation) (clearing (timed federation) ∷ sent) store) final
    ↔ (final ≡ last_store (timed federation) (clearing (timed federation) ∷ sent) store)
timed_words_decide = timed-clause.words

pub timed_draws_among : (list : List ℕ) (store : TimedStore) → SheetOf (timed_view federation) list store → (call : TimedCall)
    → Draws (Among (2 ^ 32)) (call_program (timed federation) call store)
timed_draws_among = timed-clause.draws_among

pub timed_coins_supplied : (calls : List TimedCall) (store : TimedStore) → TimedLengths federation store → (faces : List ℕ) (v : TimedStore)
    → Follows (history (timed federation) calls store) faces v
    → (sent : List (Sent TimedCall)) × (calls_of sent ≡ calls) × NoneEnds (timed federation) (clearing (timed federation) ∷ sent) store
    × (faces_sent (timed federation) (clearing (timed federation) ∷ sent) store ≡ faces) × (last_store (timed federation) (clearing (timed federation) ∷ sent) store ≡ v)
timed_coins_supplied = timed-clause.coins_supplied
