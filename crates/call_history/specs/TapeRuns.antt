-- How many ways to fill the tapes of calls decide a course of them (document 01, "Histories and shares"). Definitions only.
use Rattle.std.specs.Prelude.{◌≡◌, Bool, true, false, ◌&&◌, List, [], ◌∷◌, ℕ, ◌*◌, ◌^◌, take, drop}
use Rattle.base.specs.Lists.{total}
use Rattle.draw.specs.Runs.{runs}
use Rattle.draw_shares.specs.Tape.{faces_on}
use Rattle.draw_shares.specs.Course.{Follows}
use Rattle.draw_shares.specs.CourseRuns.{decided, among_of, among_runs, numbers_on}
use Rattle.call_outcomes.specs.Kind.{Kind, CallFor, StoreFor}
use Rattle.call_outcomes.specs.Outcome.{call_program}
use Rattle.call_history.specs.History.{SentTo, store_after}

-- The words cut into tapes of these lengths.
unfoldable pub cut : List ℕ → List ℕ → List (List ℕ)
cut [] words = []
cut (n ∷ lengths) words = take n words ∷ cut lengths (drop n words)

-- How many ways to fill tapes of these lengths with 32-bit words pass the test.
unfoldable pub tape_runs : List ℕ → (List (List ℕ) → Bool) → ℕ
tape_runs lengths test = runs (2 ^ 32) (total lengths) (λ words. test (cut lengths words))

-- A call with its tape; the output that it is lent does not matter here.
unfoldable pub on_tape : (kind : Kind) → CallFor kind → List ℕ → SentTo kind
on_tape kind call tape = record { call = call; tape = tape; output = [] }

-- On its tape, each call has exactly its faces, each draw reading exactly its number of words, from the store that the calls before it left.
unfoldable pub tapes_decide : (kind : Kind) → List (CallFor kind) → StoreFor kind → List (List ℕ) → List (List ℕ) → List (List ℕ) → Bool
tapes_decide kind [] store [] [] tapes = true
tapes_decide kind [] store [] (ks ∷ numbers) tapes = false
tapes_decide kind [] store (fs ∷ faces) numbers tapes = false
tapes_decide kind (call ∷ calls) store [] numbers tapes = false
tapes_decide kind (call ∷ calls) store (fs ∷ faces) [] tapes = false
tapes_decide kind (call ∷ calls) store (fs ∷ faces) (ks ∷ numbers) [] = false
tapes_decide kind (call ∷ calls) store (fs ∷ faces) (ks ∷ numbers) (tape ∷ tapes) =
    decided (2 ^ 32) (call_program kind call store) fs ks tape 0 && tapes_decide kind calls (store_after kind (on_tape kind call tape) store) faces numbers tapes

-- The faces, call by call, are a course of the calls, and these are the numbers that they draw among.
unfoldable pub CallsAmong : (kind : Kind) → List (CallFor kind) → StoreFor kind → List (List ℕ) → List (List ℕ) → Type 0
CallsAmong kind [] store [] [] = Unit {0}
CallsAmong kind [] store [] (ms ∷ among) = ⊥
CallsAmong kind [] store (fs ∷ faces) among = ⊥
CallsAmong kind (call ∷ calls) store [] among = ⊥
CallsAmong kind (call ∷ calls) store (fs ∷ faces) [] = ⊥
CallsAmong kind (call ∷ calls) store (fs ∷ faces) (ms ∷ among) =
    (after : StoreFor kind) × Follows (call_program kind call store) fs after × (among_of (call_program kind call store) fs ≡ ms)
    × CallsAmong kind calls after faces among

-- The product of `among_runs` over the calls.
unfoldable pub calls_runs : List (List ℕ) → List (List ℕ) → ℕ
calls_runs [] [] = 1
calls_runs [] (ks ∷ numbers) = 0
calls_runs (ms ∷ among) [] = 0
calls_runs (ms ∷ among) (ks ∷ numbers) = among_runs (2 ^ 32) ms ks * calls_runs among numbers

-- The calls with these tapes.
unfoldable pub sent_with : (kind : Kind) → List (CallFor kind) → List (List ℕ) → List (SentTo kind)
sent_with kind [] tapes = []
sent_with kind (call ∷ calls) [] = []
sent_with kind (call ∷ calls) (tape ∷ tapes) = on_tape kind call tape ∷ sent_with kind calls tapes

-- The faces that the words of the tapes decide, and the numbers of words that the draws read, call by call.
unfoldable pub faces_by_call : (kind : Kind) → List (SentTo kind) → StoreFor kind → List (List ℕ)
faces_by_call kind [] store = []
faces_by_call kind (sent ∷ rest) store =
    faces_on (call_program kind sent.call store) sent.tape 0 ∷ faces_by_call kind rest (store_after kind sent store)

unfoldable pub numbers_by_call : (kind : Kind) → List (SentTo kind) → StoreFor kind → List (List ℕ)
numbers_by_call kind [] store = []
numbers_by_call kind (sent ∷ rest) store =
    numbers_on (call_program kind sent.call store) sent.tape 0 ∷ numbers_by_call kind rest (store_after kind sent store)
