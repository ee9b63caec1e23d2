-- The tapes of a history that its calls read to their ends (document 01, "Histories and shares"). Definitions only.
use Rattle.std.specs.Prelude.{◌≡◌, List, [], ◌∷◌, ◌++◌, ℕ, length, take}
use Rattle.base.specs.Lists.{total}
use Rattle.draw_shares.specs.Tape.{ran, run_at}
use Rattle.draw_shares.specs.CourseRuns.{numbers_on}
use Rattle.call_outcomes.specs.Kind.{Kind, StoreFor}
use Rattle.call_outcomes.specs.Outcome.{call_program}
use Rattle.call_history.specs.History.{Sent, SentTo, store_after}

module _ {Call : Type 0} where
  -- The tapes of the calls.
  unfoldable pub tapes_of : List (Sent Call) → List (List ℕ)
  tapes_of [] = []
  tapes_of (sent ∷ rest) = sent.tape ∷ tapes_of rest

  -- The words of the tapes, one after the other.
  unfoldable pub words_of : List (Sent Call) → List ℕ
  words_of [] = []
  words_of (sent ∷ rest) = sent.tape ++ words_of rest

-- Each call has exactly the words on its tape that it reads.
unfoldable pub AllRead : (kind : Kind) → List (SentTo kind) → StoreFor kind → Type 0
AllRead kind [] store = Unit {0}
AllRead kind (sent ∷ rest) store =
    (run_at (call_program kind sent.call store) sent.tape 0 ≡ ran (store_after kind sent store) (length sent.tape))
    × AllRead kind rest (store_after kind sent store)

-- The numbers of words that the draws of the calls read, in order.
unfoldable pub numbers_sent : (kind : Kind) → List (SentTo kind) → StoreFor kind → List ℕ
numbers_sent kind [] store = []
numbers_sent kind (sent ∷ rest) store =
    numbers_on (call_program kind sent.call store) sent.tape 0 ++ numbers_sent kind rest (store_after kind sent store)

-- The calls with just the words on their tapes that they read.
unfoldable pub words_read : (kind : Kind) → List (SentTo kind) → StoreFor kind → List (SentTo kind)
words_read kind [] store = []
words_read kind (sent ∷ rest) store =
    record {
      call = sent.call;
      tape = take (total (numbers_on (call_program kind sent.call store) sent.tape 0)) sent.tape;
      output = sent.output;
    }
    ∷ words_read kind rest (store_after kind sent store)
