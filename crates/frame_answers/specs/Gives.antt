-- What the code of a step has to leave, told by the slices. Definitions only.
use Rattle.std.specs.Prelude.{◌≡◌, List, ℕ}
use Rattle.call_outcomes.specs.Outcome.{Outcome}
use Rattle.call_outcomes.specs.Plain.{PlainStore}
use Rattle.frame_replies.specs.Reply.{line_of, bytes_of}
use Rattle.frame_replies.specs.Wrote.{Wrote}
use Rattle.frame_answers.specs.Step.{Kept, Answered, clear_line}

-- The slices as what is kept.
abbrev pub kept_of : PlainStore → List ℕ → ℕ → Kept
kept_of store tape waiting = record { store = store; tape = tape; waiting = waiting }

-- The answer stands at the front of the output, and the slices are what is kept.
pub record Gives (a : Answered) (output : List ℕ) (bytes waiting : ℕ) (store : PlainStore) (tape output' : List ℕ) : Type 0 where
  pub kept : kept_of store tape waiting ≡ a.kept
  pub wrote : Wrote output 0 (bytes_of a.replies) output' bytes

-- The same of a clear, which keeps the tape.
pub record ClearGives (o : Outcome PlainStore) (output : List ℕ) (bytes : ℕ) (store : PlainStore) (output' : List ℕ) : Type 0 where
  pub store_is : store ≡ o.store
  pub wrote : Wrote output 0 (line_of (clear_line o)) output' bytes
