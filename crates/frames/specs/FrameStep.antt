-- A step made by a C program, which keeps the number of waiting words in a slice. Definitions only.
use Rattle.std.specs.Prelude.{List, ℕ, length, get_or, set}
use Rattle.base.specs.Cases.{if_lt}
use Rattle.call_outcomes.specs.Plain.{PlainStore}
use Rattle.frame_answers.specs.Step.{Step, step_of}
use Rattle.frame_answers.specs.Gives.{kept_of}

pub record FrameStep : Type 0 where
  pub bytes : ℕ
  pub store : PlainStore
  pub tape : List ℕ
  pub waiting : List ℕ
  pub output : List ℕ

-- What a step leaves, with the number of words that wait put at the front of the slice.
unfoldable pub with_waiting : Step → List ℕ → FrameStep
with_waiting s waiting = record {
  bytes = s.bytes;
  store = s.kept.store;
  tape = s.kept.tape;
  waiting = set waiting 0 s.kept.waiting;
  output = s.output;
}

-- The step with the number at the front of the slice; where the slice is empty, nothing is done.
unfoldable pub frame_step : List ℕ → PlainStore → List ℕ → List ℕ → List ℕ → FrameStep
frame_step line store tape waiting output =
    if_lt (length waiting) 1 (record { bytes = 0; store = store; tape = tape; waiting = waiting; output = output })
    (with_waiting (step_of line (kept_of store tape (get_or waiting 0 0)) output) waiting)
