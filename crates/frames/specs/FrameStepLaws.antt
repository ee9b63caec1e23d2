-- When a step for a C program is made.
use Rattle.std.specs.Prelude.{◌≡◌, List, ℕ, ◌≤◌, ◌<◌, length, get_or, set}
use Rattle.std.proofs.Math.Path.{sym}
use Rattle.base.specs.CaseLaws.{if_lt_yes, if_lt_no}
use Rattle.call_outcomes.specs.Plain.{PlainStore}
use Rattle.frame_answers.specs.Step.{step_of}
use Rattle.frame_answers.specs.Gives.{kept_of}
use Rattle.frames.specs.FrameStep.{with_waiting, frame_step}

module _ (line : List ℕ) (store : PlainStore) (tape waiting output : List ℕ) where
  pub frame_step_none : length waiting < 1
      → record { bytes = 0; store = store; tape = tape; waiting = waiting; output = output } ≡ frame_step line store tape waiting output
  unfolding frame_step
  frame_step_none l = sym (if_lt_yes (length waiting) 1 _ _ l)

  pub frame_step_done : 1 ≤ length waiting → {bytes left : ℕ} {store' : PlainStore} {tape' output' : List ℕ}
      → record { bytes = bytes; kept = kept_of store' tape' left; output = output' } ≡ step_of line (kept_of store tape (get_or waiting 0 0)) output
      → record { bytes = bytes; store = store'; tape = tape'; waiting = set waiting 0 left; output = output' } ≡ frame_step line store tape waiting output
  unfolding frame_step with_waiting
  frame_step_done l e = rw (if_lt_no (length waiting) 1 _ (with_waiting (step_of line (kept_of store tape (get_or waiting 0 0)) output) waiting) l, ← e)
