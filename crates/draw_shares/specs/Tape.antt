-- A program read on a tape of words: each draw reads on from the place where the one before stopped.
-- Definitions only.
use Rattle.std.specs.Prelude.{List, [], ◌∷◌, ℕ, Option, Some, None}
use Rattle.draw.specs.declared.Drawn.{Drawn}
use Rattle.draw.specs.Draw.{draw_at}
use Rattle.draw_shares.specs.Program.{Program, done, draw}

-- What a run on a tape gives: a value and the place of the next word, or nothing, where the tape ended.
pub data Ran (A : Type 0) : Type 0 where
  ran : A → ℕ → Ran A
  ended : Ran A

unfoldable pub after_draw : {A : Type 0} → Option Drawn → (ℕ → ℕ → Ran A) → Ran A
after_draw (Some d) k = k d.face d.next
after_draw None k = ended

unfoldable pub after_run : {A B : Type 0} → Ran A → (A → ℕ → Ran B) → Ran B
after_run (ran a next) k = k a next
after_run ended k = ended

-- The run of a program on the words of the tape from the place `at` on.
unfoldable pub run_at : {A : Type 0} → Program A → List ℕ → ℕ → Ran A
run_at (done a) tape at = ran a at
run_at (draw m p) tape at = after_draw (draw_at m tape at) (λ face next. run_at (p face) tape next)

unfoldable pub faces_after : Option Drawn → (ℕ → ℕ → List ℕ) → List ℕ
faces_after (Some d) k = d.face ∷ k d.face d.next
faces_after None k = []

-- The faces that the words of the tape decide for a program, in the order of its draws.
unfoldable pub faces_on : {A : Type 0} → Program A → List ℕ → ℕ → List ℕ
faces_on (done a) tape at = []
faces_on (draw m p) tape at = faces_after (draw_at m tape at) (λ face next. faces_on (p face) tape next)
