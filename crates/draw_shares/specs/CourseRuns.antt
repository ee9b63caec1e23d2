-- How many runs of words decide a course of a program (document 01, "Coins" and "Histories and shares"). Definitions only.
use Rattle.std.specs.Prelude.{Bool, true, false, ◌&&◌, List, [], ◌∷◌, ℕ, ◌+◌, ◌-◌, ◌*◌, Option, Some, None}
use Rattle.base.specs.Lists.{total}
use Rattle.draw.specs.declared.Drawn.{Drawn}
use Rattle.draw.specs.Draw.{draw_from, draw_at}
use Rattle.draw.specs.Runs.{runs, gives, face_runs, draw_runs}
use Rattle.draw_shares.specs.Program.{Program, done, draw}

module _ {A : Type 0} (W : ℕ) where
  -- Read from the place `at` on, the words decide exactly these faces, each draw reading exactly its number of words.
  unfoldable pub decided : Program A → List ℕ → List ℕ → List ℕ → ℕ → Bool
  decided (done a) [] [] words at = true
  decided (done a) [] (k ∷ numbers) words at = false
  decided (done a) (face ∷ faces) numbers words at = false
  decided (draw m p) [] numbers words at = false
  decided (draw m p) (face ∷ faces) [] words at = false
  decided (draw m p) (face ∷ faces) (k ∷ numbers) words at =
      gives face (at + k) (draw_from W m words at) && decided (p face) faces numbers words (at + k)

  -- How many runs of as many words as the numbers are together decide this course with these numbers.
  unfoldable pub deciding_runs : Program A → List ℕ → List ℕ → ℕ
  deciding_runs p faces numbers = runs W (total numbers) (λ words. decided p faces numbers words 0)

  -- The product, over the draws of the course, of the runs of words that give its face by its number of words.
  unfoldable pub course_runs : Program A → List ℕ → List ℕ → ℕ
  course_runs (done a) [] [] = 1
  course_runs (done a) [] (k ∷ numbers) = 0
  course_runs (done a) (face ∷ faces) numbers = 0
  course_runs (draw m p) [] numbers = 0
  course_runs (draw m p) (face ∷ faces) [] = 0
  course_runs (draw m p) (face ∷ faces) (k ∷ numbers) = face_runs W m face k * course_runs (p face) faces numbers

-- The numbers that the program draws among, one after the other, as the faces come.
unfoldable pub among_of : {A : Type 0} → Program A → List ℕ → List ℕ
among_of (done a) faces = []
among_of (draw m p) [] = []
among_of (draw m p) (face ∷ faces) = m ∷ among_of (p face) faces

-- The product of `draw_runs` over draws among these numbers that read these numbers of words.
unfoldable pub among_runs : ℕ → List ℕ → List ℕ → ℕ
among_runs W [] [] = 1
among_runs W [] (k ∷ numbers) = 0
among_runs W (m ∷ ms) [] = 0
among_runs W (m ∷ ms) (k ∷ numbers) = draw_runs W m k * among_runs W ms numbers

unfoldable pub numbers_after : ℕ → Option Drawn → (ℕ → ℕ → List ℕ) → List ℕ
numbers_after at (Some d) k = (d.next - at) ∷ k d.face d.next
numbers_after at None k = []

-- The numbers of words of the tape that the draws of a program read, in their order.
unfoldable pub numbers_on : {A : Type 0} → Program A → List ℕ → ℕ → List ℕ
numbers_on (done a) tape at = []
numbers_on (draw m p) tape at = numbers_after at (draw_at m tape at) (λ face next. numbers_on (p face) tape next)
