-- Words that decide a course. Definitions only.
use Rattle.std.specs.Prelude.{List, [], ◌∷◌, ℕ}
use Rattle.base.specs.Cases.{if_eq}
use Rattle.draw_shares.specs.Program.{Program, done, draw}

-- The faces as words, but for draws among 1, which read none.
unfoldable pub course_tape : {A : Type 0} → Program A → List ℕ → List ℕ
course_tape (done a) faces = []
course_tape (draw m p) [] = []
course_tape (draw m p) (face ∷ faces) = if_eq m 1 (course_tape (p face) faces) (face ∷ course_tape (p face) faces)
