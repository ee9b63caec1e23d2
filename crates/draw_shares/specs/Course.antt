-- The courses of a program and the shares of its values (document 01, "Histories and shares").
-- Definitions only.
use Rattle.std.specs.Prelude.{◌≡◌, Bool, cond, List, [], ◌∷◌, ◌++◌, map, ℕ, zero, suc, ◌+◌, ◌*◌, ◌<◌}
use Rattle.base.specs.Lists.{equal_lists}
use Rattle.draw_shares.specs.Program.{Program, done, draw}
use Rattle.draw_shares.specs.Fraction.{Fraction, plus, whole, unit}

-- The faces are one possible run of faces for the program's draws, in order, and it then ends with the value.
unfoldable pub Follows : {A : Type 0} → Program A → List ℕ → A → Type 0
Follows (done a) [] b = a ≡ b
Follows (done a) (face ∷ faces) b = ⊥
Follows (draw m p) [] b = ⊥
Follows (draw m p) (face ∷ faces) b = (face < m) × Follows (p face) faces b

-- A course: the numbers drawn among, the faces, and the value at the end.
pub record Course (A : Type 0) : Type 0 where
  pub among : List ℕ
  pub faces : List ℕ
  pub end : A

-- The lists h 0, .., h (n - 1), one after the other.
unfoldable pub concat_below : {B : Type 0} → ℕ → (ℕ → List B) → List B
concat_below zero h = []
concat_below (suc n) h = concat_below n h ++ h n

unfoldable pub product : List ℕ → ℕ
product [] = 1
product (m ∷ ms) = m * product ms

module _ {A : Type 0} where
  -- a course with one draw more before it
  unfoldable pub before : ℕ → ℕ → Course A → Course A
  before m face c = record { among = m ∷ c.among; faces = face ∷ c.faces; end = c.end }

  -- All courses of a program.
  unfoldable pub courses : Program A → List (Course A)
  courses (done a) = record { among = []; faces = []; end = a } ∷ []
  courses (draw m p) = concat_below m (λ face. map (before m face) (courses (p face)))

  -- The share of a course: 1 over the product of the numbers drawn among.
  unfoldable pub course_share : Course A → Fraction
  course_share c = unit (product c.among)

  -- The sum of the shares of those courses that end with a value that passes the test.
  unfoldable pub sum_shares : (A → Bool) → List (Course A) → Fraction
  sum_shares test [] = whole 0
  sum_shares test (c ∷ cs) = plus (cond (test c.end) (course_share c) (whole 0)) (sum_shares test cs)

  -- The share of the values that pass the test; of one value v, where the test is equality with v.
  unfoldable pub share : (A → Bool) → Program A → Fraction
  share test p = sum_shares test (courses p)

  -- How many of the courses have these faces.
  unfoldable pub listed : List ℕ → List (Course A) → ℕ
  listed faces [] = 0
  listed faces (c ∷ cs) = cond (equal_lists faces c.faces) 1 0 + listed faces cs
