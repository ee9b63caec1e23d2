-- Programs that draw faces and end with a value. Definitions only.
use Rattle.std.specs.Prelude.{ℕ, ◌<◌, ◌≤◌}

infixl 30 ◌>>=◌
-- A program ends with a value, or draws among m faces and goes on by the face, which is below m.
pub data Program (A : Type 0) : Type 0 where
  done : A → Program A
  draw : ℕ → (ℕ → Program A) → Program A

-- The program p, and then the one that its value tells.
unfoldable pub ◌>>=◌ : {A B : Type 0} → Program A → (A → Program B) → Program B
◌>>=◌ (done a) k = k a
◌>>=◌ (draw m p) k = draw m (λ face. p face >>= k)

-- Among 1 to W faces: words below W can decide such a draw.
abbrev pub Among : ℕ → ℕ → Type 0
Among W m = (0 < m) × (m ≤ W)

module _ {A : Type 0} where
  -- P holds of the number of faces of every draw that can come.
  unfoldable pub Draws : (ℕ → Type 0) → Program A → Type 0
  Draws P (done a) = Unit {0}
  Draws P (draw m p) = P m × ((face : ℕ) → face < m → Draws P (p face))

  -- Every draw that can come has a face.
  abbrev pub Live : Program A → Type 0
  Live = Draws (λ m. 0 < m)

  -- R holds of every value that the program can end with.
  unfoldable pub Ends : (A → Type 0) → Program A → Type 0
  Ends R (done a) = R a
  Ends R (draw m p) = (face : ℕ) → face < m → Ends R (p face)
