-- When two programs have the same shares: every weighting of the values has the same mean in both.
-- Definitions only.
use Rattle.std.specs.Prelude.{◌≡◌, ℕ, zero, suc}
use Rattle.draw_shares.specs.Rational.{Rational, ◌⊕◌, ◌⊗◌, nat, inv}
use Rattle.draw_shares.specs.Program.{Program, done, draw}

infixl 20 ◌≈◌
-- h 0 + .. + h (m - 1)
unfoldable pub sum : ℕ → (ℕ → Rational) → Rational
sum zero h = nat 0
sum (suc m) h = sum m h ⊕ h m

-- The mean of h over the faces below m.
unfoldable pub mean : ℕ → (ℕ → Rational) → Rational
mean m h = inv m ⊗ sum m h

-- The mean of g over the values that a program ends with: its expectation.
unfoldable pub expect : {A : Type 0} → Program A → (A → Rational) → Rational
expect (done a) g = g a
expect (draw m p) g = mean m (λ face. expect (p face) g)

pub record ◌≈◌ {A : Type 0} (p q : Program A) : Type 0 where
  pub means : (g : A → Rational) → expect p g ≡ expect q g
