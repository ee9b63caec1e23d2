-- When a test tells values apart. Definitions only.
use Rattle.std.specs.Prelude.{◌≡◌, Bool, true}

-- A test that tells values apart.
pub record EqualityTest {A : Type 0} (equal : A → A → Bool) : Type 0 where
  pub itself : (a : A) → equal a a ≡ true
  pub sound : (a b : A) → equal a b ≡ true → a ≡ b
