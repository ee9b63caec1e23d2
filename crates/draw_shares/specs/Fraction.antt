-- Fractions: one whole number over another, compared crosswise. Definitions only.
use Rattle.std.specs.Prelude.{◌≡◌, ℕ, zero, suc, ◌+◌, ◌*◌, ◌<◌}
use Rattle.std.proofs.Common.{mul-pos, zero-lt-suc}

infixl 20 ◌≐◌
pub record Fraction : Type 0 where
  pub num : ℕ
  pub den : ℕ
  pub pos : 0 < den

-- Two fractions are the same when they agree crosswise.
abbrev pub ◌≐◌ : Fraction → Fraction → Type 0
◌≐◌ x y = x.num * y.den ≡ y.num * x.den

abbrev pub plus : Fraction → Fraction → Fraction
plus x y = record {
  num = x.num * y.den + y.num * x.den;
  den = x.den * y.den;
  pos = mul-pos x.pos y.pos;
}

abbrev pub times : Fraction → Fraction → Fraction
times x y = record {
  num = x.num * y.num;
  den = x.den * y.den;
  pos = mul-pos x.pos y.pos;
}

-- n over 1
abbrev pub whole : ℕ → Fraction
whole n = record { num = n; den = 1; pos = zero-lt-suc 0 }

-- 1 over m; 0 for m = 0
unfoldable pub unit : ℕ → Fraction
unit zero = whole 0
unit (suc m) = record { num = 1; den = suc m; pos = zero-lt-suc m }
