-- `shared` meets its contract.
use mathlib.Core.Path.{refl}
use Prim.Native.Nat.{◌+◌, ◌-◌, ◌^◌}
use native.Mathlib.Nat.{mul-le-mul}
use native.Mathlib.Numerals.{add-one}
use native.Mathlib.Omega.{arith}
use Rattle.store_ties.specs.Groups.{placing}
use Rattle.store_ties.specs.SumLaws.{sum_half}
use Rattle.store_ties.proofs.shared.Goals as goal

pub overflow_mul-result : goal.overflow_mul-result
overflow_mul-result c =
    let a = c.args in
    omega (arith, mul-le-mul {n₁ = a.first + 1 + a.end} {m₁ = a.end - a.first} {n₂ = 2 ^ 31} {m₂ = 2 ^ 30} (omega (arith, c.requires.some, c.requires.few)) (omega (arith, c.requires.few)))

pub returns : goal.returns
unfolding placing
returns c = rw (← sum_half c.args.first c.args.end (omega (arith, c.requires.some)), add-one c.args.first) refl
