-- `joined` meets its contract.
use Prim.Native.Nat.{◌+◌, ◌*◌, ◌^◌, ◌<◌}
use native.Mathlib.Omega.{arith}
use Rattle.store_masks.specs.ThirdsLaws.{digits_fit}
use Rattle.store_masks.proofs.joined.Goals.{After-power-shift}
use Rattle.store_masks.proofs.joined.Goals as goal

-- The two and the three fit.
fits : (c : After-power-shift)
    → let a = c.args in
    (a.left * c.power-shift.result + a.middle < 2 ^ 40)
    × ((a.left * c.power-shift.result + a.middle) * c.power-shift.result + a.right < 2 ^ 60)
fits c =
    let digits = c.requires.digits in
    rw c.power-shift.ensures (digits_fit _ c.requires.few digits.0 digits.1 digits.2)

pub overflow_mul-result-2 : goal.overflow_mul-result-2
overflow_mul-result-2 c = omega (arith, (fits c).1)

pub overflow_add-result-2 : goal.overflow_add-result-2
overflow_add-result-2 c = omega (arith, (fits c).1)
