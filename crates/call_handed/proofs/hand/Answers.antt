-- `hand` meets its contract.
use mathlib.Core.Path.{◌≡◌, refl}
use native.Mathlib.Omega.{arith}
use lib.ListN.{length-set}
use Rattle.call_handed.specs.HandedLaws.{filled_two, filled_three}
use Rattle.call_handed.proofs.hand.Goals as goal

pub bounds-answer-1 : goal.bounds-answer-1
bounds-answer-1 c = simp length-set (omega (arith, c.requires))

pub bounds-answer-2 : goal.bounds-answer-2
bounds-answer-2 c = simp length-set (omega (arith, c.requires, c.if-values-gt2.true))

pub returns-then-values-gt2 : goal.returns-then-values-gt2
returns-then-values-gt2 c =
    let three : c.args.values ≡ 3 = omega (arith, c.requires, c.if-values-gt2.true) in
    (refl, rw three (filled_three c.args.back _ (omega (arith, c.requires, three))))

pub returns-else-values-gt2 : goal.returns-else-values-gt2
returns-else-values-gt2 c =
    let two : c.args.values ≡ 2 = omega (arith, c.requires, c.if-values-gt2.false) in
    (refl, rw two (filled_two c.args.back _ (omega (arith, c.requires, two))))
