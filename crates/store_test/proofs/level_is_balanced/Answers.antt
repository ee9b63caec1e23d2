-- `level_is_balanced` meets its contract. The loop's invariant: the ranges before k are as they should be where `all` is true (`RangesLeft`).
use Rattle.std.proofs.Common.{◌≡◌, ◌+◌, ◌-◌, ◌^◌, ◌<◌, ◌≤◌, sym, refl, arith}
use Rattle.store_test.specs.LevelCheck.{half_most, ranges_none, ranges_next}
use Rattle.store_test.proofs.level_is_balanced.Goals.{After-half_candidates-half}
use Rattle.store_test.proofs.level_is_balanced.Goals as goal

-- Half of the candidates, and all of them, are few.
few : (c : After-half_candidates-half) → let a = c.args in (c.half_candidates-half.result ≤ a.c) × (a.c < 2 ^ 31)
few c =
    (omega (arith, c.half_candidates-half.ensures, half_most c.args.c), c.requires.small)

pub overflow_cast-half : goal.overflow_cast-half
overflow_cast-half c = omega (arith, few c)

pub range_is_balanced-all-requires : goal.range_is_balanced-all-requires
range_is_balanced-all-requires c =
    record { few = few (goal.at.range_is_balanced-all-requires c).After-half_candidates-half }

pub loop-k-preserved : goal.loop-k-preserved
loop-k-preserved c =
    let next : c.loop-k.k + 1 - c.args.first ≡ c.loop-k.k - c.args.first + 1 = omega (arith, c.loop-k.auto.k) in
    rw next
    (ranges_next c.loop-k.invariant (omega (arith, c.loop-k.auto.k)) (omega (arith, c.loop-k.auto.k)) refl refl refl c.half_candidates-half.ensures c.range_is_balanced-all.ensures)

pub returns : goal.returns
returns c = sym (ranges_none c.loop-k.invariant (omega (arith, c.loop-k-test.false)))
