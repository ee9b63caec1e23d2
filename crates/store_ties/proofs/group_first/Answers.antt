-- `group_first` meets its contract. The loop's invariant is `Back`: there are `first` scoring boats before the slot `at`, and the group of the boat
-- goes on to the last of them where the retired boats behind that one bear the bit.
use mathlib.Core.Bool.{true, ◌&&◌}
use mathlib.Core.Logic.{⊎_elim}
use mathlib.Core.Path.{◌≡◌, sym, ◌∙◌}
use Prim.Native.Nat.{◌+◌, ◌-◌, ◌<◌}
use native.Mathlib.Omega.{arith}
use borrow.Author.Tests.{not-true, not-false}
use lib.ListN.{get_or}
use Rattle.base.specs.BoolLaws.{and_true, and_false}
use Rattle.store_ties.specs.Ties.{tie_bit}
use Rattle.store_ties.specs.Steps.{entries_before, end_tied, Back}
use Rattle.store_ties.specs.StepLaws.{back_first, back_zero}
use Rattle.store_ties.specs.WalkLaws.{scores_most, back_start, slot_before, back_empty, back_retired, back_scoring}
use Rattle.store_ties.proofs.group_first.Goals.{In-loop-first, Joined-not-is_retired, then-not-is_retired, else-not-is_retired}
use Rattle.store_ties.proofs.group_first.Goals as goal

pub overflow_add-at : goal.overflow_add-at
overflow_add-at c = omega (arith, c.requires.boat.inside)

pub overflow_add-first : goal.overflow_add-first
overflow_add-first c = omega (arith, scores_most c.requires, c.requires.boat.inside)

pub loop-first-init : goal.loop-first-init
loop-first-init c = back_start c.requires

-- The slot that a turn looks at is there.
inside : (c : In-loop-first) → 0 < c.loop-first.at
inside c = slot_before c.loop-first.at c.loop-first.invariant.passed (omega arith)

pub overflow_sub-at : goal.overflow_sub-at
overflow_sub-at c = inside c

pub offset_bounds-slots-at : goal.offset_bounds-slots-at
offset_bounds-slots-at c = omega (arith, c.loop-first.invariant.passed.inside)

pub bounds-slots-at : goal.bounds-slots-at
bounds-slots-at c = omega (arith, inside (goal.at.bounds-slots-at c).In-loop-first, c.loop-first.invariant.passed.inside)

-- The invariant, by the slot that a turn looks at.
turn : (c : In-loop-first)
    → let a = c.args in
    let at = c.loop-first.at - 1 in
    Back a.slots.now a.before (at + 1) c.loop-first.first (end_tied true (entries_before a.slots.now (at + 1)))
turn c = let next : c.loop-first.at - 1 + 1 ≡ c.loop-first.at = omega (arith, inside c) in rw next c.loop-first.invariant

-- Behind the question whether the boat is retired.
passed : (c : Joined-not-is_retired)
    → let a = c.args in
    let at = c.loop-first.at - 1 in
    Back a.slots.now a.before at c.if-not-is_retired.first (end_tied true (entries_before a.slots.now at) && tie_bit (get_or a.slots.now at 0))
passed c =
    let k = c.is_retired in
    elim c.if-not-is_retired.branch [
      | then-not-is_retired w ↦
          rw w.first-is (back_scoring (turn (goal.at.Joined-not-is_retired c).In-loop-first) (omega (arith, c.if-last-ne0.true)) (sym k.ensures ∙ w.if-not-is_retired.true))
      | else-not-is_retired w ↦
          rw w.first-is (back_retired (turn (goal.at.Joined-not-is_retired c).In-loop-first) (omega (arith, c.if-last-ne0.true)) (sym k.ensures ∙ w.if-not-is_retired.false))
    ]

pub returns-then-not-is_tied : goal.returns-then-not-is_tied
returns-then-not-is_tied c =
    let k = c.is_tied in
    back_first (rw (sym k.ensures ∙ c.if-not-is_tied.true, and_false) at (passed (goal.at.returns-then-not-is_tied c).Joined-not-is_retired).first)

pub loop-first-smaller-else-not-is_tied : goal.loop-first-smaller-else-not-is_tied
loop-first-smaller-else-not-is_tied c = omega (arith, inside (goal.at.loop-first-smaller-else-not-is_tied c).In-loop-first)

pub loop-first-preserved-else-not-is_tied : goal.loop-first-preserved-else-not-is_tied
loop-first-preserved-else-not-is_tied c =
    let k = c.is_tied in
    rw (sym k.ensures ∙ c.if-not-is_tied.false, and_true) at (passed (goal.at.loop-first-preserved-else-not-is_tied c).Joined-not-is_retired)

pub loop-first-smaller : goal.loop-first-smaller
loop-first-smaller c = omega (arith, inside (goal.at.loop-first-smaller c).In-loop-first)

pub loop-first-preserved : goal.loop-first-preserved
loop-first-preserved c = back_empty (turn (goal.at.loop-first-preserved c).In-loop-first) c.if-last-ne0.false

pub returns : goal.returns
returns c = back_zero _ c.loop-first.invariant.first (omega arith)
