-- `group_end` meets its contract. The loop's invariant is `On`: there are `end` scoring boats before the slot `at`, the retired boats right before it
-- bear the bit, and the group of the boat ends behind those from number `end` on that tied, one after the other, with the boat before them.
use mathlib.Core.Bool.{true}
use mathlib.Core.Path.{◌≡◌, sym, ◌∙◌}
use Prim.Native.Nat.{◌<◌}
use native.Mathlib.Omega.{arith}
use lib.ListN.{length, get_or}
use Rattle.store_ties.specs.Ties.{tie_bit}
use Rattle.store_ties.specs.StepLaws.{end_all}
use Rattle.store_ties.specs.WalkLaws.{scores_most, on_start, slot_behind, on_empty, on_untied, on_retired, on_scoring}
use Rattle.store_ties.proofs.group_end.Goals.{Else-not-is_tied, In-loop-end}
use Rattle.store_ties.proofs.group_end.Goals as goal

pub overflow_add-at : goal.overflow_add-at
overflow_add-at c = omega (arith, c.requires.boat.boat.inside)

pub overflow_add-end : goal.overflow_add-end
overflow_add-end c = omega (arith, scores_most c.requires.boat, c.requires.boat.boat.inside)

pub loop-end-init : goal.loop-end-init
loop-end-init c = on_start c.requires.boat _

-- The slot that a turn looks at is there.
inside : (c : In-loop-end) → c.loop-end.at < length c.args.slots.now
inside c = slot_behind c.loop-end.invariant (omega (arith, c.requires.number))

pub offset_bounds-slots-at : goal.offset_bounds-slots-at
offset_bounds-slots-at c = omega (arith, inside c)

pub bounds-slots-at : goal.bounds-slots-at
bounds-slots-at c = inside (goal.at.bounds-slots-at c).In-loop-end

pub overflow_add-at-in-loop-end : goal.overflow_add-at-in-loop-end
overflow_add-at-in-loop-end c = omega (arith, inside (goal.at.overflow_add-at-in-loop-end c).In-loop-end)

pub returns-then-not-is_tied : goal.returns-then-not-is_tied
returns-then-not-is_tied c =
    let k = c.is_tied in
    on_untied c.loop-end.invariant (inside (goal.at.returns-then-not-is_tied c).In-loop-end) (omega (arith, c.if-next-ne0.true)) (sym k.ensures ∙ c.if-not-is_tied.true)

-- A turn at a boat with the bit.
tied : (c : Else-not-is_tied)
    → tie_bit (get_or c.args.slots.now c.loop-end.at 0) ≡ true
tied c = let k = c.is_tied in sym k.ensures ∙ c.if-not-is_tied.false

pub loop-end-smaller-then-not-is_retired : goal.loop-end-smaller-then-not-is_retired
loop-end-smaller-then-not-is_retired c = omega (arith, inside (goal.at.loop-end-smaller-then-not-is_retired c).In-loop-end)

pub loop-end-preserved-then-not-is_retired : goal.loop-end-preserved-then-not-is_retired
loop-end-preserved-then-not-is_retired c =
    let k = c.is_retired in
    on_scoring c.loop-end.invariant (inside (goal.at.loop-end-preserved-then-not-is_retired c).In-loop-end) (omega (arith, c.if-next-ne0.true)) (tied (goal.at.loop-end-preserved-then-not-is_retired c).Else-not-is_tied)
    (sym k.ensures ∙ c.if-not-is_retired.true) (omega arith)

pub loop-end-smaller-else-not-is_retired : goal.loop-end-smaller-else-not-is_retired
loop-end-smaller-else-not-is_retired c = omega (arith, inside (goal.at.loop-end-smaller-else-not-is_retired c).In-loop-end)

pub loop-end-preserved-else-not-is_retired : goal.loop-end-preserved-else-not-is_retired
loop-end-preserved-else-not-is_retired c =
    let k = c.is_retired in
    on_retired c.loop-end.invariant (inside (goal.at.loop-end-preserved-else-not-is_retired c).In-loop-end) (omega (arith, c.if-next-ne0.true)) (tied (goal.at.loop-end-preserved-else-not-is_retired c).Else-not-is_tied)
    (sym k.ensures ∙ c.if-not-is_retired.false)

pub loop-end-smaller : goal.loop-end-smaller
loop-end-smaller c = omega (arith, inside (goal.at.loop-end-smaller c).In-loop-end)

pub loop-end-preserved : goal.loop-end-preserved
loop-end-preserved c = on_empty c.loop-end.invariant (inside (goal.at.loop-end-preserved c).In-loop-end) c.if-next-ne0.false

pub returns : goal.returns
returns c = end_all c.loop-end.invariant.end (omega arith)
