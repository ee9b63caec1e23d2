-- `placing_at` meets its contract.
use mathlib.Core.Path.{sym, ◌∙◌}
use native.Mathlib.Omega.{arith}
use Rattle.store_layout.specs.Leaf.{nonzero}
use Rattle.store_ties.specs.Ties.{tied_in}
use Rattle.store_ties.specs.Steps.{Scores}
use Rattle.store_ties.specs.GroupLaws.{first_most, end_above, end_most}
use Rattle.store_ties.specs.SlotLaws.{retired_found, scores_below, scoring_found}
use Rattle.store_ties.proofs.placing_at.Goals.{Else-is_retired}
use Rattle.store_ties.proofs.placing_at.Goals as goal

pub offset_bounds-slots-slot : goal.offset_bounds-slots-slot
offset_bounds-slots-slot c = omega (arith, c.requires.boat.inside)

pub bounds-slots-slot : goal.bounds-slots-slot
bounds-slots-slot c = c.requires.boat.inside

pub returns-then-is_retired : goal.returns-then-is_retired
returns-then-is_retired c =
    let k = c.is_retired in
    retired_found c.requires.boat (sym k.ensures ∙ c.if-is_retired.true)

-- A boat that is not retired scores.
scores : (c : Else-is_retired) → let a = c.args in Scores a.slots.now a.slot a.before
scores c =
    let k = c.is_retired in
    record { boat = c.requires.boat; scoring = sym k.ensures ∙ c.if-is_retired.false; number = c.requires.ahead }

pub group_first-first-requires : goal.group_first-first-requires
group_first-first-requires c = scores c

pub group_end-end-requires : goal.group_end-end-requires
group_end-end-requires c =
    record { boat = scores (goal.at.group_end-end-requires c).Else-is_retired; number = c.requires.number }

pub shared-requires : goal.shared-requires
shared-requires c =
    let tied = tied_in (nonzero c.args.slots.now) in
    let number = c.requires.number in
    let high = end_most tied c.args.scoring c.args.before (omega (arith, scores_below (scores (goal.at.shared-requires c).Else-is_retired), number)) in record { some = omega (arith, c.group_first-first.ensures, first_most tied c.args.before, c.group_end-end.ensures, end_above tied c.args.scoring c.args.before); few = omega (arith, c.group_end-end.ensures, high, c.requires.few) }

pub returns : goal.returns
returns c =
    scoring_found (scores (goal.at.returns c).Else-is_retired) c.group_first-first.ensures c.group_end-end.ensures c.requires.number c.shared.ensures
