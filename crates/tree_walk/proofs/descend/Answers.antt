-- `tree_walk::descend` meets its contract. The loop's invariant: the run of the walk is that from the present range on.
use Rattle.std.proofs.Common.{rules}
use mathlib.Core.Path.{◌≡◌, refl, ap, ◌∙◌}
use Rattle.std.specs.Prelude.{Some}
use Prim.Native.Nat.{suc, ◌-◌, ◌*◌}
use native.Mathlib.Omega.{arith}
use lib.ListN.{get_or}
use Rattle.tree_sizes.specs.Sizes.{candidates}
use Rattle.tree_walk.specs.Walk.{Walking}
use Rattle.tree_walk.specs.WalkLaws.{walking_start, above_walking, comparable, entries_most, node_bounds, balance_below, Seen, stop_leaf, stop_visit, end_visit, pass, half_lower, half_counted}
use Rattle.tree_walk.proofs.descend.Goals.{After-visit, Else-here-eq0}
use Rattle.tree_walk.proofs.descend.Goals as goal

-- above the leaves
above : (c : Else-here-eq0) →
    let a = c.args in
    let h = c.loop-here in
    Walking a.change a.n (get_or a.counts.now 0 0) a.counts.now a.tape.now a.start h.counts (suc (h.here.range.levels - 1))
    h.here.range.depth h.here.range.k h.here.range.n h.here.change h.at
above c = let h = c.loop-here in above_walking h.here h.invariant.0 c.if-here-eq0.false

counted : (c : Else-here-eq0) →
    c.loop-here.c ≡ candidates (get_or c.args.counts.now 0 0) c.loop-here.here.range.depth
counted c = c.loop-here.invariant.1 (omega (arith, (node_bounds (above c)).large))

seen : (c : After-visit) →
    let a = c.args in
    let h = c.loop-here in
    Seen (get_or a.counts.now 0 0) a.tape.now h.counts h.here.range.depth h.here.range.k h.here.range.n h.here.change h.at
    h.c (get_or h.counts (2 * h.here.range.k) 0) c.visit.result
seen c = record { count_is = counted (goal.at.After-visit c).Else-here-eq0; balance_is = refl; visit_is = c.visit.ensures }

pub loop-here-init : goal.loop-here-init
loop-here-init c =
    rw c.requires.size
    (rw c.height.ensures (walking_start c.requires c.args.tape.now c.args.start), c.root_candidates-c.ensures)

pub bounds-counts-here : goal.bounds-counts-here
bounds-counts-here c = omega (arith, node_bounds (above (goal.at.bounds-counts-here c).Else-here-eq0))

pub visit-requires : goal.visit-requires
visit-requires c = rw (counted (goal.at.visit-requires c).Else-here-eq0) (comparable (above (goal.at.visit-requires c).Else-here-eq0))

pub after-requires : goal.after-requires
after-requires c =
    let h = c.loop-here in (h.invariant.0.reach, entries_most h.here h.invariant.0)

pub half-here-requires : goal.half-here-requires
half-here-requires c =
    let l = node_bounds (above (goal.at.half-here-requires c).Else-here-eq0) in
    record {
      above = omega (arith, c.if-here-eq0.false);
      shallow = omega (arith, l.shallow);
      small = omega (arith, l.below);
      inside = omega (arith, balance_below (above (goal.at.half-here-requires c).Else-here-eq0));
    }

pub loop-here-smaller : goal.loop-here-smaller
loop-here-smaller c =
    half_lower c.loop-here.here c.half-here.result _ c.if-here-eq0.false c.half-here.ensures

pub loop-here-preserved : goal.loop-here-preserved
loop-here-preserved c =
    let h = c.loop-here in (
      pass h.here h.invariant.0 c.if-here-eq0.false (seen (goal.at.loop-here-preserved c).After-visit) _ _ _ (search rules) (ap (λ r. r.n) c.after.ensures) c.half-here.ensures,
      half_counted _ h.here c.half-here.result _ h.c c.half-here.ensures c.half_candidates-c.ensures h.invariant.1,
    )

pub returns-then-here-eq0 : goal.returns-then-here-eq0
returns-then-here-eq0 c =
    rw c.requires.size at (stop_leaf c.loop-here.here c.loop-here.invariant.0 c.if-here-eq0.true)

pub returns-in_default : goal.returns-in_default
returns-in_default c =
    let h = c.loop-here in
    rw c.requires.size at
    (stop_visit h.here h.invariant.0 c.if-here-eq0.false (seen (goal.at.returns-in_default c).After-visit) _ (search rules) c.in_default.not-Pass)

pub returns-in_err-visited : goal.returns-in_err-visited
returns-in_err-visited c =
    let h = c.loop-here in
    rw c.from_residual.ensures
    (rw c.requires.size at
    (end_visit h.here h.invariant.0 c.if-here-eq0.false (seen (goal.at.returns-in_err-visited c).After-visit) (search rules)))
