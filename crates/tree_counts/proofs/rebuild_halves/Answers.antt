-- `tree_counts::rebuild_halves` meets its contract.
use mathlib.Core.Path.{◌≡◌, ◌∙◌}
use Prim.Native.Nat.{suc, ◌-◌}
use native.Mathlib.Omega.{arith}
use lib.ListN.{length, length-set}
use Rattle.tree_counts.specs.Rebuild.{HalveReady, RebuildReady}
use Rattle.tree_counts.specs.RebuildLaws.{bounds, above_leaves, halves_can, candidate_fits, halves_done, halves_ended}
use Rattle.tree_counts.proofs.rebuild_halves.Goals.{After-rebuild, Start}
use Rattle.tree_counts.proofs.rebuild_halves.Goals as goal

-- above the leaves
above : (c : Start) → let a = c.args in RebuildReady a.size.m (suc (a.here.levels - 1)) a.here.depth a.here.k a.here.n (length a.counts.now)
above c = above_leaves c.requires.above c.requires.ready

halving : (c : Start) → HalveReady c.args.here c.args.b
halving c =
    let l = bounds (above c) in
    record {
      above = omega (arith, c.requires.above);
      shallow = omega (arith, l.shallow);
      small = omega (arith, l.below);
      inside = omega (arith, candidate_fits (above c) c.args.b c.requires.candidate);
    }

-- the length is kept
kept : (c : After-rebuild) → length c.rebuild.new.counts ≡ length c.args.counts.now
kept c = let a = c.args in c.rebuild.auto.counts ∙ length-set a.counts.now a.here.k a.here.n

pub left-left-requires : goal.left-left-requires
left-left-requires c = halving (goal.at.left-left-requires c).Start

pub right-right-requires : goal.right-right-requires
right-right-requires c = halving (goal.at.right-right-requires c).Start

pub rebuild-requires : goal.rebuild-requires
rebuild-requires c =
    rw (c.left-left.ensures, length-set) (halves_can (above (goal.at.rebuild-requires c).Start) c.args.b c.requires.candidate).0

pub rebuild-requires-2 : goal.rebuild-requires-2
rebuild-requires-2 c =
    rw (c.right-right.ensures, kept (goal.at.rebuild-requires-2 c).After-rebuild)
    (halves_can (above (goal.at.rebuild-requires-2 c).Start) c.args.b c.requires.candidate).1

pub returns : goal.returns
returns c =
    let a = c.args in
    halves_done a.size.m (a.here.levels - 1) a.here.depth a.here.k a.here.n a.b a.tape.now a.at a.counts.now c.rebuild.result
    c.rebuild-2.result _ _ _ (rw c.left-left.ensures at c.rebuild.ensures) c.in_ok-mid.was (rw c.right-right.ensures at c.rebuild-2.ensures)

pub returns-in_err-mid : goal.returns-in_err-mid
returns-in_err-mid c =
    let a = c.args in
    rw c.from_residual.ensures
    (halves_ended a.size.m (a.here.levels - 1) a.here.depth a.here.k a.here.n a.b a.tape.now a.at a.counts.now c.rebuild.result
    _ _ (rw c.left-left.ensures at c.rebuild.ensures) c.in_err-mid.was)
