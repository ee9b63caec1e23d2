-- `tree_walk::rebuild_at` meets its contract.
use mathlib.Core.Path.{refl}
use Rattle.draw_shares.specs.Tape.{run_at}
use Rattle.tree_counts.specs.Counts.{write_tree}
use Rattle.tree_counts.specs.Rebuild.{RebuiltAs}
use Rattle.tree_visit.specs.Visit.{visit_run}
use Rattle.tree_walk.specs.Walk.{stop_run}
use Rattle.tree_walk.specs.WalkLaws.{stop_most}
use Rattle.tree_walk.proofs.rebuild_at.Goals as goal

pub after-range-requires : goal.after-range-requires
after-range-requires c = let w = c.requires in (w.reach, stop_most w)

pub returns-in-Pass : goal.returns-in-Pass
unfolding stop_run visit_run RebuiltAs run_at write_tree
returns-in-Pass c = rw (c.in-Pass.is, c.after-range.ensures) (refl, refl)

pub returns-in-Rebuild : goal.returns-in-Rebuild
unfolding stop_run visit_run
returns-in-Rebuild c = rw c.in-Rebuild.is (rw c.after-range.ensures at c.rebuild.ensures)

pub returns-in-Enter : goal.returns-in-Enter
unfolding stop_run visit_run
returns-in-Enter c = rw c.in-Enter.is (rw c.after-range.ensures at c.rebuild_halves.ensures)
