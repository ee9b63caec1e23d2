-- What the rule does at one range that the walk visits. Definitions only.
use Rattle.std.specs.Prelude.{List, ℕ, Option, Some, None}
use Rattle.base.specs.Cases.{if_eq}
use Rattle.draw.specs.declared.Drawn.{Drawn}
use Rattle.draw.specs.Draw.{draw_at}
use Rattle.draw_shares.specs.Program.{Program}
use Rattle.draw_shares.specs.Tape.{Ran, ended, run_at}
use Rattle.tree_rules.specs.declared.Comparison.{Comparison}
use Rattle.tree_rules.specs.declared.Comparison.TheVariants.{Unchanged, Swapped}
use Rattle.tree_rules.specs.Tree.{Tree}
use Rattle.tree_visit.specs.declared.Visited.{Visited}
use Rattle.tree_visit.specs.declared.Visited.TheVariants as visited

-- After a draw for the entering entry: face 0 makes it the balance entry.
unfoldable pub visit_drawn : ℕ → Option Drawn → Option Visited
visit_drawn into (Some d) = if_eq d.face 0 (Some (visited.Enter into d.next)) (Some (visited.Pass d.next))
visit_drawn into None = None

-- What the rule `visit` does at a range with c candidates and the balance rank b.
unfoldable pub visit_at : Comparison → ℕ → ℕ → List ℕ → ℕ → Option Visited
visit_at Unchanged c b tape at = Some (visited.Pass at)
visit_at (Swapped out into) c b tape at = if_eq b out (Some (visited.Rebuild at)) (visit_drawn into (draw_at c tape at))

-- The run from the range on, by what the visit gives: the range rebuilt, its halves rebuilt, or what follows where it passes; where
-- the tape ended, the run has ended.
unfoldable pub visit_run : Program Tree → (ℕ → Program Tree) → Program Tree → List ℕ → Option Visited → Ran Tree
visit_run rebuilt halves below tape (Some (visited.Pass next)) = run_at below tape next
visit_run rebuilt halves below tape (Some (visited.Rebuild next)) = run_at rebuilt tape next
visit_run rebuilt halves below tape (Some (visited.Enter into next)) = run_at (halves into) tape next
visit_run rebuilt halves below tape None = ended
