-- What a change asks of the counts. Definitions only.
use Rattle.std.specs.Prelude.{◌≡◌, List, ℕ, ◌*◌, ◌^◌, ◌≤◌, ◌<◌, length, get_or}
use Rattle.tree_sizes.specs.Sizes.{Allowed, height}
use Rattle.tree_rules.specs.declared.Change.{Change}
use Rattle.tree_rules.specs.Tree.{IsShape}
use Rattle.tree_rules.specs.Compare.{count_after}
use Rattle.tree_rules.specs.Rules.{InReach}
use Rattle.tree_counts.specs.Counts.{shape_counts, shape_in}

-- The counts hold the shape of size M of N entries, the change is one of these, and there is room for the counts of every new size.
pub record UpdateReady (change : Change) (N M : ℕ) (counts : List ℕ) : Type 0 where
  pub few : N < 2 ^ 30
  pub size : get_or counts 0 0 ≡ M
  pub shape : IsShape N (shape_in counts)
  pub held : counts ≡ shape_counts (length counts) N (shape_in counts)
  pub reach : InReach change N
  pub new_room : (M' : ℕ) → Allowed (count_after change N) M' → 2 * 2 ^ height M' ≤ length counts
