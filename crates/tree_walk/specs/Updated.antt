-- What a change leaves of the counts: those of the new shape, and the part outside which nothing changed. Definitions only.
use Rattle.std.specs.Prelude.{◌≡◌, List, ℕ, Option, Some, None}
use Rattle.draw_shares.specs.Tape.{Ran, ran, ended}
use Rattle.tree_rules.specs.declared.Change.{Change}
use Rattle.tree_rules.specs.Tree.{Shape}
use Rattle.tree_rules.specs.Compare.{count_after}
use Rattle.tree_counts.specs.declared.Part.{Part}
use Rattle.tree_counts.specs.Counts.{shape_counts}
use Rattle.tree_counts.specs.Confined.{Confined}
use Rattle.tree_walk.specs.declared.Updated.{Updated}

-- What a change comes to where this part was rebuilt and the size parameter is M after it.
unfoldable pub rebuilt_to : ℕ → Part → Option ℕ → Option Updated
rebuilt_to M part (Some next) = Some (record { m = M; part = part; next = next })
rebuilt_to M part None = None

-- The answer and the counts after, by the run of the rule. Where the tape ended nothing is said of the counts.
unfoldable pub UpdatedAs : Change → ℕ → Shape → Ran Shape → Option Updated → ℕ → List ℕ → Type 0
UpdatedAs change N s (ran s' next) answer room counts' =
    (part : Part)
    × (answer ≡ Some (record { m = s'.size; part = part; next = next }))
    × (counts' ≡ shape_counts room (count_after change N) s')
    × Confined change s s' part
UpdatedAs change N s ended answer room counts' = answer ≡ None
