-- What the contracts of the code cite: what its functions may be given, and what the size step returns.
-- Definitions only.
use Rattle.std.specs.Prelude.{ℕ, ◌^◌, ◌≤◌, ◌<◌, Option, Some, None}
use Rattle.draw_shares.specs.Tape.{Ran, ran, ended}
use Rattle.tree_rules.specs.declared.Change.{Change}
use Rattle.tree_rules.specs.declared.Stepped.{Stepped}
use Rattle.tree_rules.specs.declared.Stepped.TheVariants.{Kept, Anew}
use Rattle.tree_rules.specs.Compare.{count_after}
use Rattle.tree_rules.specs.Rules.{SizeStep, kept, anew}

-- There are c candidates, among n entries and among those after the change; n is small enough to count on.
pub record CompareReady (change : Change) (n c : ℕ) : Type 0 where
  pub some : 0 < c
  pub before : c ≤ n
  pub after : c ≤ count_after change n
  pub most : n < 2 ^ 62

-- The step and the place of the next word; none where the tape ended.
unfoldable pub stepped_as : Ran SizeStep → Option Stepped
stepped_as (ran kept next) = Some (Kept next)
stepped_as (ran (anew M) next) = Some (Anew M next)
stepped_as ended = None
