-- The loop through a leaf: how far it has come. Definitions only.
use Rattle.std.specs.Prelude.{◌≡◌, Bool, ◌||◌, List, ℕ, ◌+◌, drop}
use Rattle.store_layout.specs.Leaf.{nonzero}
use Rattle.store_keys.specs.Key as keys

-- After i of some slots, behind so many entries, the rank and the presence of the key x lack only what the other slots give.
pub record Passed (slots : List ℕ) (before x i rank : ℕ) (present : Bool) : Type 0 where
  pub ranks : rank + keys.rank_of x (nonzero (drop i slots)) ≡ before + keys.rank_of x (nonzero slots)
  pub presence : (present || keys.present x (nonzero (drop i slots))) ≡ keys.present x (nonzero slots)
