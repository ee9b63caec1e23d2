-- A list whose first entries were changed in place. Definitions only.
use Rattle.std.specs.Prelude.{◌≡◌, List, ℕ, length, take}
use Rattle.tree_rules.specs.declared.Change.{Change}
use Rattle.tree_rules.specs.Compare.{count_after}
use Rattle.tree_rules.specs.ChangeList.{change_list}

-- The first entries of `new` are the first n of `old` with e put in, or with the entry at the rank taken out; nothing is said of the rest.
pub record Changed (change : Change) (e n : ℕ) (old new : List ℕ) : Type 0 where
  pub entries : take (count_after change n) new ≡ change_list change e (take n old)
  pub kept : length new ≡ length old
