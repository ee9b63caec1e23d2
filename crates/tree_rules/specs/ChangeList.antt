-- The list with an entry put in or taken out. Definitions only.
use Rattle.std.specs.Prelude.{List, ◌∷◌, ◌++◌, ℕ, suc, take, drop}
use Rattle.tree_rules.specs.declared.Change.{Change}
use Rattle.tree_rules.specs.declared.Change.TheVariants.{Insert, Delete}

-- The list with the entry e put in, or with the entry at the rank taken out.
unfoldable pub change_list : Change → ℕ → List ℕ → List ℕ
change_list (Insert i) e list = take i list ++ (e ∷ drop i list)
change_list (Delete i) e list = take i list ++ drop (suc i) list
