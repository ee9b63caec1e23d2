-- Laws of a list with an entry put in or taken out: its length, two entries put in in either order, and one put in and taken out again.
use Rattle.std.specs.Prelude.{◌≡◌, refl, List, [], ◌∷◌, ℕ, zero, suc, ◌≤◌, length}
use Rattle.std.proofs.Common.{ap, le_of_suc-le-suc, not-suc-le-zero, arith, length-append, length-take, length-drop}
use Rattle.tree_rules.specs.declared.Change.{Change}
use Rattle.tree_rules.specs.declared.Change.TheVariants.{Insert, Delete}
use Rattle.tree_rules.specs.Compare.{count_after}
use Rattle.tree_rules.specs.Rules.{InReach}
use Rattle.tree_rules.specs.ChangeList.{change_list}

pub length_changed : (change : Change) (e : ℕ) (list : List ℕ) → InReach change (length list)
    → length (change_list change e list) ≡ count_after change (length list)
unfolding InReach count_after change_list
length_changed (Insert i) e list h = simp (length-append, length-take, length-drop) (omega (arith, h))
length_changed (Delete i) e list h = simp (length-append, length-take, length-drop) (omega (arith, h))

pub length_inserted : (i e : ℕ) (list : List ℕ) → i ≤ length list → length (change_list (Insert i) e list) ≡ suc (length list)
unfolding InReach count_after
length_inserted i e list inside = length_changed (Insert i) e list inside

-- An entry put in at j, and then another one before it at i: the other one at i, and then the first one at j + 1.
pub inserts_either_order : (i j a b : ℕ) (list : List ℕ) → i ≤ j → j ≤ length list
    → change_list (Insert i) b (change_list (Insert j) a list) ≡ change_list (Insert (suc j)) a (change_list (Insert i) b list)
unfolding change_list
inserts_either_order zero j a b list before inside = refl
inserts_either_order (suc i) zero a b list before inside = absurd (not-suc-le-zero before)
inserts_either_order (suc i) (suc j) a b [] before inside = absurd (not-suc-le-zero inside)
inserts_either_order (suc i) (suc j) a b (x ∷ list) before inside =
    ap (λ (l : List ℕ). x ∷ l) (inserts_either_order i j a b list (le_of_suc-le-suc before) (le_of_suc-le-suc inside))

-- An entry put in, and the one at its rank taken out: the list as it was.
pub insert_delete : (i e e' : ℕ) (list : List ℕ) → i ≤ length list → change_list (Delete i) e' (change_list (Insert i) e list) ≡ list
unfolding change_list
insert_delete zero e e' list inside = refl
insert_delete (suc i) e e' [] inside = absurd (not-suc-le-zero inside)
insert_delete (suc i) e e' (x ∷ list) inside = ap (λ (l : List ℕ). x ∷ l) (insert_delete i e e' list (le_of_suc-le-suc inside))
