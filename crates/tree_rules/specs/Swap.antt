-- The comparison of candidates in closed form, as the code computes it; `compare_closed` of CompareLaws equates it with the comparison
-- by identity. Definitions only.
use Rattle.std.specs.Prelude.{ℕ, suc, ◌+◌, ◌-◌, min, max}
use Rattle.base.specs.Cases.{if_eq, if_lt}
use Rattle.tree_sizes.specs.Sizes.{window_start}
use Rattle.tree_rules.specs.declared.Change.{Change}
use Rattle.tree_rules.specs.declared.Change.TheVariants.{Insert, Delete}
use Rattle.tree_rules.specs.declared.Comparison.{Comparison}
use Rattle.tree_rules.specs.declared.Comparison.TheVariants.{Unchanged, Swapped}

-- An entry comes in at rank i. The candidates are the c ranks from a on before, and the c ranks from a' on after, which is a or a + 1.
unfoldable pub insert_swap : ℕ → ℕ → ℕ → ℕ → Comparison
insert_swap i a a' c =
    if_eq a' a (if_lt i (a + c) (Swapped (a + c - 1) (max i a)) Unchanged) (if_lt a i (Swapped a (min i (a + c))) Unchanged)

-- what leaves enters, and what enters leaves
unfoldable pub reverse : Comparison → Comparison
reverse Unchanged = Unchanged
reverse (Swapped out into) = Swapped into out

-- A delete is an insert undone.
unfoldable pub swap_of : Change → ℕ → ℕ → Comparison
swap_of (Insert i) n c = insert_swap i (window_start n c) (window_start (suc n) c) c
swap_of (Delete i) n c = reverse (insert_swap i (window_start (n - 1) c) (window_start n c) c)
