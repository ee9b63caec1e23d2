-- The candidates of a range before and after a change, compared by identity of entry (document 01, "Insert and delete").
-- An entry is known by its rank before the change, and followed to its rank after it; its value is never looked at.
-- Definitions only.
use Rattle.std.specs.Prelude.{Bool, false, not, ◌||◌, cond, List, [], ◌∷◌, ℕ, zero, suc, ◌-◌, eqb}
use Rattle.std.proofs.Math.Option.{Option, some, none}
use Rattle.base.specs.Cases.{if_eq, if_lt}
use Rattle.tree_sizes.specs.Sizes.{window_start}
use Rattle.tree_rules.specs.declared.Change.{Change}
use Rattle.tree_rules.specs.declared.Change.TheVariants.{Insert, Delete}
use Rattle.tree_rules.specs.declared.Comparison.{Comparison}
use Rattle.tree_rules.specs.declared.Comparison.TheVariants.{Unchanged, Swapped}

-- The number of entries after the change.
unfoldable pub count_after : Change → ℕ → ℕ
count_after (Insert i) n = suc n
count_after (Delete i) n = n - 1

-- The rank after the change of the entry that had the rank r before it; none for the entry that goes out.
unfoldable pub rank_after : Change → ℕ → Option ℕ
rank_after (Insert i) r = if_lt r i (some r) (some (suc r))
rank_after (Delete i) r = if_lt r i (some r) (if_eq r i none (some (r - 1)))

-- c ranks, from `first` on
unfoldable pub ranks_from : ℕ → ℕ → List ℕ
ranks_from first zero = []
ranks_from first (suc c) = first ∷ ranks_from (suc first) c

-- The ranks of the c candidates among n entries.
unfoldable pub window : ℕ → ℕ → List ℕ
window n c = ranks_from (window_start n c) c

unfoldable pub is_member : ℕ → List ℕ → Bool
is_member r [] = false
is_member r (x ∷ xs) = eqb r x || is_member r xs

-- the entry is still there, and has one of these ranks
unfoldable pub is_among : Option ℕ → List ℕ → Bool
is_among none rs = false
is_among (some r) rs = is_member r rs

unfoldable pub keep_if : (ℕ → Bool) → List ℕ → List ℕ
keep_if test [] = []
keep_if test (x ∷ xs) = cond (test x) (x ∷ keep_if test xs) (keep_if test xs)

unfoldable pub some_of : (ℕ → Bool) → List ℕ → Bool
some_of test [] = false
some_of test (x ∷ xs) = test x || some_of test xs

-- The candidates that leave: they are candidates before the change and not after it. By their ranks before.
unfoldable pub leaving : Change → ℕ → ℕ → List ℕ
leaving change n c = keep_if (λ r. not (is_among (rank_after change r) (window (count_after change n) c))) (window n c)

-- The candidates that enter: they are candidates after the change and were none before it. By their ranks after.
unfoldable pub entering : Change → ℕ → ℕ → List ℕ
entering change n c =
    keep_if (λ e. not (some_of (λ r. is_among (rank_after change r) (e ∷ [])) (window n c))) (window (count_after change n) c)

-- What the comparison finds: the candidates are unchanged, or one leaves and one enters.
unfoldable pub first_of_each : List ℕ → List ℕ → Comparison
first_of_each [] into = Unchanged
first_of_each (r ∷ out) [] = Unchanged
first_of_each (r ∷ out) (e ∷ into) = Swapped r e

unfoldable pub compare : Change → ℕ → ℕ → Comparison
compare change n c = first_of_each (leaving change n c) (entering change n c)
