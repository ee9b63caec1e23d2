-- What a change does to the candidates of a range, in the form that the laws of shares use. Definitions only.
use Rattle.std.specs.Prelude.{◌≡◌, ℕ, suc, ◌+◌, ◌-◌}
use Rattle.base.specs.Cases.{if_eq, if_lt}
use Rattle.draw_shares.specs.Rational.{Rational}
use Rattle.draw_shares.specs.Same.{sum}
use Rattle.tree_sizes.specs.Sizes.{window_start, IsCandidate}
use Rattle.tree_rules.specs.declared.Change.{Change}
use Rattle.tree_rules.specs.declared.Change.TheVariants.{Insert, Delete}
use Rattle.tree_rules.specs.declared.Comparison.{Comparison}
use Rattle.tree_rules.specs.declared.Comparison.TheVariants.{Unchanged, Swapped}
use Rattle.tree_rules.specs.Compare.{count_after}

-- The rank after the change of the entry that had the rank r before it, if that entry does not go out.
unfoldable pub rank_now : Change → ℕ → ℕ
rank_now (Insert i) r = if_lt r i r (suc r)
rank_now (Delete i) r = if_lt r i r (r - 1)

-- The entry of rank r goes out.
unfoldable pub GoesOut : Change → ℕ → Type 0
GoesOut (Insert i) r = ⊥
GoesOut (Delete i) r = r ≡ i

-- The candidate of rank r before the change leaves.
unfoldable pub Leaves : Comparison → ℕ → Type 0
Leaves Unchanged r = ⊥
Leaves (Swapped out into) r = r ≡ out

-- The candidate of rank s after the change enters.
unfoldable pub Enters : Comparison → ℕ → Type 0
Enters Unchanged s = ⊥
Enters (Swapped out into) s = s ≡ into

-- The one that leaves is a candidate before the change, and the one that enters is one after it.
unfoldable pub Inside : Change → ℕ → ℕ → Comparison → Type 0
Inside change n c Unchanged = Unit {0}
Inside change n c (Swapped out into) = IsCandidate n c out × IsCandidate (count_after change n) c into

-- The rank after the change for the face f of the candidates from a on: its own, or that of the one that enters where it leaves.
unfoldable pub face_after : Change → ℕ → Comparison → ℕ → ℕ
face_after change a Unchanged f = rank_now change (a + f)
face_after change a (Swapped out into) f = if_eq f (out - a) into (rank_now change (a + f))

-- A change takes the c candidates among n entries to those among the entries after it: the ones that do not leave stay candidates,
-- and together with the one that enters they are all of them.
pub record Moves (change : Change) (n c : ℕ) (found : Comparison) : Type 0 where
  pub inside : Inside change n c found
  pub within : (r : ℕ) → IsCandidate n c r → ¬ Leaves found r → IsCandidate (count_after change n) c (rank_now change r)
  pub stays : (r : ℕ) → IsCandidate n c r → ¬ Leaves found r → ¬ GoesOut change r
  pub matches : (v : ℕ → Rational)
      → sum c (λ f. v (face_after change (window_start n c) found f)) ≡ sum c (λ f. v (window_start (count_after change n) c + f))
