-- What is asked before a range is rebuilt, and what its rebuilding leaves. Definitions only.
use Rattle.std.specs.Prelude.{◌≡◌, List, ℕ, ◌+◌, ◌-◌, ◌*◌, ◌^◌, ◌≤◌, ◌<◌, Option, Some, None}
use Rattle.draw_shares.specs.Tape.{Ran, ran, ended}
use Rattle.tree_sizes.specs.Sizes.{height, Fits}
use Rattle.tree_rules.specs.Tree.{Tree}
use Rattle.tree_counts.specs.declared.Range.{Range}
use Rattle.tree_counts.specs.Counts.{write_tree}

-- The range k at depth d, `levels` above the leaves, can be rebuilt for n entries: its candidates fit, whichever are drawn, and `room`
-- counts hold the ranges below it.
pub record RebuildReady (M levels d k n room : ℕ) : Type 0 where
  pub fits : Fits M levels d n
  pub leaves : levels + d ≡ height M
  pub inside : (k + 1) * 2 ^ levels ≤ room
  pub few : n < 2 ^ 32
  pub small : M < 2 ^ 32

abbrev pub RangeReady : ℕ → Range → ℕ → Type 0
RangeReady M range room = RebuildReady M range.levels range.depth range.k range.n room

-- A range above the leaves whose numbers are small enough to count on, and a balance rank in it.
pub record HalveReady (range : Range) (b : ℕ) : Type 0 where
  pub above : 0 < range.levels
  pub shallow : range.depth < 2 ^ 32
  pub small : range.k < 2 ^ 62
  pub inside : b ≤ range.n

-- The halves of a range, where b is the balance rank.
abbrev pub left_of : Range → ℕ → Range
left_of range b = record { k = 2 * range.k; depth = range.depth + 1; levels = range.levels - 1; n = b }

abbrev pub right_of : Range → ℕ → Range
right_of range b = record { k = 2 * range.k + 1; depth = range.depth + 1; levels = range.levels - 1; n = range.n - b }

-- The answer and the counts after the range k is rebuilt for n entries, by the run of the rule. Where the tape ended nothing is said of
-- the counts.
unfoldable pub RebuiltAs : Ran Tree → Option ℕ → ℕ → ℕ → List ℕ → List ℕ → Type 0
RebuiltAs (ran t next) answer k n counts counts' = (answer ≡ Some next) × (counts' ≡ write_tree counts k n t)
RebuiltAs ended answer k n counts counts' = answer ≡ None
