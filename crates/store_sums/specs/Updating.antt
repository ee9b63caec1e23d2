-- How far the numbers of the ranges are brought up to date. Definitions only.
use Rattle.std.specs.Prelude.{◌≡◌, List, ℕ, ◌+◌, ◌*◌, ◌^◌, ◌≤◌, ◌<◌, length, get_or}
use Rattle.tree_sizes.specs.Sizes.{height}
use Rattle.store_sums.specs.Range.{IsRange}
use Rattle.store_sums.specs.Numbers.{Additive, number_at, NumbersBut, NumbersIn}

-- The words are what f gives from `first` up to, not including, `end`.
abbrev pub Agrees : (ℕ → ℕ) → ℕ → ℕ → List ℕ → Type 0
Agrees f first end words = (k : ℕ) → first ≤ k → k < end → get_or words k 0 ≡ f k

-- The new numbers are what f gives from `first` up to, not including, `end`, and the old ones elsewhere.
pub record Filled (f : ℕ → ℕ) (first end : ℕ) (old new : List ℕ) : Type 0 where
  pub inside : Agrees f first end new
  pub front : (k : ℕ) → k < first → get_or new k 0 ≡ get_or old k 0
  pub behind : (k : ℕ) → end ≤ k → get_or new k 0 ≡ get_or old k 0
  pub kept : length new ≡ length old

-- The sum over the halves of the range k.
unfoldable pub halves_sum : List ℕ → ℕ → ℕ
halves_sum words k = get_or words (2 * k) 0 + get_or words (2 * k + 1) 0

-- The numbers of all ranges up to `levels` above the leaves are right. Higher ones are right but perhaps at the ranges above those from `first`
-- to `last`, which stand `levels` above the leaves.
pub record Updating (measure : List ℕ → ℕ) (start M : ℕ) (slots : List ℕ) (levels first last : ℕ) (words : List ℕ) : Type 0 where
  pub from : IsRange M levels first
  pub to : IsRange M levels last
  pub order : first ≤ last
  pub rows : (l k : ℕ) → l ≤ levels → IsRange M l k → get_or words k 0 ≡ number_at measure M slots l k
  pub others : NumbersBut measure start M slots (first * 2 ^ levels) ((last + 1) * 2 ^ levels) words

-- The leaves from `first` to `last` have their numbers, of some measure in the slots of some sheet, and so have the ranges without such a leaf.
pub record RowsReady (first last : ℕ) (words : List ℕ) : Type 0 where
  pub measure : List ℕ → ℕ
  pub sums : Additive measure
  pub start : ℕ
  pub M : ℕ
  pub slots : List ℕ
  pub most : M < 2 ^ 30
  pub room : 2 * 2 ^ height M ≤ length words
  pub leaves : Updating measure start M slots 0 first last words

-- All ranges have their numbers.
pub record RowsAdded (first last : ℕ) (old new : List ℕ) : Type 0 where
  pub kept : length new ≡ length old
  pub all : (w : RowsReady first last old) → NumbersIn w.measure w.start w.M w.slots new
