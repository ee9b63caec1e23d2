-- What the tests ask of their arguments. Definitions only.
use Rattle.std.specs.Prelude.{ℕ, ◌*◌, ◌^◌, ◌<◌, ◌≤◌, List, length, take, drop, slice_index, slice_index_or}
use Rattle.base.specs.Lists.{Every}
use Rattle.tree_sizes.specs.Sizes.{Allowed, height, leaf_slots, slots, Fits}

-- The ranges of a level, from `first` on, with c candidates each.
pub record LevelTestReady (counts : List ℕ) (c first : ℕ) : Type 0 where
  pub room : 4 * first ≤ length counts
  pub small : c < 2 ^ 31

-- The root of a sheet of size M, h above the leaves, and the ranges below it.
pub record TreeTestReady (counts : List ℕ) (M h : ℕ) : Type 0 where
  pub room : 2 * 2 ^ h ≤ length counts
  pub fits : Fits M h 0 (slice_index counts 1)
  pub least : 0 < h → 1 < M
  pub most : M < 2 ^ 31

-- Room for the counts of every size that the entries can have.
pub record CountsTestReady (entries : ℕ) (counts : List ℕ) : Type 0 where
  pub few : entries < 2 ^ 30
  pub room : (N M : ℕ) → N ≤ entries → Allowed N M → 2 * 2 ^ height M ≤ length counts

-- The slots and the counts of a sheet whose size the counts tell.
pub record SlotsTestReady (all counts : List ℕ) : Type 0 where
  pub most : slice_index_or counts 0 0 < 2 ^ 32
  pub slots_room : slots (slice_index counts 0) ≤ length all
  pub counts_room : 2 * 2 ^ height (slice_index counts 0) ≤ length counts
  pub fit : Every (λ n. n ≤ leaf_slots (slice_index counts 0)) (take (2 ^ height (slice_index counts 0)) (drop (2 ^ height (slice_index counts 0)) counts))
