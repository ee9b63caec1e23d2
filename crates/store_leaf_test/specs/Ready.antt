-- What the tests of leaves ask of their arguments. Definitions only.
use Rattle.std.specs.Prelude.{List, ℕ, ◌+◌, ◌*◌, ◌^◌, ◌≤◌, ◌<◌, length, take, drop}
use Rattle.base.specs.Lists.{Every}

-- A leaf of s slots from `from` on, with n entries.
pub record LeafTestReady (slots : List ℕ) (from s n : ℕ) : Type 0 where
  pub slots_room : from + s ≤ length slots
  pub fit : n ≤ s
  pub small : s < 2 ^ 32

-- Leaves of s slots, with the numbers of entries that stand in the counts from `first` on.
pub record LeavesTestReady (slots : List ℕ) (s : ℕ) (counts : List ℕ) (first leaves : ℕ) : Type 0 where
  pub slots_room : s * leaves ≤ length slots
  pub counts_room : first + leaves ≤ length counts
  pub fit : Every (λ n. n ≤ s) (take leaves (drop first counts))
  pub small : s < 2 ^ 32
