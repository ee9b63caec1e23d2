-- What the code that copies the counts of a tree asks. Definitions only.
use Rattle.std.specs.Prelude.{ℕ, ◌+◌, ◌*◌, ◌^◌, ◌≤◌, ◌<◌}

-- The tree of so many levels below range k has its places among the counts from `at` on, and its ranges in the work array.
pub record TreeReady (levels at k counts work : ℕ) : Type 0 where
  pub some_level : 0 < levels
  pub levels_fit : levels < 64
  pub places : at + 2 ^ levels ≤ counts + 1
  pub ranges : (k + 1) * 2 ^ levels ≤ 2 * work
