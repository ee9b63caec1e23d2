-- What the code asks of its arguments, and what it answers of a list. Definitions only.
use Rattle.std.specs.Prelude.{◌≡◌, List, ℕ, ◌+◌, ◌*◌, ◌^◌, ◌≤◌, ◌<◌, length, take, drop}
use Rattle.base.specs.Lists.{Every, total}
use Rattle.store_layout.specs.declared.Leaf.{Leaf}
use Rattle.store_layout.specs.Leaf.{nonzero}

-- A leaf has its slots and its entries.
pub record LeafReady (leaf : Leaf) (slots list : List ℕ) : Type 0 where
  pub slots_room : leaf.from + leaf.slots ≤ length slots
  pub list_room : leaf.at + leaf.entries ≤ length list
  pub fit : leaf.entries ≤ leaf.slots
  pub small : leaf.slots < 2 ^ 32

-- Leaves of s slots from `from` on, with the numbers of entries that stand in the counts from `first` on.
pub record LeavesReady (slots : List ℕ) (from s : ℕ) (counts : List ℕ) (first leaves : ℕ) (list : List ℕ) : Type 0 where
  pub slots_room : from + s * leaves ≤ length slots
  pub counts_room : first + leaves ≤ length counts
  pub list_room : total (take leaves (drop first counts)) ≤ length list
  pub fit : Every (λ n. n ≤ s) (take leaves (drop first counts))
  pub small : s < 2 ^ 32

-- Some slots, and a list with room for the entries in them and one element more.
pub record GatherReady (slots : List ℕ) (from len : ℕ) (list : List ℕ) : Type 0 where
  pub slots_room : from + len ≤ length slots
  pub list_room : length (nonzero (take len (drop from slots))) < length list

-- The list now has these n entries at its front, and its old length; nothing is said of what stands behind them.
pub record Gathered (entries old : List ℕ) (n : ℕ) (list : List ℕ) : Type 0 where
  pub number : n ≡ length entries
  pub front : take n list ≡ entries
  pub kept : length list ≡ length old
