-- The slot of an entry, and how far a read of entries into an output has come. Definitions only.
use Rattle.std.specs.Prelude.{◌≡◌, List, ℕ, ◌≤◌, ◌<◌, length, get_or, take, drop}
use Rattle.store_layout.specs.Leaf.{nonzero}

-- The slot holds the entry number `number` (from 0) of those in the slots from `start` on, and is none of the slots before `start`.
pub record EntrySlot (slots : List ℕ) (start number slot : ℕ) : Type 0 where
  pub forward : start ≤ slot
  pub inside : slot < length slots
  pub entry : 0 < get_or slots slot 0
  pub rest : drop number (nonzero (drop start slots)) ≡ nonzero (drop slot slots)

-- The first n of the `count` entries that are wanted stand at the front of the output, and what stands behind `count` entries is as it was
-- before; nothing is said of what stands between.
pub record Reading (before wanted : List ℕ) (count n : ℕ) (output : List ℕ) : Type 0 where
  pub copied : take n output ≡ take n wanted
  pub rest : drop count output ≡ drop count before
  pub kept : length output ≡ length before
