-- The balance entries by the leaves that right halves begin with, and the third slice after a change of some leaves. Definitions only.
use Rattle.std.specs.Prelude.{◌≡◌, ◌≢◌, List, ℕ, ◌+◌, ◌-◌, ◌*◌, ◌^◌, ◌≤◌, ◌<◌, length, get_or, take, drop}
use Rattle.tree_sizes.specs.Sizes.{height, leaf_slots}
use Rattle.tree_counts.specs.declared.Part.{Part}
use Rattle.store_layout.specs.Leaf.{nonzero}
use Rattle.store_balance.specs.BalanceIn.{first_from}
use Rattle.store_part.specs.Plan.{first_leaf, last_leaf, PartIn}

-- The range k begins with this leaf, by their range numbers: the first range so many levels below the range k has the number k * 2 ^ levels.
pub record Begins (k leaf : ℕ) : Type 0 where
  pub levels : ℕ
  pub is : leaf ≡ k * 2 ^ levels

-- In a sheet with its leaves at depth h, the right half of the range k begins with this leaf. So it is not the first leaf of the sheet.
pub record RightFrom (h k leaf : ℕ) : Type 0 where
  pub half : Begins (2 * k + 1) leaf
  pub after : 2 ^ h < leaf
  pub before : leaf < 2 * 2 ^ h

-- The first entry from the leaf with this range number on, in a sheet with leaves of s slots at depth h.
unfoldable pub entry_from : ℕ → ℕ → List ℕ → ℕ → ℕ
entry_from h s slots leaf = first_from slots (s * (leaf - 2 ^ h))

-- The leaf j, from 0, has an entry.
unfoldable pub HasEntry : ℕ → List ℕ → ℕ → Type 0
HasEntry M slots j = 0 < length (nonzero (take (leaf_slots M) (drop (leaf_slots M * j) slots)))

-- In a sheet with leaves of s slots at depth h the words are the balance entries of the ranges above the leaves, and 0 elsewhere, but perhaps at
-- the ranges whose right half begins with a leaf that has a range number from `first` up to, not including, `end`.
pub record EntriesBut (h s : ℕ) (slots : List ℕ) (first end : ℕ) (words : List ℕ) : Type 0 where
  pub zero : get_or words 0 0 ≡ 0
  pub left : (k leaf : ℕ) → RightFrom h k leaf → leaf < first → get_or words k 0 ≡ entry_from h s slots leaf
  pub right : (k leaf : ℕ) → RightFrom h k leaf → end ≤ leaf → get_or words k 0 ≡ entry_from h s slots leaf
  pub unused : (k : ℕ) → 2 ^ h ≤ k → get_or words k 0 ≡ 0

-- The words are the third slice that the slots of a sheet of size M give, but perhaps at those ranges.
abbrev pub BalanceBut : ℕ → List ℕ → ℕ → ℕ → List ℕ → Type 0
BalanceBut M = EntriesBut (height M) (leaf_slots M)

-- The part is one of a sheet of size M, the third slice has room for its ranges, and where the part is not the whole sheet, the words are the
-- third slice that the slots give, but perhaps at the ranges whose right half begins with a leaf of the part.
pub record BalanceReady (M : ℕ) (part : Part) (slots words : List ℕ) : Type 0 where
  pub most : M < 2 ^ 32
  pub room : 2 ^ height M ≤ length words
  pub inside : PartIn M part
  pub kept : part.range ≢ 1 → BalanceBut M slots (first_leaf M part) (last_leaf M part + 1) words
