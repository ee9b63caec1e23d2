-- The slots after a part of a sheet was laid out anew, and what that asks. Definitions only.
use Rattle.std.specs.Prelude.{◌≡◌, List, ◌++◌, ℕ, ◌+◌, ◌*◌, ◌^◌, ◌≤◌, ◌<◌, max, length, take, drop}
use Rattle.base.specs.Lists.{Every, total}
use Rattle.tree_sizes.specs.Sizes.{leaf_slots}
use Rattle.tree_rules.specs.declared.Change.{Change}
use Rattle.tree_rules.specs.Compare.{count_after}
use Rattle.tree_rules.specs.Rules.{at_rank, InReach}
use Rattle.tree_counts.specs.declared.Part.{Part}
use Rattle.store_layout.specs.Leaf.{nonzero}
use Rattle.store_layout.specs.Layout.{lay_leaves}
use Rattle.tree_rules.specs.ChangeList.{change_list}
use Rattle.store_part.specs.Region.{leaves_of}
use Rattle.store_part.specs.Plan.{part_from, part_length, part_counts, zeroed, PartIn}

-- The entries of the part in a sheet of size M.
unfoldable pub part_entries : ℕ → Part → List ℕ → List ℕ
part_entries M part slots = nonzero (take (part_length M part) (drop (part_from M part) slots))

-- The slots with the leaves of the part laid out from a list, by the counts, in a sheet of size M.
unfoldable pub lay_entries : ℕ → Part → List ℕ → List ℕ → List ℕ → List ℕ
lay_entries M part counts list slots =
    take (part_from M part) slots
    ++ lay_leaves (leaf_slots M) (part_counts M part counts) list
    ++ drop (part_from M part + part_length M part) slots

-- The slots after the part: its entries in a sheet of size M are changed, and laid out by the counts in one of size M'; slots of the part
-- that it no longer needs are zeroed.
unfoldable pub lay_part : ℕ → ℕ → Part → Change → ℕ → List ℕ → List ℕ → List ℕ
lay_part M M' part change e counts slots =
    let end = part_from M' part + part_length M' part in
    lay_entries M' part counts (change_list (at_rank change part.rank) e (part_entries M part slots))
    (zeroed end (max end (part_from M part + part_length M part)) slots)

-- The part is one of a sheet of size M.
pub record PartReady (M : ℕ) (part : Part) : Type 0 where
  pub most : M < 2 ^ 32
  pub inside : PartIn M part

-- There is room for the leaves of the part, and the list has their entries and one place more.
pub record EntriesReady (M : ℕ) (part : Part) (counts list slots : List ℕ) : Type 0 where
  pub part_ready : PartReady M part
  pub room : part_from M part + part_length M part ≤ length slots
  pub counts_room : part.range * leaves_of M part.depth + leaves_of M part.depth ≤ length counts
  pub list_room : total (part_counts M part counts) < length list
  pub fit : Every (λ n. n ≤ leaf_slots M) (part_counts M part counts)

-- The part stands in both sheets, and the counts are those of its changed entries.
pub record LayReady (M M' : ℕ) (part : Part) (change : Change) (counts slots : List ℕ) : Type 0 where
  pub old_part : PartReady M part
  pub new_part : PartReady M' part
  pub old_room : part_from M part + part_length M part ≤ length slots
  pub new_room : part_from M' part + part_length M' part ≤ length slots
  pub counts_room : part.range * leaves_of M' part.depth + leaves_of M' part.depth ≤ length counts
  pub reach : InReach (at_rank change part.rank) (length (part_entries M part slots))
  pub counts_total : total (part_counts M' part counts) ≡ count_after change (length (part_entries M part slots))
  pub counts_fit : Every (λ n. n ≤ leaf_slots M') (part_counts M' part counts)
