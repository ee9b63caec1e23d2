-- What laying out anew the part of a changed sheet relies on and comes to. Definitions only.
use Rattle.std.specs.Prelude.{◌≡◌, List, ◌++◌, ℕ, ◌+◌, ◌-◌, ◌*◌, ◌^◌, ◌≤◌, ◌<◌, max, length, get_or, take, drop, replicate}
use Rattle.base.specs.Lists.{Every, total}
use Rattle.tree_sizes.specs.Sizes.{height, leaf_slots}
use Rattle.tree_rules.specs.declared.Change.{Change}
use Rattle.tree_rules.specs.Tree.{Shape}
use Rattle.tree_rules.specs.Compare.{count_after}
use Rattle.tree_rules.specs.Rules.{at_rank, InReach}
use Rattle.tree_counts.specs.declared.Part.{Part}
use Rattle.tree_counts.specs.Counts.{shape_counts}
use Rattle.store_layout.specs.Leaf.{nonzero}
use Rattle.store_layout.specs.Layout.{lay_leaves, lay_slots}
use Rattle.tree_rules.specs.ChangeList.{change_list}
use Rattle.store_part.specs.Region.{leaves_of, leaves_before}

-- The first slot of the part in a sheet of size M, and its number of slots.
unfoldable pub part_from : ℕ → Part → ℕ
part_from M part = leaf_slots M * leaves_before M part.range part.depth

unfoldable pub part_length : ℕ → Part → ℕ
part_length M part = leaf_slots M * leaves_of M part.depth

-- The range numbers of its first and of its last leaf.
abbrev pub first_leaf : ℕ → Part → ℕ
first_leaf M part = part.range * leaves_of M part.depth

abbrev pub last_leaf : ℕ → Part → ℕ
last_leaf M part = first_leaf M part + (leaves_of M part.depth - 1)

-- The numbers of entries of the leaves of the part, by the counts.
unfoldable pub part_counts : ℕ → Part → List ℕ → List ℕ
part_counts M part counts = take (leaves_of M part.depth) (drop (part.range * leaves_of M part.depth) counts)

-- The slots with 0 from `from` on, up to `to`.
unfoldable pub zeroed : ℕ → ℕ → List ℕ → List ℕ
zeroed from to slots = take from slots ++ replicate (to - from) 0 ++ drop to slots

-- The range of the part is one of its depth, and that depth is one of the sheet of size M.
pub record PartIn (M : ℕ) (part : Part) : Type 0 where
  pub depth_most : part.depth ≤ height M
  pub range_least : 2 ^ part.depth ≤ part.range
  pub range_most : part.range < 2 * 2 ^ part.depth

-- The sheet of the list with the shape s becomes that of the changed list with the shape s' when the part alone is laid out anew:
-- its entries are gathered and changed, the slots that it no longer needs are zeroed, and its leaves are laid out by the new counts.
pub record Plan (room countRoom : ℕ) (list : List ℕ) (s s' : Shape) (change : Change) (e : ℕ) (part : Part) : Type 0 where
  pub old_part : PartIn s.size part
  pub new_part : PartIn s'.size part
  pub entries : List ℕ
  pub few : length entries ≤ length list
  pub reach : InReach (at_rank change part.rank) (length entries)
  pub old_room : part_from s.size part + part_length s.size part ≤ room
  pub new_room : part_from s'.size part + part_length s'.size part ≤ room
  pub counts_room : part.range * leaves_of s'.size part.depth + leaves_of s'.size part.depth ≤ countRoom
  pub gathered : nonzero (take (part_length s.size part) (drop (part_from s.size part) (lay_slots room list s))) ≡ entries
  pub count : get_or (shape_counts countRoom (count_after change (length list)) s') part.range 0 ≡ count_after change (length entries)
  pub counts_total : total (part_counts s'.size part (shape_counts countRoom (count_after change (length list)) s')) ≡ count_after change (length entries)
  pub counts_fit : Every (λ n. n ≤ leaf_slots s'.size) (part_counts s'.size part (shape_counts countRoom (count_after change (length list)) s'))
  pub laid :
      let from = part_from s'.size part in
      let end = from + part_length s'.size part in
      let cleared = zeroed end (max end (part_from s.size part + part_length s.size part)) (lay_slots room list s) in
      take from cleared
      ++ lay_leaves (leaf_slots s'.size) (part_counts s'.size part (shape_counts countRoom (count_after change (length list)) s'))
      (change_list (at_rank change part.rank) e entries)
      ++ drop end cleared
      ≡ lay_slots room (change_list change e list) s'
