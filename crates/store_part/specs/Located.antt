-- Where a part of a sheet stands among its slots and counts, before and after a change that is confined to it.
-- Definitions only.
use Rattle.std.specs.Prelude.{◌≡◌, List, ◌++◌, ℕ, ◌+◌, ◌*◌, ◌^◌, ◌≤◌, ◌<◌, length}
use Rattle.base.specs.Lists.{Every}
use Rattle.tree_sizes.specs.Sizes.{Fits}
use Rattle.tree_rules.specs.declared.Change.{Change}
use Rattle.tree_rules.specs.Tree.{Tree, Balanced}
use Rattle.tree_rules.specs.Compare.{count_after}
use Rattle.tree_rules.specs.Rules.{at_rank, InReach}
use Rattle.tree_counts.specs.declared.Part.{Part}
use Rattle.tree_counts.specs.Counts.{Holds}
use Rattle.store_layout.specs.Layout.{leaf_counts, lay_leaves}
use Rattle.tree_rules.specs.ChangeList.{change_list}

-- A range with n entries and tree t at a depth of a sheet of size M, `levels` above the leaves.
pub record IsRange (M levels d n : ℕ) (t : Tree) : Type 0 where
  pub fits : Fits M levels d n
  pub balanced : Balanced M levels d n t

-- The range k of the list and tree before a change, and of the tree after it, has the part at this place: `above` levels down, number
-- `number` there from the left, `inner` above the leaves. Its leaves hold the entries `entries` before, and outside it nothing changes.
pub record Located (M s levels k d : ℕ) (change : Change) (e n : ℕ) (t t' : Tree) (list : List ℕ) (part : Part) : Type 0 where
  pub inner : ℕ
  pub above : ℕ
  pub number : ℕ
  pub levels_are : inner + above ≡ levels
  pub range_is : part.range ≡ k * 2 ^ above + number
  pub number_below : number < 2 ^ above
  pub depth_is : part.depth ≡ d + above
  pub entries : List ℕ
  pub few : length entries ≤ length list
  pub positive : Every (λ x. 0 < x) list → Every (λ x. 0 < x) entries
  pub tree : Tree
  pub tree' : Tree
  pub old_range : IsRange M inner part.depth (length entries) tree
  pub new_range : IsRange M inner part.depth (count_after change (length entries)) tree'
  pub reach : InReach (at_rank change part.rank) (length entries)
  pub left : List ℕ
  pub right : List ℕ
  pub left_length : length left ≡ s * (number * 2 ^ inner)
  pub old : lay_leaves s (leaf_counts n t) list ≡ left ++ lay_leaves s (leaf_counts (length entries) tree) entries ++ right
  pub new : lay_leaves s (leaf_counts (count_after change n) t') (change_list change e list)
      ≡ left
      ++ lay_leaves s (leaf_counts (count_after change (length entries)) tree') (change_list (at_rank change part.rank) e entries)
      ++ right
  pub held : (counts : List ℕ) → Holds counts k (count_after change n) t' → Holds counts part.range (count_after change (length entries)) tree'
