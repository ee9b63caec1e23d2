-- The walk down from the root, where the size parameter is kept: what it asks, and where it stops. Definitions only.
use Rattle.std.specs.Prelude.{◌≡◌, List, ℕ, ◌+◌, ◌-◌, ◌*◌, ◌^◌, ◌≤◌, ◌<◌, length, get_or, Some}
use Rattle.base.specs.Cases.{if_lt}
use Rattle.draw_shares.specs.Program.{done}
use Rattle.draw_shares.specs.Tape.{Ran, ran, after_run, run_at}
use Rattle.tree_sizes.specs.Sizes.{height, candidates, IsCandidate, Fits}
use Rattle.tree_rules.specs.declared.Change.{Change}
use Rattle.tree_rules.specs.Tree.{Tree, leaf, Balanced, IsShape}
use Rattle.tree_rules.specs.Compare.{count_after}
use Rattle.tree_rules.specs.Rules.{InReach, rebuild, rebuild_halves, walk, rank_of, at_rank}
use Rattle.tree_counts.specs.declared.Part.{Part}
use Rattle.tree_counts.specs.declared.Range.{Range}
use Rattle.tree_counts.specs.Counts.{read_tree, write_tree, Holds, shape_counts, shape_in}
use Rattle.tree_counts.specs.Confined.{Within}
use Rattle.tree_counts.specs.Rebuild.{left_of, right_of, RebuildReady}
use Rattle.tree_visit.specs.declared.Visited.TheVariants as visited
use Rattle.tree_visit.specs.Visit.{visit_run}
use Rattle.tree_walk.specs.declared.Walked.{Walked}
use Rattle.tree_walk.specs.declared.Stop.{Stop}

-- ---- one range

-- The number c of candidates of a range at depth d, where the size has ranges above the leaves.
abbrev pub CountedAt : ℕ → ℕ → ℕ → Type 0
CountedAt M d c = 1 < M → c ≡ candidates M d

-- The half of a range, with the balance rank b, that gains or loses the entry.
unfoldable pub half_of : Walked → ℕ → Walked
half_of here b =
    let rank = rank_of here.change in
    if_lt b rank
    record { range = right_of here.range b; change = at_rank here.change (rank - b) }
    record { range = left_of here.range b; change = here.change }

-- Its number of entries after the change, and the part that it is.
abbrev pub entries_after : Walked → ℕ
entries_after here = count_after here.change here.range.n

abbrev pub range_after : Walked → Range
range_after here = record { k = here.range.k; depth = here.range.depth; levels = here.range.levels; n = entries_after here }

abbrev pub part_of : Walked → Part
part_of here = record { range = here.range.k; depth = here.range.depth; rank = rank_of here.change }

-- ---- the walk

-- The walk asks that the counts hold the shape of size M of N entries, that the change is one of these, and that the candidates fit after
-- it.
pub record WalkReady (change : Change) (N M : ℕ) (counts : List ℕ) : Type 0 where
  pub size : get_or counts 0 0 ≡ M
  pub shape : IsShape N (shape_in counts)
  pub held : counts ≡ shape_counts (length counts) N (shape_in counts)
  pub reach : InReach change N
  pub can : RebuildReady M (height M) 0 1 (count_after change N) (length counts)

-- The run of the walk from the root.
unfoldable pub walk_run : Change → ℕ → ℕ → List ℕ → List ℕ → ℕ → Ran Tree
walk_run change N M counts tape at = run_at (walk M (height M) 0 change N (read_tree (height M) counts 1)) tape at

-- The walk from the place `start` has come to the range k at depth d, `levels` above the leaves, and here the change is one to its n
-- entries. The counts above it are those after the change. `plug` puts a tree of the range into the tree of the whole.
pub record Walking (change : Change) (N M : ℕ) (counts₀ tape : List ℕ) (start : ℕ) (counts : List ℕ) (levels d k n : ℕ)
    (here : Change) (at : ℕ) : Type 0 where
  pub tree : Tree
  pub plug : Tree → Tree
  pub run : walk_run change N M counts₀ tape start
      ≡ after_run (run_at (walk M levels d here n tree) tape at) (λ t next. ran (plug t) next)
  pub written : (t : Tree) → write_tree counts₀ 1 (count_after change N) (plug t) ≡ write_tree counts k (count_after here n) t
  pub within : (t : Tree) (part : Part) → Within k d here tree t part → Within 1 0 change (read_tree (height M) counts₀ 1) (plug t) part
  pub reach : InReach here n
  pub holds : Holds counts k n tree
  pub balanced : Balanced M levels d n tree
  pub fits : Fits M levels d n
  pub can : RebuildReady M levels d k (count_after here n) (length counts)
  pub positive : 0 < k
  pub kept : length counts ≡ length counts₀

-- ---- where it stops

-- The run from the range on: it is rebuilt, or its halves are; at a leaf nothing is drawn.
unfoldable pub stop_run : ℕ → List ℕ → Stop → Ran Tree
stop_run M tape stop =
    let here = stop.here in
    visit_run (rebuild M here.range.levels here.range.depth (entries_after here))
    (rebuild_halves M (here.range.levels - 1) here.range.depth (entries_after here))
    (done leaf) tape (Some stop.visited)

-- Where an entry enters, the range is no leaf, and the entry is one of its candidates after the change.
abbrev pub EntersCandidate : ℕ → Stop → Type 0
EntersCandidate M stop =
    (into next : ℕ) → stop.visited ≡ visited.Enter into next
    → (0 < stop.here.range.levels) × IsCandidate (entries_after stop.here) (candidates M stop.here.range.depth) into

-- The range can be rebuilt for its entries after the change, and so can its halves.
pub record StopReady (M : ℕ) (stop : Stop) (room : ℕ) : Type 0 where
  pub reach : InReach stop.here.change stop.here.range.n
  pub can : RebuildReady M stop.here.range.levels stop.here.range.depth stop.here.range.k (entries_after stop.here) room
  pub enters : EntersCandidate M stop

-- The walk from the place `start` has stopped.
pub record Stopped (change : Change) (N M : ℕ) (counts₀ tape : List ℕ) (start : ℕ) (stop : Stop) (counts : List ℕ) : Type 0 where
  pub plug : Tree → Tree
  pub run : walk_run change N M counts₀ tape start ≡ after_run (stop_run M tape stop) (λ t next. ran (plug t) next)
  pub written : (t : Tree)
      → write_tree counts₀ 1 (count_after change N) (plug t) ≡ write_tree counts stop.here.range.k (entries_after stop.here) t
  pub within : (t : Tree) → Within 1 0 change (read_tree (height M) counts₀ 1) (plug t) (part_of stop.here)
  pub ready : StopReady M stop (length counts)
