-- The rules of document 01, "Insert and delete", as programs that draw. Definitions only.
use Rattle.std.specs.Prelude.{ℕ, zero, suc, ◌+◌, ◌-◌, ◌*◌, ◌≤◌, ◌<◌}
use Rattle.base.specs.Cases.{if_eq, if_lt, if_le}
use Rattle.draw_shares.specs.Program.{Program, done, draw, ◌>>=◌}
use Rattle.tree_sizes.specs.Sizes.{height, candidates, window_start}
use Rattle.tree_rules.specs.declared.Change.{Change}
use Rattle.tree_rules.specs.declared.Change.TheVariants.{Insert, Delete}
use Rattle.tree_rules.specs.declared.Comparison.{Comparison}
use Rattle.tree_rules.specs.declared.Comparison.TheVariants.{Unchanged, Swapped}
use Rattle.tree_rules.specs.Tree.{Tree, leaf, node, Shape}
use Rattle.tree_rules.specs.Compare.{count_after, compare}

-- ---- the size step

-- The size parameter is kept, or set anew, even if to an equal value.
pub data SizeStep : Type 0 where
  kept : SizeStep
  anew : ℕ → SizeStep

-- N is the length before.
unfoldable pub grow : ℕ → Program SizeStep
grow N = draw 2 (λ face. done (anew (2 * N + face)))

unfoldable pub insert_size : ℕ → ℕ → Program SizeStep
insert_size N M = if_eq N 0 (done (anew 1)) (if_eq M N (grow N) (draw (N + 1) (λ face. if_eq face 0 (grow N) (done kept))))

unfoldable pub shrink : ℕ → Program SizeStep
shrink N = draw (2 * N - 2) (λ f. done (anew (if_lt f (N - 2) (N + f) (N - 1))))

unfoldable pub delete_size : ℕ → ℕ → Program SizeStep
delete_size N M = if_eq N 1 (done (anew 0)) (if_le (2 * N - 2) M (shrink N) (done kept))

unfoldable pub size_step : Change → ℕ → ℕ → Program SizeStep
size_step (Insert i) N M = insert_size N M
size_step (Delete i) N M = delete_size N M

-- The size parameter after a size step.
unfoldable pub size_after : ℕ → SizeStep → ℕ
size_after M kept = M
size_after M (anew M') = M'

-- ---- rebuilding

-- A range with the balance rank b: first its left half, then its right half.
unfoldable pub join : ℕ → Program Tree → Program Tree → Program Tree
join b left right = left >>= λ l. right >>= λ r. done (node b l r)

-- Rebuilding a range of n entries at depth d, `levels` above the leaves: its balance entry is drawn (face f: candidate f, from 0), then
-- its left half and then its right half in the same way; a leaf draws nothing.
unfoldable pub rebuild : ℕ → ℕ → ℕ → ℕ → Program Tree
rebuild M zero d n = done leaf
rebuild M (suc levels) d n =
    draw (candidates M d) (λ face.
    let b = window_start n (candidates M d) + face in
    join b (rebuild M levels (suc d) b) (rebuild M levels (suc d) (n - b)))

-- Both halves of a range rebuilt, with the balance entry of rank b.
unfoldable pub rebuild_halves : ℕ → ℕ → ℕ → ℕ → ℕ → Program Tree
rebuild_halves M levels d n b = join b (rebuild M levels (suc d) b) (rebuild M levels (suc d) (n - b))

-- ---- the walk down, where M was kept

-- At a range with c candidates and the balance entry b. The balance entry leaves: rebuild this range. Another leaves: draw among c;
-- face 0 makes the entering one the balance entry and rebuilds both halves; otherwise nothing changes here. Unchanged: no draw.
unfoldable pub visit : Comparison → ℕ → ℕ → Program Tree → (ℕ → Program Tree) → Program Tree → Program Tree
visit Unchanged c b rebuilt halves below = below
visit (Swapped out into) c b rebuilt halves below = if_eq b out rebuilt (draw c (λ face. if_eq face 0 (halves into) below))

-- The rank at which an entry comes in or goes out, and the same change at another rank.
unfoldable pub rank_of : Change → ℕ
rank_of (Insert i) = i
rank_of (Delete i) = i

unfoldable pub at_rank : Change → ℕ → Change
at_rank (Insert i) j = Insert j
at_rank (Delete i) j = Delete j

-- The rank is one at which an entry can come in or go out of n.
unfoldable pub InReach : Change → ℕ → Type 0
InReach (Insert i) n = i ≤ n
InReach (Delete i) n = i < n

-- Into the half of a range, with the balance rank b, that gains or loses the entry. An entry inserted directly before the balance entry
-- joins the left half. (The entry that goes out is not the balance entry here: then the range was rebuilt.)
unfoldable pub walk_half : (Change → ℕ → Tree → Program Tree) → Change → ℕ → ℕ → Tree → Tree → Program Tree
walk_half below change n b l r =
    if_lt b (rank_of change)
    (below (at_rank change (rank_of change - b)) (n - b) r >>= λ r'. done (node b l r'))
    (below change b l >>= λ l'. done (node (count_after change b) l' r))

-- From a range down, to a leaf.
unfoldable pub walk : ℕ → ℕ → ℕ → Change → ℕ → Tree → Program Tree
walk M zero d change n t = done leaf
walk M (suc levels) d change n leaf = done leaf
walk M (suc levels) d change n (node b l r) =
    visit (compare change n (candidates M d)) (candidates M d) b
    (rebuild M (suc levels) d (count_after change n))
    (rebuild_halves M levels d (count_after change n))
    (walk_half (walk M levels (suc d)) change n b l r)

-- ---- insert and delete

-- Everything rebuilt at the size M, for n entries.
unfoldable pub fresh : ℕ → ℕ → Program Shape
fresh M n = rebuild M (height M) 0 n >>= λ t. done (record { size = M; tree = t })

unfoldable pub reshape : Change → ℕ → Shape → SizeStep → Program Shape
reshape change N s kept =
    walk s.size (height s.size) 0 change N s.tree >>= λ t. done (record { size = s.size; tree = t })
reshape change N s (anew M) = fresh M (count_after change N)

-- Size first; if that step set M anew, the whole sheet is rebuilt; if M was kept, the walk goes down from the root.
unfoldable pub update : Change → ℕ → Shape → Program Shape
update change N s = size_step change N s.size >>= reshape change N s
