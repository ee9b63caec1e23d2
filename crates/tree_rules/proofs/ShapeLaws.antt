-- What the rules end with: sizes that are allowed, and trees whose balance entries are candidates.
use Rattle.std.specs.Prelude.{◌≢◌, ℕ, zero, suc, ◌+◌, ◌-◌, ◌*◌, ◌<◌}
use Rattle.std.proofs.Common.{arith}
use Rattle.base.specs.CaseLaws.{by_eq, by_lt, by_le}
use Rattle.draw_shares.specs.Program.{Program, Ends}
use Rattle.draw_shares.specs.ProgramLaws.{ends_bind, ends_done}
use Rattle.tree_sizes.specs.Sizes.{Allowed, height, candidates, window_start, IsCandidate, Fits}
use Rattle.tree_sizes.proofs.SizeLaws.{candidate_face, candidate_below}
use Rattle.tree_sizes.proofs.Fit.{fit, fits_pos, fits_count, fits_halves}
use Rattle.tree_rules.specs.declared.Change.{Change}
use Rattle.tree_rules.specs.declared.Change.TheVariants.{Insert, Delete}
use Rattle.tree_rules.specs.declared.Comparison.{Comparison}
use Rattle.tree_rules.specs.declared.Comparison.TheVariants.{Unchanged, Swapped}
use Rattle.tree_rules.specs.Compare.{count_after, compare}
use Rattle.tree_rules.specs.Tree.{Tree, leaf, node, Balanced, Shape, IsShape}
use Rattle.tree_rules.specs.Rules.{join, rebuild, rebuild_halves, visit, rank_of, at_rank, InReach, walk_half, walk, SizeStep, kept, anew, grow, insert_size, shrink, delete_size, size_step, size_after, fresh, reshape, update}
use Rattle.tree_rules.specs.Moves.{rank_now, Leaves, Inside}
use Rattle.tree_rules.proofs.MoveLaws.{moves}
use Rattle.tree_rules.specs.ChangeLaws.{right_reach, right_after, right_now, left_reach, left_count, left_now}

-- ---- the size step

insert_ends : (N M : ℕ) → Allowed N M → Ends (λ step. Allowed (suc N) (size_after M step)) (insert_size N M)
unfolding insert_size grow Ends size_after
insert_ends N M a =
    by_eq (Ends (λ step. Allowed (suc N) (size_after M step))) N 0 _ _
    (λ e. record { least = omega arith; most = omega arith })
    (λ ne.
    by_eq (Ends (λ step. Allowed (suc N) (size_after M step))) M N _ _
    (λ e. anew_ends ne)
    (λ d face l.
    by_eq (Ends (λ step. Allowed (suc N) (size_after M step))) face 0 _ _
    (λ e. anew_ends ne)
    (λ e. record { least = omega (arith, a.least); most = omega (arith, a.most) })))
  where
    anew_ends : N ≢ 0 → (face : ℕ) → face < 2 → Allowed (suc N) (2 * N + face)
    anew_ends ne face l = record { least = omega arith; most = omega arith }

delete_ends : (N M : ℕ) → 0 < N → Allowed N M → Ends (λ step. Allowed (N - 1) (size_after M step)) (delete_size N M)
unfolding delete_size shrink Ends size_after
delete_ends N M p a =
    by_eq (Ends (λ step. Allowed (N - 1) (size_after M step))) N 1 _ _
    (λ e. record { least = omega arith; most = omega arith })
    (λ ne.
    by_le (Ends (λ step. Allowed (N - 1) (size_after M step))) (2 * N - 2) M _ _
    (λ h f l.
    by_lt (Allowed (N - 1)) f (N - 2) (N + f) (N - 1)
    (λ k. record { least = omega arith; most = omega arith })
    (λ k. record { least = omega arith; most = omega arith }))
    (λ h. record { least = omega (arith, a.least); most = omega arith }))

pub step_ends : (change : Change) (N M : ℕ) → InReach change N → Allowed N M
    → Ends (λ step. Allowed (count_after change N) (size_after M step)) (size_step change N M)
unfolding size_step count_after InReach
step_ends (Insert i) N M h a = insert_ends N M a
step_ends (Delete i) N M h a = delete_ends N M (omega (arith, h)) a

-- ---- rebuilding

pub rebuild_ends : (M levels d n : ℕ) → Ends (Balanced M levels d n) (rebuild M levels d n)
unfolding rebuild join Ends Balanced
rebuild_ends M zero d n = tt
rebuild_ends M (suc levels) d n = λ face l.
    let b = window_start n (candidates M d) + face in
    ends_bind (Balanced M levels (suc d) b) _ (rebuild M levels (suc d) b) _ (rebuild_ends M levels (suc d) b) (λ t left.
    ends_bind (Balanced M levels (suc d) (n - b)) _ (rebuild M levels (suc d) (n - b)) _ (rebuild_ends M levels (suc d) (n - b)) (λ r right.
    (candidate_face n (candidates M d) face l, left, right)))

pub fresh_ends : (M N : ℕ) → Allowed N M → Ends (IsShape N) (fresh M N)
unfolding fresh
fresh_ends M N a =
    ends_bind (Balanced M (height M) 0 N) (IsShape N) (rebuild M (height M) 0 N) _ (rebuild_ends M (height M) 0 N)
    (λ t b. ends_done (IsShape N) _ (record { allowed = a; balanced = b }))

-- ---- the walk

halves_end : (M levels d n b : ℕ) → IsCandidate n (candidates M d) b → Ends (Balanced M (suc levels) d n) (rebuild_halves M levels d n b)
unfolding rebuild_halves join Ends Balanced
halves_end M levels d n b candidate =
    ends_bind (Balanced M levels (suc d) b) _ (rebuild M levels (suc d) b) _ (rebuild_ends M levels (suc d) b) (λ t left.
    ends_bind (Balanced M levels (suc d) (n - b)) _ (rebuild M levels (suc d) (n - b)) _ (rebuild_ends M levels (suc d) (n - b)) (λ r right.
    (candidate, left, right)))

-- what each way of a visit ends with
visit_ends : (R : Tree → Type 0) (change : Change) (n c : ℕ) (found : Comparison) (b : ℕ) (rebuilt : Program Tree) (halves : ℕ → Program Tree) (below : Program Tree)
    → Inside change n c found → Ends R rebuilt → ((into : ℕ) → IsCandidate (count_after change n) c into → Ends R (halves into))
    → (¬ Leaves found b → Ends R below)
    → Ends R (visit found c b rebuilt halves below)
unfolding visit Leaves Inside Ends
visit_ends R change n c Unchanged b rebuilt halves below inside h k l = l (λ z. z)
visit_ends R change n c (Swapped out into) b rebuilt halves below inside h k l =
    by_eq (Ends R) b out _ _
    (λ e. h)
    (λ ne face i. by_eq (Ends R) face 0 _ _ (λ e. k into inside.1) (λ e. l ne))

pub walk_ends : (M levels d : ℕ) (change : Change) (n : ℕ) (t : Tree) → InReach change n → Fits M levels d n → Fits M levels d (count_after change n)
    → Balanced M levels d n t → Ends (Balanced M levels d (count_after change n)) (walk M levels d change n t)
unfolding walk walk_half Balanced Ends
walk_ends M zero d change n t reach old new w = tt
walk_ends M (suc levels) d change n leaf reach old new w = absurd w
walk_ends M (suc levels) d change n (node b l r) reach old new w =
    let c = candidates M d in
    let few = fits_count M levels d n old in
    let m = moves change n c (fits_pos M levels d n old) few (fits_count M levels d (count_after change n) new) in
    let halves = fits_halves M levels d n old b w.0 in
    visit_ends (Balanced M (suc levels) d (count_after change n)) change n c (compare change n c) b _ _ _
    m.inside
    (rebuild_ends M (suc levels) d (count_after change n))
    (λ into candidate. halves_end M levels d (count_after change n) into candidate)
    (λ stays.
    let candidate = m.within b w.0 stays in
    let halves' = fits_halves M levels d (count_after change n) new (rank_now change b) candidate in
    by_lt (Ends (Balanced M (suc levels) d (count_after change n))) b (rank_of change) _ _
    (λ h.
    let now = right_now change b h in
    let count = right_after change n b h reach in
    ends_bind (Balanced M levels (suc d) (count_after change n - b)) _ (walk M levels (suc d) (at_rank change (rank_of change - b)) (n - b) r) _
    (rw count at
    (walk_ends M levels (suc d) (at_rank change (rank_of change - b)) (n - b) r (right_reach change n b h reach) halves.1
    (rw count (rw now at halves'.1)) w.2))
    (λ r' right. (rw now at candidate, w.1, right)))
    (λ h.
    let now = left_now change b h in
    let here = left_reach change b h (m.stays b w.0 stays) in
    ends_bind (Balanced M levels (suc d) (count_after change b)) _ (walk M levels (suc d) change b l) _
    (walk_ends M levels (suc d) change b l here halves.0 (rw now at halves'.0) w.1)
    (λ l' left.
    (rw now at candidate, left, rw (left_count change n b (omega (arith, candidate_below n c b few w.0)) here) w.2))))

-- ---- insert and delete

pub update_ends : (change : Change) (N : ℕ) (s : Shape) → InReach change N → IsShape N s → Ends (IsShape (count_after change N)) (update change N s)
unfolding update size_after reshape
update_ends change N s reach w =
    ends_bind (λ step. Allowed (count_after change N) (size_after s.size step)) (IsShape (count_after change N)) (size_step change N s.size) _
    (step_ends change N s.size reach w.allowed)
    (λ step a. go step a)
  where
    go : (step : SizeStep) → Allowed (count_after change N) (size_after s.size step) → Ends (IsShape (count_after change N)) (reshape change N s step)
    go kept a =
        ends_bind (Balanced s.size (height s.size) 0 (count_after change N)) (IsShape (count_after change N))
        (walk s.size (height s.size) 0 change N s.tree) _
        (walk_ends s.size (height s.size) 0 change N s.tree reach (fit N s.size w.allowed) (fit (count_after change N) s.size a) w.balanced)
        (λ t b. ends_done (IsShape (count_after change N)) _ (record { allowed = a; balanced = b }))
    go (anew M) a = fresh_ends M (count_after change N) a
