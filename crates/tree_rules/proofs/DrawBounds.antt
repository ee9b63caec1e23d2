-- Every draw of the rules is among at least one face and at most so many as the entries bound.
use Prim.Native.Nat.{ℕ, zero, suc, ◌+◌, ◌-◌, ◌*◌, ◌≤◌}
use native.Mathlib.Omega.{arith}
use Rattle.base.specs.CaseLaws.{by_eq, by_lt, by_le}
use Rattle.draw_shares.specs.Program.{Program, Among, Draws}
use Rattle.draw_shares.specs.ProgramLaws.{draws_bind, draws_bind_ends, draws_done}
use Rattle.tree_sizes.specs.Sizes.{Allowed, height, candidates, window_start, IsCandidate, Fits}
use Rattle.tree_sizes.proofs.SizeLaws.{candidate_face, candidate_below}
use Rattle.tree_sizes.proofs.Fit.{fit, fits_pos, fits_count, fits_halves}
use Rattle.tree_rules.specs.declared.Change.{Change}
use Rattle.tree_rules.specs.declared.Change.TheVariants.{Insert, Delete}
use Rattle.tree_rules.specs.declared.Comparison.{Comparison}
use Rattle.tree_rules.specs.declared.Comparison.TheVariants.{Unchanged, Swapped}
use Rattle.tree_rules.specs.Compare.{count_after, compare}
use Rattle.tree_rules.specs.Tree.{Tree, leaf, node, Balanced, Shape, IsShape}
use Rattle.tree_rules.specs.Rules.{join, rebuild, rebuild_halves, visit, rank_of, at_rank, InReach, walk_half, walk, SizeStep, kept, anew, grow, insert_size, shrink, delete_size, size_step, size_after, fresh, reshape, update}
use Rattle.tree_rules.specs.Moves.{rank_now, Leaves, Inside}
use Rattle.tree_rules.proofs.MoveLaws.{moves}
use Rattle.tree_rules.specs.ChangeLaws.{right_reach, right_after, right_now, left_reach, left_now}
use Rattle.tree_rules.proofs.ShapeLaws.{step_ends}

module _ (W : ℕ) where
  -- ---- the size step

  step_draws : (change : Change) (N M : ℕ) → InReach change N → 2 * N + 2 ≤ W → Draws (Among W) (size_step change N M)
  unfolding size_step InReach insert_size grow delete_size shrink Draws
  step_draws (Insert i) N M reach few =
      by_eq (Draws (Among W)) N 0 _ _ (λ e. tt)
      (λ ne. by_eq (Draws (Among W)) M N _ _ (λ e. ((omega arith, omega arith), λ f l. tt))
      (λ d. ((omega arith, omega arith), λ face l. by_eq (Draws (Among W)) face 0 _ _ (λ e. ((omega arith, omega arith), λ f l. tt)) (λ e. tt))))
  step_draws (Delete i) N M reach few =
      by_eq (Draws (Among W)) N 1 _ _ (λ e. tt)
      (λ ne. by_le (Draws (Among W)) (2 * N - 2) M _ _ (λ h. ((omega (arith, reach), omega arith), λ f l. tt)) (λ h. tt))

  -- ---- rebuilding

  join_draws : (b : ℕ) (p q : Program Tree) → Draws (Among W) p → Draws (Among W) q → Draws (Among W) (join b p q)
  unfolding join
  join_draws b p q l h = draws_bind _ p _ l (λ t. draws_bind _ q _ h (λ r. draws_done _ (node b t r)))

  rebuild_draws : (M levels d n : ℕ) → Fits M levels d n → n ≤ W → Draws (Among W) (rebuild M levels d n)
  unfolding rebuild Draws
  rebuild_draws M zero d n fits few = tt
  rebuild_draws M (suc levels) d n fits few =
      let c = candidates M d in
      let count = fits_count M levels d n fits in (
        (fits_pos M levels d n fits, omega (arith, count, few)),
        λ face l.
            let b = window_start n c + face in
            let candidate = candidate_face n c face l in
            let halves = fits_halves M levels d n fits b candidate in
            let below = candidate_below n c b count candidate in
            join_draws b _ _ (rebuild_draws M levels (suc d) b halves.0 (omega (arith, below, few)))
            (rebuild_draws M levels (suc d) (n - b) halves.1 (omega (arith, few))),
      )

  fresh_draws : (M N : ℕ) → Allowed N M → N ≤ W → Draws (Among W) (fresh M N)
  unfolding fresh
  fresh_draws M N a few = draws_bind _ (rebuild M (height M) 0 N) _ (rebuild_draws M (height M) 0 N (fit N M a) few) (λ t. draws_done _ _)

  -- ---- the walk

  halves_draw : (M levels d n b : ℕ) → Fits M (suc levels) d n → IsCandidate n (candidates M d) b → n ≤ W → Draws (Among W) (rebuild_halves M levels d n b)
  unfolding rebuild_halves
  halves_draw M levels d n b fits candidate few =
      let halves = fits_halves M levels d n fits b candidate in
      let below = candidate_below n (candidates M d) b (fits_count M levels d n fits) candidate in
      join_draws b _ _ (rebuild_draws M levels (suc d) b halves.0 (omega (arith, below, few)))
      (rebuild_draws M levels (suc d) (n - b) halves.1 (omega (arith, few)))

  visit_draws : (change : Change) (n c : ℕ) (found : Comparison) (b : ℕ) (rebuilt : Program Tree) (halves : ℕ → Program Tree) (below : Program Tree)
      → Among W c → Inside change n c found → Draws (Among W) rebuilt
      → ((into : ℕ) → IsCandidate (count_after change n) c into → Draws (Among W) (halves into))
      → (¬ Leaves found b → Draws (Among W) below) → Draws (Among W) (visit found c b rebuilt halves below)
  unfolding visit Leaves Inside Draws
  visit_draws change n c Unchanged b rebuilt halves below a inside h k l = l (λ z. z)
  visit_draws change n c (Swapped out into) b rebuilt halves below a inside h k l =
      by_eq (Draws (Among W)) b out _ _ (λ e. h)
      (λ ne. (a, λ face i. by_eq (Draws (Among W)) face 0 _ _ (λ e. k into inside.1) (λ e. l ne)))

  walk_draws : (M levels d : ℕ) (change : Change) (n : ℕ) (t : Tree) → InReach change n → Fits M levels d n → Fits M levels d (count_after change n)
      → Balanced M levels d n t → n ≤ W → count_after change n ≤ W → Draws (Among W) (walk M levels d change n t)
  unfolding walk walk_half Balanced Draws
  walk_draws M zero d change n t reach old new w few few' = tt
  walk_draws M (suc levels) d change n leaf reach old new w few few' = absurd w
  walk_draws M (suc levels) d change n (node b l r) reach old new w few few' =
      let c = candidates M d in
      let count = fits_count M levels d n old in
      let m = moves change n c (fits_pos M levels d n old) count (fits_count M levels d (count_after change n) new) in
      let halves = fits_halves M levels d n old b w.0 in
      let below = candidate_below n c b count w.0 in
      visit_draws change n c (compare change n c) b _ _ _ (fits_pos M levels d n old, omega (arith, count, few))
      m.inside
      (rebuild_draws M (suc levels) d (count_after change n) new few')
      (λ into candidate. halves_draw M levels d (count_after change n) into new candidate few')
      (λ stays.
      let candidate = m.within b w.0 stays in
      let halves' = fits_halves M levels d (count_after change n) new (rank_now change b) candidate in
      let below' = candidate_below (count_after change n) c (rank_now change b) (fits_count M levels d (count_after change n) new) candidate in
      by_lt (Draws (Among W)) b (rank_of change) _ _
      (λ h.
      let now = right_now change b h in
      let same = right_after change n b h reach in
      draws_bind _ (walk M levels (suc d) (at_rank change (rank_of change - b)) (n - b) r) _
      (walk_draws M levels (suc d) (at_rank change (rank_of change - b)) (n - b) r (right_reach change n b h reach) halves.1
      (rw same (rw now at halves'.1)) w.2 (omega (arith, few)) (rw same (omega (arith, few'))))
      (λ r'. draws_done (Among W) (node b l r')))
      (λ h.
      let now = left_now change b h in
      let here = left_reach change b h (m.stays b w.0 stays) in
      draws_bind _ (walk M levels (suc d) change b l) _
      (walk_draws M levels (suc d) change b l here halves.0 (rw now at halves'.0) w.1 (omega (arith, below, few))
      (omega (arith, now, below', few')))
      (λ l'. draws_done (Among W) (node (count_after change b) l' r))))

  -- ---- insert and delete

  -- Every draw of an update is among 1 to W faces, where W is at least twice the entries and 2.
  pub update_draws : (change : Change) (N : ℕ) (s : Shape) → InReach change N → IsShape N s → 2 * N + 2 ≤ W → Draws (Among W) (update change N s)
  unfolding update size_after reshape count_after
  update_draws change N s reach w few =
      draws_bind_ends _ (λ step. Allowed (count_after change N) (size_after s.size step)) (size_step change N s.size) _
      (step_draws change N s.size reach few) (step_ends change N s.size reach w.allowed) go
    where
      after : count_after change N ≤ W
      after = most change
        where
          most : (x : Change) → count_after x N ≤ W
          most (Insert i) = omega arith
          most (Delete i) = omega arith

      go : (step : SizeStep) → Allowed (count_after change N) (size_after s.size step) → Draws (Among W) (reshape change N s step)
      go kept a =
          draws_bind _ (walk s.size (height s.size) 0 change N s.tree) _
          (walk_draws s.size (height s.size) 0 change N s.tree reach (fit N s.size w.allowed) (fit (count_after change N) s.size a)
          w.balanced (omega arith) after)
          (λ t. draws_done _ _)
      go (anew M) a = fresh_draws M (count_after change N) a after
