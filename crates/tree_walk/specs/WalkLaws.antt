-- Laws of the walk: what a visit of a range does to the run, where the walk stops, and how it goes on below.
use Rattle.std.proofs.Math.Path.{◌≡◌, refl, ap, sym, subst}
use Rattle.std.proofs.Common.{◌∙◌, inl, add-one, length-set}
use Rattle.std.specs.Prelude.{◌≢◌, length, get_or, set, Option, Some, None}
use Rattle.std.proofs.Math.Logic.{inr, ⊎_elim}
use mathlib.Core.List.{List}
use Prim.Native.Nat.{ℕ, suc, ◌+◌, ◌-◌, ◌*◌, ◌^◌, ◌≤◌, ◌<◌}
use native.Mathlib.Omega.{arith}
use Rattle.base.specs.CaseLaws.{lt_or_ge, by_lt, if_lt_yes, if_lt_no}
use Rattle.draw_shares.specs.Program.{done}
use Rattle.draw_shares.specs.Tape.{Ran, ran, ended, run_at, after_run}
use Rattle.draw_shares.proofs.TapeLaws.{run_bind, run_ends}
use Rattle.tree_sizes.specs.Sizes.{height, candidates, half_candidates, IsCandidate}
use Rattle.tree_sizes.proofs.SizeLaws.{candidates_half, candidate_below}
use Rattle.tree_sizes.proofs.Fit.{fit, fits_pos, fits_count, fits_halves}
use Rattle.tree_rules.specs.declared.Change.{Change}
use Rattle.tree_rules.specs.Tree.{Tree, leaf, node, Balanced, Shape, IsShape}
use Rattle.tree_rules.specs.Compare.{count_after, compare}
use Rattle.tree_rules.specs.Moves.{rank_now, Leaves, Moves}
use Rattle.tree_rules.proofs.MoveLaws.{moves}
use Rattle.tree_rules.specs.Step.{CompareReady}
use Rattle.tree_rules.specs.ChangeLaws.{count_least, right_reach, right_after, right_now, left_reach, left_count, left_now}
use Rattle.tree_rules.specs.Rules.{InReach, rebuild, rebuild_halves, walk_half, walk, rank_of, at_rank, kept, reshape}
use Rattle.tree_rules.proofs.ShapeLaws.{walk_ends}
use Rattle.tree_counts.specs.declared.Part.{Part}
use Rattle.tree_counts.specs.Ranges.{Perfect}
use Rattle.tree_counts.specs.Counts.{read_tree, write_tree, Holds, shape_counts, shape_in}
use Rattle.tree_counts.specs.Confined.{Within, Confined}
use Rattle.tree_counts.specs.Rebuild.{RebuildReady, RebuiltAs}
use Rattle.tree_counts.specs.RangeLaws.{not_left, not_right, balanced_perfect}
use Rattle.tree_counts.specs.CountLaws.{holds_count, holds_set, write_left, write_right, write_over}
use Rattle.tree_counts.specs.ShapeCountLaws.{shape_counts_holds}
use Rattle.tree_counts.specs.RebuildLaws.{one_more, Bounds, bounds, halves_can, rebuild_here, above_leaves}
use Rattle.tree_visit.specs.declared.Visited.{Visited}
use Rattle.tree_visit.specs.declared.Visited.TheVariants as visited
use Rattle.tree_visit.specs.Visit.{visit_at, visit_run}
use Rattle.tree_visit.specs.VisitLaws.{visit_run_lem, stops_run, pass_stays, enters_candidate}
use Rattle.tree_walk.specs.declared.Walked.{Walked}
use Rattle.tree_walk.specs.declared.Stop.{Stop}
use Rattle.tree_walk.specs.declared.Updated.{Updated}
use Rattle.tree_walk.specs.Updated.{rebuilt_to, UpdatedAs}
use Rattle.tree_walk.specs.Walk.{CountedAt, half_of, part_of, entries_after, WalkReady, walk_run, Walking, stop_run, EntersCandidate, StopReady, Stopped}

-- ---- the run at a range above the leaves

module _ (M levels d : ℕ) (here : Change) (n b : ℕ) (l r : Tree) (tape : List ℕ) (at : ℕ) where
  pub walk_node : run_at (walk M (suc levels) d here n (node b l r)) tape at
      ≡ visit_run (rebuild M (suc levels) d (count_after here n)) (rebuild_halves M levels d (count_after here n))
      (walk_half (walk M levels (suc d)) here n b l r) tape (visit_at (compare here n (candidates M d)) (candidates M d) b tape at)
  unfolding walk
  walk_node = visit_run_lem _ _ _ tape (compare here n (candidates M d)) (candidates M d) b at

  pub left_run : rank_of here ≤ b → run_at (walk_half (walk M levels (suc d)) here n b l r) tape at
      ≡ after_run (run_at (walk M levels (d + 1) here b l) tape at) (λ l' next. ran (node (count_after here b) l' r) next)
  unfolding walk_half run_at
  left_run h = rw (if_lt_no b (rank_of here) _ _ h, add-one) (run_bind _ _ tape at)

  pub right_run : b < rank_of here → run_at (walk_half (walk M levels (suc d)) here n b l r) tape at
      ≡ after_run (run_at (walk M levels (d + 1) (at_rank here (rank_of here - b)) (n - b) r) tape at) (λ r' next. ran (node b l r') next)
  unfolding walk_half run_at
  right_run h = rw (if_lt_yes b (rank_of here) _ _ h, add-one) (run_bind _ _ tape at)

-- ---- the walk at a range

pub after_ran : {A : Type 0} (r : Ran A) → after_run r (λ a next. ran a next) ≡ r
unfolding after_run
after_ran (ran a next) = refl
after_ran ended = refl

after_plug : {A B C : Type 0} (r : Ran A) (f : A → B) (g : B → C)
    → after_run (after_run r (λ a next. ran (f a) next)) (λ b next. ran (g b) next) ≡ after_run r (λ a next. ran (g (f a)) next)
unfolding after_run
after_plug (ran a next) f g = refl
after_plug ended f g = refl

-- A range above the leaves, taken apart.
record Node (M levels d n : ℕ) (t : Tree) : Type 0 where
  b : ℕ
  l : Tree
  r : Tree
  is : t ≡ node b l r
  candidate : IsCandidate n (candidates M d) b
  left : Balanced M levels (d + 1) b l
  right : Balanced M levels (d + 1) (n - b) r

take_apart : (M levels d n : ℕ) (t : Tree) → Balanced M (suc levels) d n t → Node M levels d n t
unfolding Balanced
take_apart M levels d n leaf h = absurd h
take_apart M levels d n (node b l r) h =
    record { b = b; l = l; r = r; is = refl; candidate = h.0; left = rw add-one h.1; right = rw add-one h.2 }

pub within_here : (k d : ℕ) (here : Change) (t t' : Tree) → Within k d here t t' (record { range = k; depth = d; rank = rank_of here })
unfolding Within
within_here k d here leaf t' = refl
within_here k d here (node b l r) leaf = refl
within_here k d here (node b l r) (node b' l' r') = inl refl

module _ (k d : ℕ) (here : Change) (tree : Tree) (b : ℕ) (l r : Tree) (is : tree ≡ node b l r) (part : Part) where
  within_left : (l' : Tree) → InReach here b → Within (2 * k) (d + 1) here l l' part
      → Within k d here tree (node (count_after here b) l' r) part
  unfolding Within
  within_left l' h inside = rw is (inr (inl (h, refl, refl, rw (add-one d) at inside)))

  within_right : (r' : Tree) → b < rank_of here → Within (2 * k + 1) (d + 1) (at_rank here (rank_of here - b)) r r' part
      → Within k d here tree (node b l r') part
  unfolding Within
  within_right r' h inside = rw is (inr (inr (h, refl, refl, rw (add-one d) at inside)))

-- ---- the start

module _ {change : Change} {N M : ℕ} {counts : List ℕ} (p : WalkReady change N M counts) where
  abbrev root : Tree
  root = read_tree (height M) counts 1

  -- the shape that the counts hold
  abbrev whole : Shape
  whole = record { size = M; tree = root }

  shape_is : shape_in counts ≡ whole
  unfolding shape_in
  shape_is = rw p.size

  has_shape : IsShape N whole
  has_shape = rw shape_is at p.shape

  perfect : Perfect (height M) root
  perfect = balanced_perfect M (height M) 0 N root has_shape.balanced

  counts_are : counts ≡ shape_counts (length counts) N whole
  counts_are = rw shape_is at p.held

  pub walking_start : (tape : List ℕ) (at : ℕ) → Walking change N M counts tape at counts (height M) 0 1 N change at
  unfolding walk_run
  walking_start tape at = record {
    tree = root;
    plug = λ t. t;
    run = sym (after_ran (run_at (walk M (height M) 0 change N root) tape at));
    written = λ t. refl;
    within = λ t part w. w;
    reach = p.reach;
    holds =
        subst (λ (c : List ℕ). Holds c 1 N root) (sym counts_are)
        (shape_counts_holds (height M) (length counts) N whole perfect (omega (arith, p.can.inside)));
    balanced = has_shape.balanced;
    fits = fit N M has_shape.allowed;
    can = p.can;
    positive = omega arith;
    kept = refl;
  }

-- ---- a range that the walk comes to

module _ {change : Change} {N M : ℕ} {counts₀ tape : List ℕ} {start : ℕ} {counts : List ℕ} {at : ℕ} (here : Walked)
    (w : Walking change N M counts₀ tape start counts here.range.levels here.range.depth here.range.k here.range.n here.change at) where
  stopped_at : (v : Visited)
      → run_at (walk M here.range.levels here.range.depth here.change here.range.n w.tree) tape at
      ≡ stop_run M tape (record { here = here; visited = v })
      → EntersCandidate M (record { here = here; visited = v })
      → Stopped change N M counts₀ tape start (record { here = here; visited = v }) counts
  stopped_at v e enters = record {
    plug = w.plug;
    run = w.run ∙ rw e;
    written = w.written;
    within = λ t. w.within t _ (within_here here.range.k here.range.depth here.change w.tree t);
    ready = record { reach = w.reach; can = w.can; enters = enters };
  }

-- The values that the code has at a range: the number of candidates, the balance rank, and what the visit gives.
pub record Seen (M : ℕ) (tape counts : List ℕ) (d k n : ℕ) (here : Change) (at c b : ℕ) (v : Option Visited) : Type 0 where
  pub count_is : c ≡ candidates M d
  pub balance_is : b ≡ get_or counts (2 * k) 0
  pub visit_is : v ≡ visit_at (compare here n c) c b tape at

module _ {change : Change} {N M : ℕ} {counts₀ tape : List ℕ} {start : ℕ} {counts : List ℕ} {levels d k n : ℕ} {here : Change} {at : ℕ}
    (w : Walking change N M counts₀ tape start counts (suc levels) d k n here at) where
  -- what is asked of the comparison
  pub comparable : CompareReady here n (candidates M d)
  comparable = record {
    some = fits_pos M levels d n w.fits;
    before = fits_count M levels d n w.fits;
    after = fits_count M levels d (count_after here n) w.can.fits;
    most = omega (arith, w.can.few, count_least here n);
  }

  moved : Moves here n (candidates M d) (compare here n (candidates M d))
  moved = moves here n (candidates M d) comparable.some comparable.before comparable.after

  at_node : Node M levels d n w.tree
  at_node = take_apart M levels d n w.tree w.balanced

  node_holds : Holds counts k n (node at_node.b at_node.l at_node.r)
  node_holds = rw at_node.is at w.holds

  left_holds : Holds counts (2 * k) at_node.b at_node.l
  unfolding Holds
  left_holds = node_holds.1

  right_holds : Holds counts (2 * k + 1) (n - at_node.b) at_node.r
  unfolding Holds
  right_holds = node_holds.2

  pub node_bounds : Bounds M d k (length counts)
  node_bounds = bounds w.can

  balance : get_or counts (2 * k) 0 ≡ at_node.b
  balance = holds_count counts (2 * k) at_node.b at_node.l left_holds

  pub balance_below : get_or counts (2 * k) 0 < n
  balance_below = rw balance (candidate_below n (candidates M d) at_node.b comparable.before at_node.candidate)

  module _ {c b : ℕ} {v : Option Visited} (s : Seen M tape counts d k n here at c b v) where
    seen : visit_at (compare here n (candidates M d)) (candidates M d) at_node.b tape at ≡ v
    seen = rw (← balance, ← s.balance_is, ← s.count_is) (sym s.visit_is)

    node_run : run_at (walk M (suc levels) d here n w.tree) tape at
        ≡ visit_run (rebuild M (suc levels) d (count_after here n)) (rebuild_halves M levels d (count_after here n))
        (walk_half (walk M levels (suc d)) here n at_node.b at_node.l at_node.r) tape v
    node_run =
        ap (λ (t : Tree). run_at (walk M (suc levels) d here n t) tape at) at_node.is
        ∙ walk_node M levels d here n at_node.b at_node.l at_node.r tape at
        ∙ ap (visit_run _ _ _ tape) seen

    -- the walk does not pass
    node_stop : (u : Visited) → v ≡ Some u → ((next : ℕ) → u ≢ visited.Pass next)
        → Stopped change N M counts₀ tape start
        (record { here = record { range = record { k = k; depth = d; levels = suc levels; n = n }; change = here }; visited = u }) counts
    unfolding stop_run
    node_stop u is stops =
        let lower : suc levels - 1 ≡ levels = omega arith in
        stopped_at _ w u
        (rw lower (node_run ∙ rw is (stops_run _ _ _ tape (done leaf) (Some u) (λ next same. stops next cc))))
        (λ into next e. (
          omega arith,
          enters_candidate here n (candidates M d) at_node.b tape at into next (compare here n (candidates M d)) moved.inside
              (seen ∙ is ∙ ap Some e),
        ))

    -- the tape ends here
    node_ended : v ≡ None → walk_run change N M counts₀ tape start ≡ ended
    unfolding visit_run after_run
    node_ended is = w.run ∙ rw (node_run, is)

    module _ (next : ℕ) (e : v ≡ Some (visited.Pass next)) where
      stays : ¬ Leaves (compare here n (candidates M d)) at_node.b
      stays = pass_stays (compare here n (candidates M d)) (candidates M d) at_node.b tape at next (seen ∙ e)

      still : IsCandidate (count_after here n) (candidates M d) (rank_now here at_node.b)
      still = moved.within at_node.b at_node.candidate stays

      onward_run : walk_run change N M counts₀ tape start
          ≡ after_run (run_at (walk_half (walk M levels (suc d)) here n at_node.b at_node.l at_node.r) tape next) (λ t i. ran (w.plug t) i)
      unfolding visit_run
      onward_run = w.run ∙ rw (node_run, e)

      balance_most : at_node.b ≤ n
      balance_most = omega (arith, candidate_below n (candidates M d) at_node.b comparable.before at_node.candidate)

      left_walking : rank_of here ≤ at_node.b
          → Walking change N M counts₀ tape start (set counts k (count_after here n)) levels (d + 1) (2 * k) at_node.b here next
      left_walking h =
          let reach = left_reach here at_node.b h (moved.stays at_node.b at_node.candidate stays) in
          record {
            tree = at_node.l;
            plug = λ t. w.plug (node (count_after here at_node.b) t at_node.r);
            run =
                onward_run
                ∙ rw (left_run M levels d here n at_node.b at_node.l at_node.r tape next h)
                (after_plug (run_at (walk M levels (d + 1) here at_node.b at_node.l) tape next) _ w.plug);
            written = λ t.
                w.written (node (count_after here at_node.b) t at_node.r)
                ∙ write_left counts k n at_node.b at_node.l at_node.r w.positive (count_after here n) (count_after here at_node.b) t
                (left_count here n at_node.b balance_most reach) right_holds;
            within = λ t part inside.
                w.within (node (count_after here at_node.b) t at_node.r) part
                (within_left k d here w.tree at_node.b at_node.l at_node.r at_node.is part t reach inside);
            reach = reach;
            holds = holds_set at_node.l counts (2 * k) at_node.b k (count_after here n) (not_left k w.positive) left_holds;
            balanced = at_node.left;
            fits = rw add-one (fits_halves M levels d n w.fits at_node.b at_node.candidate).0;
            can =
                rw (length-set counts k (count_after here n))
                (halves_can w.can (count_after here at_node.b)
                (rw (left_now here at_node.b h) at still)).0;
            positive = omega (arith, w.positive);
            kept = length-set counts k (count_after here n) ∙ w.kept;
          }

      right_walking : at_node.b < rank_of here
          → Walking change N M counts₀ tape start (set counts k (count_after here n)) levels (d + 1) (2 * k + 1) (n - at_node.b)
          (at_rank here (rank_of here - at_node.b)) next
      right_walking h =
          let rest = right_after here n at_node.b h w.reach in
          record {
            tree = at_node.r;
            plug = λ t. w.plug (node at_node.b at_node.l t);
            run =
                onward_run
                ∙ rw (right_run M levels d here n at_node.b at_node.l at_node.r tape next h)
                (after_plug (run_at (walk M levels (d + 1) (at_rank here (rank_of here - at_node.b)) (n - at_node.b) at_node.r) tape next) _ w.plug);
            written = λ t.
                w.written (node at_node.b at_node.l t)
                ∙ write_right counts k n at_node.b at_node.l at_node.r w.positive (count_after here n) t left_holds
                ∙ rw (← rest);
            within = λ t part inside.
                w.within (node at_node.b at_node.l t) part
                (within_right k d here w.tree at_node.b at_node.l at_node.r at_node.is part t h inside);
            reach = right_reach here n at_node.b h w.reach;
            holds = holds_set at_node.r counts (2 * k + 1) (n - at_node.b) k (count_after here n) (not_right k w.positive) right_holds;
            balanced = at_node.right;
            fits = rw add-one (fits_halves M levels d n w.fits at_node.b at_node.candidate).1;
            can =
                rw (length-set counts k (count_after here n), rest)
                (halves_can w.can at_node.b (rw (right_now here at_node.b h) at still)).1;
            positive = omega arith;
            kept = length-set counts k (count_after here n) ∙ w.kept;
          }

      balance_seen : b ≡ at_node.b
      balance_seen = s.balance_is ∙ balance

      pass_left : rank_of here ≤ b
          → Walking change N M counts₀ tape start (set counts k (count_after here n)) levels (d + 1) (2 * k) b here next
      pass_left h = rw balance_seen (left_walking (rw balance_seen at h))

      pass_right : b < rank_of here
          → Walking change N M counts₀ tape start (set counts k (count_after here n)) levels (d + 1) (2 * k + 1) (n - b)
          (at_rank here (rank_of here - b)) next
      pass_right h = rw balance_seen (right_walking (rw balance_seen at h))

-- ---- the same in the code's range

above_range : (here : Walked) → here.range.levels ≢ 0
    → here ≡ record { range = record { k = here.range.k; depth = here.range.depth; levels = suc (here.range.levels - 1); n = here.range.n }; change = here.change }
above_range here above =
    ap (λ (x : ℕ). record { range = record { k = here.range.k; depth = here.range.depth; levels = x; n = here.range.n }; change = here.change })
    (one_more here.range.levels above)

module _ {change : Change} {N M : ℕ} {counts₀ tape : List ℕ} {start : ℕ} {counts : List ℕ} {at : ℕ} (here : Walked)
    (w : Walking change N M counts₀ tape start counts here.range.levels here.range.depth here.range.k here.range.n here.change at) where
  pub entries_most : here.range.n < 2 ^ 62
  entries_most = omega (arith, w.can.few, count_least here.change here.range.n)

  pub stop_leaf : here.range.levels ≡ 0
      → Stopped change N M counts₀ tape start (record { here = here; visited = visited.Pass at }) counts
  unfolding stop_run visit_run walk run_at
  stop_leaf leaves =
      stopped_at here w (visited.Pass at) (rw leaves) (λ into next e. let z : ◌≡◌ {A = ℕ} 0 1 = cc in absurd (omega arith))

  module _ (above : here.range.levels ≢ 0) where
    pub above_walking :
        Walking change N M counts₀ tape start counts (suc (here.range.levels - 1)) here.range.depth here.range.k here.range.n here.change at
    above_walking =
        subst (λ (x : ℕ). Walking change N M counts₀ tape start counts x here.range.depth here.range.k here.range.n here.change at)
        (one_more here.range.levels above) w

    module _ {c b : ℕ} {v : Option Visited} (s : Seen M tape counts here.range.depth here.range.k here.range.n here.change at c b v) where
      pub stop_visit : (u : Visited) → v ≡ Some u → ((next : ℕ) → u ≢ visited.Pass next)
          → Stopped change N M counts₀ tape start (record { here = here; visited = u }) counts
      stop_visit u is stops =
          subst (λ (r : Walked). Stopped change N M counts₀ tape start (record { here = r; visited = u }) counts)
          (sym (above_range here above)) (node_stop above_walking s u is stops)

      pub end_visit : v ≡ None → walk_run change N M counts₀ tape start ≡ ended
      end_visit is = node_ended above_walking s is

      pub pass : (next after : ℕ) (half : Walked) → v ≡ Some (visited.Pass next) → after ≡ entries_after here → half ≡ half_of here b
          → Walking change N M counts₀ tape start (set counts here.range.k after) half.range.levels half.range.depth half.range.k half.range.n
          half.change next
      unfolding half_of
      pass next after half e ea eh =
          ⊎_elim
          (λ (h : b < rank_of here.change).
          rw (ea, eh, if_lt_yes b (rank_of here.change) _ _ h) (pass_right above_walking s next e h))
          (λ (h : rank_of here.change ≤ b).
          rw (ea, eh, if_lt_no b (rank_of here.change) _ _ h) (pass_left above_walking s next e h))
          (lt_or_ge b (rank_of here.change))

-- ---- the end of the walk

module _ {change : Change} {N M : ℕ} {counts₀ : List ℕ} (p : WalkReady change N M counts₀) (tape : List ℕ) (start : ℕ) where
  -- the walk ends with a tree that reaches down to the leaves
  ends_perfect : (t : Tree) (next : ℕ) → walk_run change N M counts₀ tape start ≡ ran t next → Perfect (height M) t
  unfolding walk_run
  ends_perfect t next e =
      balanced_perfect M (height M) 0 (count_after change N) t
      (run_ends (Balanced M (height M) 0 (count_after change N)) (walk M (height M) 0 change N (root p)) tape start t next
      (walk_ends M (height M) 0 change N (root p) p.reach (fit N M (has_shape p).allowed) p.can.fits (has_shape p).balanced) e)

  walk_run_lem : run_at (reshape change N (whole p) kept) tape start
      ≡ after_run (walk_run change N M counts₀ tape start) (λ t next. ran (record { size = M; tree = t }) next)
  unfolding reshape walk_run run_at
  walk_run_lem = run_bind (walk M (height M) 0 change N (root p)) (λ t. done (record { size = M; tree = t })) tape start

  pub walk_ended : (counts' : List ℕ) → walk_run change N M counts₀ tape start ≡ ended
      → UpdatedAs change N (shape_in counts₀) (run_at (reshape change N (shape_in counts₀) kept) tape start) None (length counts₀) counts'
  unfolding UpdatedAs after_run
  walk_ended counts' e = rw (shape_is p, walk_run_lem, e) refl

module _ {change : Change} {N M : ℕ} {counts₀ tape : List ℕ} {start : ℕ} {stop : Stop} {counts : List ℕ} (p : WalkReady change N M counts₀)
    (w : Stopped change N M counts₀ tape start stop counts) where
  finished : (rest : Ran Tree) (rebuilt : Option ℕ) (counts' : List ℕ)
      → walk_run change N M counts₀ tape start ≡ after_run rest (λ t next. ran (w.plug t) next)
      → RebuiltAs rest rebuilt stop.here.range.k (entries_after stop.here) counts counts'
      → UpdatedAs change N (whole p) (run_at (reshape change N (whole p) kept) tape start) (rebuilt_to M (part_of stop.here) rebuilt)
      (length counts₀) counts'
  unfolding RebuiltAs UpdatedAs rebuilt_to after_run Confined shape_counts
  finished (ran t next) rebuilt counts' e h = rw (walk_run_lem p tape start, e) (
    part_of stop.here,
    ap (rebuilt_to M (part_of stop.here)) h.0,
    h.1
        ∙ sym (w.written t)
        ∙ ap (λ (c : List ℕ). write_tree c 1 (count_after change N) (w.plug t)) (counts_are p)
        ∙ write_over (height M) (root p) (w.plug t) _ 1 N (count_after change N) (omega arith) (perfect p)
        (ends_perfect p tape start (w.plug t) next e),
    inr (refl, w.within t),
  )
  finished ended rebuilt counts' e h = rw (walk_run_lem p tape start, e) (ap (rebuilt_to M (part_of stop.here)) h)

  pub walk_updated : (part : Part) (rebuilt : Option ℕ) (result : Option Updated) (counts' : List ℕ) → part ≡ part_of stop.here
      → RebuiltAs (stop_run M tape stop) rebuilt stop.here.range.k (entries_after stop.here) counts counts'
      → result ≡ rebuilt_to M part rebuilt
      → UpdatedAs change N (shape_in counts₀) (run_at (reshape change N (shape_in counts₀) kept) tape start) result (length counts₀) counts'
  walk_updated part rebuilt result counts' ep h er = rw (er, ep, shape_is p) (finished (stop_run M tape stop) rebuilt counts' w.run h)

-- ---- the range where the walk stopped

module _ {M : ℕ} {stop : Stop} {room : ℕ} (w : StopReady M stop room) where
  pub stop_most : stop.here.range.n < 2 ^ 62
  stop_most = omega (arith, w.can.few, count_least stop.here.change stop.here.range.n)

  pub stop_here : stop.here.range.k < room
  stop_here = rebuild_here w.can

  pub enter_ready : (into next : ℕ) → stop.visited ≡ visited.Enter into next
      → RebuildReady M (suc (stop.here.range.levels - 1)) stop.here.range.depth stop.here.range.k (entries_after stop.here) room
      × IsCandidate (entries_after stop.here) (candidates M stop.here.range.depth) into
  enter_ready into next e =
      let enters = w.enters into next e in (above_leaves (λ z. omega (arith, enters.0)) w.can, enters.1)

-- ---- the half of a range

module _ (here : Walked) (b rank : ℕ) (er : rank ≡ rank_of here.change) where
  pub half_right : (below : Change) → b < rank → below ≡ at_rank here.change (rank - b)
      → record { range = record { k = 2 * here.range.k + 1; depth = here.range.depth + 1; levels = here.range.levels - 1; n = here.range.n - b }; change = below } ≡ half_of here b
  unfolding half_of
  half_right below h e = rw (e, er) (sym (if_lt_yes b (rank_of here.change) _ _ (rw er at h)))

  pub half_left : rank ≤ b
      → record { range = record { k = 2 * here.range.k; depth = here.range.depth + 1; levels = here.range.levels - 1; n = b }; change = here.change } ≡ half_of here b
  unfolding half_of
  half_left h = sym (if_lt_no b (rank_of here.change) _ _ (rw er at h))

pub half_lower : (here half : Walked) (b : ℕ) → here.range.levels ≢ 0 → half ≡ half_of here b → half.range.levels < here.range.levels
unfolding half_of
half_lower here half b above e =
    rw e (by_lt (λ (r : Walked). r.range.levels < here.range.levels) b (rank_of here.change) _ _ (λ h. omega arith) (λ h. omega arith))

half_deeper : (here half : Walked) (b : ℕ) → half ≡ half_of here b → half.range.depth ≡ suc here.range.depth
unfolding half_of
half_deeper here half b e =
    rw e (by_lt (λ (r : Walked). r.range.depth ≡ suc here.range.depth) b (rank_of here.change) _ _ (λ h. omega arith) (λ h. omega arith))

-- The half where the walk goes on has half as many candidates.
pub half_counted : (M : ℕ) (here half : Walked) (b c : ℕ) {c' : ℕ} → half ≡ half_of here b → c' ≡ half_candidates c → CountedAt M here.range.depth c
    → CountedAt M half.range.depth c'
half_counted M here half b c e h counted large =
    h ∙ ap half_candidates (counted large) ∙ sym (candidates_half M here.range.depth) ∙ sym (ap (candidates M) (half_deeper here half b e))
