-- A change of a rebuilt range is a rebuilt range: the walk keeps the distribution of the trees.
use Rattle.std.specs.Prelude.{refl, ℕ, zero, suc, ◌+◌, ◌-◌, ◌≤◌, ◌<◌}
use Rattle.std.proofs.Math.Logic.{⊎_elim}
use Rattle.std.proofs.Common.{arith}
use Rattle.base.specs.CaseLaws.{if_lt_yes, if_lt_no, lt_or_ge}
use Rattle.draw_shares.specs.Program.{Program, done, ◌>>=◌}
use Rattle.draw_shares.specs.Same.{◌≈◌}
use Rattle.draw_shares.specs.SameLaws.{≈_refl, ≈_trans, ≈_path, bind_cong_right, draw_cong}
use Rattle.tree_sizes.specs.Sizes.{candidates, window_start, Fits}
use Rattle.tree_sizes.proofs.SizeLaws.{candidate_face, candidate_below}
use Rattle.tree_sizes.proofs.Fit.{fits_pos, fits_count, fits_halves}
use Rattle.tree_rules.specs.declared.Change.{Change}
use Rattle.tree_rules.specs.Tree.{Tree, leaf}
use Rattle.tree_rules.specs.Compare.{count_after, compare}
use Rattle.tree_rules.specs.Moves.{rank_now, GoesOut}
use Rattle.tree_rules.proofs.MoveLaws.{moves, visit_keeps}
use Rattle.tree_rules.specs.ChangeLaws.{right_reach, right_after, right_now, left_reach, left_count, left_now}
use Rattle.tree_rules.specs.Rules.{InReach, rebuild, rebuild_halves, rank_of, at_rank, walk_half, walk}
use Rattle.tree_canonical.specs.VisitLaws.{join_cong, join_left, join_right, live_rebuild, join_visit}

-- ---- below a range whose balance entry stays

module _ (M levels d : ℕ)
    (keeps : (change : Change) (n : ℕ) → InReach change n → Fits M levels (suc d) n → Fits M levels (suc d) (count_after change n)
    → (rebuild M levels (suc d) n >>= walk M levels (suc d) change n) ≈ rebuild M levels (suc d) (count_after change n)) where
  abbrev half : ℕ → Program Tree
  half n = rebuild M levels (suc d) n

  below_keeps : (change : Change) (n b : ℕ) → InReach change n → b ≤ n → ¬ GoesOut change b
      → Fits M levels (suc d) b × Fits M levels (suc d) (n - b)
      → Fits M levels (suc d) (rank_now change b) × Fits M levels (suc d) (count_after change n - rank_now change b)
      → (half b >>= λ l. half (n - b) >>= λ r. walk_half (walk M levels (suc d)) change n b l r) ≈ rebuild_halves M levels d (count_after change n) (rank_now change b)
  unfolding rebuild_halves walk_half
  below_keeps change n b reach few stays old new =
      ⊎_elim
      (λ (h : b < rank_of change).
      let now = right_now change b h in
      let count = right_after change n b h reach in
      rw now
      (≈_trans (bind_cong_right (half b) (λ l. bind_cong_right (half (n - b)) (λ r. ≈_path (if_lt_yes b (rank_of change) _ _ h))))
      (≈_trans (join_right b (half b) (half (n - b)) (walk M levels (suc d) (at_rank change (rank_of change - b)) (n - b)))
      (join_cong b (≈_refl (half b))
      (rw count at (keeps (at_rank change (rank_of change - b)) (n - b) (right_reach change n b h reach) old.1 (rw count (rw now at new.1))))))))
      (λ (h : rank_of change ≤ b).
      let now = left_now change b h in
      let here = left_reach change b h stays in
      rw (now, left_count change n b few here)
      (≈_trans (bind_cong_right (half b) (λ l. bind_cong_right (half (n - b)) (λ r. ≈_path (if_lt_no b (rank_of change) _ _ h))))
      (≈_trans (join_left (count_after change b) (half b) (half (n - b)) (walk M levels (suc d) change b))
      (join_cong (count_after change b) (keeps change b here old.0 (rw now at new.0)) (≈_refl (half (n - b)))))))
      (lt_or_ge b (rank_of change))

-- ---- all ranges

pub walk_keeps : (M levels d : ℕ) (change : Change) (n : ℕ) → InReach change n → Fits M levels d n → Fits M levels d (count_after change n)
    → (rebuild M levels d n >>= walk M levels d change n) ≈ rebuild M levels d (count_after change n)
unfolding rebuild rebuild_halves walk ◌>>=◌
walk_keeps M zero d change n reach old new = ≈_refl (done leaf)
walk_keeps M (suc levels) d change n reach old new =
    let c = candidates M d in
    let m = moves change n c (fits_pos M levels d n old) (fits_count M levels d n old) (fits_count M levels d (count_after change n) new) in
    ≈_trans
    (draw_cong c (λ f l.
    let b = window_start n c + f in
    let halves = fits_halves M levels d n old b (candidate_face n c f l) in
    join_visit b (rebuild M levels (suc d) b) (rebuild M levels (suc d) (n - b)) (walk M (suc levels) d change n)
    (compare change n c) c (rebuild M (suc levels) d (count_after change n)) (rebuild_halves M levels d (count_after change n)) (walk_half (walk M levels (suc d)) change n b)
    (live_rebuild M levels (suc d) b halves.0) (live_rebuild M levels (suc d) (n - b) halves.1) (λ t r. refl)))
    (visit_keeps change n c (compare change n c) (rebuild_halves M levels d (count_after change n))
    (λ b. rebuild M levels (suc d) b >>= λ l. rebuild M levels (suc d) (n - b) >>= λ r. walk_half (walk M levels (suc d)) change n b l r) m
    (λ b candidate ne.
    below_keeps M levels d (λ ch k. walk_keeps M levels (suc d) ch k) change n b reach
    (omega (arith, candidate_below n c b (fits_count M levels d n old) candidate))
    (m.stays b candidate ne)
    (fits_halves M levels d n old b candidate)
    (fits_halves M levels d (count_after change n) new (rank_now change b) (m.within b candidate ne))))
