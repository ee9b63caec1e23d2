-- Insert and delete keep the canonical distribution: from the canonical shapes of N entries they lead to those of N + 1 or N - 1.
use Rattle.std.specs.Prelude.{ℕ}
use Rattle.draw_shares.specs.Program.{done, ◌>>=◌}
use Rattle.draw_shares.specs.ProgramLaws.{done_bind, bind_bind}
use Rattle.draw_shares.specs.Same.{◌≈◌}
use Rattle.draw_shares.specs.SameLaws.{≈_sym, ≈_trans, ≈_path, bind_cong_left, bind_cong_right, bind_cong_ends, bind_swap, bind_const}
use Rattle.tree_sizes.specs.Sizes.{Allowed, height}
use Rattle.tree_sizes.proofs.Fit.{fit}
use Rattle.tree_rules.specs.declared.Change.{Change}
use Rattle.tree_rules.specs.Compare.{count_after}
use Rattle.tree_rules.specs.Tree.{Tree, Shape}
use Rattle.tree_rules.proofs.ShapeLaws.{step_ends}
use Rattle.tree_rules.specs.Rules.{size_after, InReach, rebuild, walk, SizeStep, kept, anew, size_step, fresh, reshape, update}
use Rattle.tree_canonical.specs.Canonical.{canonical_size, canonical, new_size}
use Rattle.tree_canonical.specs.SizeKeeps.{size_keeps}
use Rattle.tree_canonical.specs.VisitLaws.{live_rebuild}
use Rattle.tree_canonical.specs.WalkKeeps.{walk_keeps}
use Rattle.tree_canonical.specs.ShapeLaws.{canonical_size_ends}

module _ (change : Change) (N : ℕ) (reach : InReach change N) where
  -- the shape of size M with this tree
  abbrev shaped : ℕ → Tree → Shape
  shaped M t = record { size = M; tree = t }

  -- after a size step, what was rebuilt at the size before is rebuilt at the size after
  step_keeps : (M : ℕ) (step : SizeStep) → Allowed N M → Allowed (count_after change N) (size_after M step)
      → (rebuild M (height M) 0 N >>= λ t. reshape change N (shaped M t) step) ≈ fresh (size_after M step) (count_after change N)
  unfolding reshape size_after fresh
  step_keeps M kept a a' =
      ≈_trans (≈_sym (≈_path (bind_bind (rebuild M (height M) 0 N) (walk M (height M) 0 change N) (λ t. done (shaped M t)))))
      (bind_cong_left (λ t. done (shaped M t)) (walk_keeps M (height M) 0 change N reach (fit N M a) (fit (count_after change N) M a')))
  step_keeps M (anew M') a a' =
      bind_const (rebuild M (height M) 0 N) (fresh M' (count_after change N)) (live_rebuild M (height M) 0 N (fit N M a))

  -- the size step does not look at the tree
  fresh_keeps : (M : ℕ) → Allowed N M → (fresh M N >>= update change N) ≈ (new_size change N M >>= λ M'. fresh M' (count_after change N))
  unfolding fresh update new_size
  fresh_keeps M a =
      ≈_trans (≈_path (bind_bind (rebuild M (height M) 0 N) (λ t. done (shaped M t)) (update change N)))
      (≈_trans (bind_cong_right (rebuild M (height M) 0 N) (λ t. ≈_path (done_bind (shaped M t) (update change N))))
      (≈_trans (bind_swap (rebuild M (height M) 0 N) (size_step change N M) (λ t step. reshape change N (shaped M t) step))
      (≈_trans
      (bind_cong_ends (λ step. Allowed (count_after change N) (size_after M step)) (size_step change N M) (step_ends change N M reach a)
      (λ step a'. step_keeps M step a a'))
      (≈_sym
      (≈_trans (≈_path (bind_bind (size_step change N M) (λ step. done (size_after M step)) (λ M'. fresh M' (count_after change N))))
      (bind_cong_right (size_step change N M) (λ step. ≈_path (done_bind (size_after M step) (λ M'. fresh M' (count_after change N))))))))))

  pub update_keeps : (canonical N >>= update change N) ≈ canonical (count_after change N)
  unfolding canonical
  update_keeps =
      ≈_trans (≈_path (bind_bind (canonical_size N) (λ M. fresh M N) (update change N)))
      (≈_trans (bind_cong_ends (Allowed N) (canonical_size N) (canonical_size_ends N) (λ M a. fresh_keeps M a))
      (≈_trans (≈_sym (≈_path (bind_bind (canonical_size N) (new_size change N) (λ M. fresh M (count_after change N)))))
      (bind_cong_left (λ M. fresh M (count_after change N)) (size_keeps change N reach))))
