-- Laws of the whole change: what the size step and the walk ask, and what they leave.
use Rattle.std.specs.Prelude.{◌≡◌, List, ℕ, length, set, replicate, Option, Some, None}
use Rattle.std.proofs.Math.Path.{refl, ap, subst}
use Rattle.std.proofs.Common.{sym, ◌∙◌, arith}
use Rattle.std.proofs.Math.Logic.{inl}
use Rattle.draw_shares.specs.Tape.{Ran, ran, ended, run_at, after_run}
use Rattle.draw_shares.proofs.TapeLaws.{run_bind, run_ends}
use Rattle.tree_sizes.specs.Sizes.{Allowed, height}
use Rattle.tree_sizes.proofs.Fit.{fit}
use Rattle.tree_rules.specs.declared.Change.{Change}
use Rattle.tree_rules.specs.declared.Stepped.{Stepped}
use Rattle.tree_rules.specs.declared.Stepped.TheVariants as stepped
use Rattle.tree_rules.specs.Tree.{Tree}
use Rattle.tree_rules.specs.Compare.{count_after}
use Rattle.tree_rules.specs.Rules.{rebuild, rank_of, SizeStep, kept, anew, size_step, size_after, fresh, reshape, update}
use Rattle.tree_rules.specs.Step.{stepped_as}
use Rattle.tree_rules.specs.ChangeLaws.{count_most}
use Rattle.tree_rules.proofs.ShapeLaws.{step_ends}
use Rattle.tree_counts.specs.Counts.{shape_counts, shape_in}
use Rattle.tree_counts.specs.Confined.{Confined}
use Rattle.tree_counts.specs.Rebuild.{RebuildReady, RebuiltAs}
use Rattle.tree_walk.specs.declared.Updated.{Updated}
use Rattle.tree_walk.specs.Updated.{rebuilt_to, UpdatedAs}
use Rattle.tree_walk.specs.Walk.{WalkReady}
use Rattle.tree_update.specs.Update.{UpdateReady}

-- ---- the size step's answer

stepped_kept : (run : Ran SizeStep) (next : ℕ) → stepped_as run ≡ Some (stepped.Kept next) → run ≡ ran kept next
unfolding stepped_as
stepped_kept (ran kept i) next e = let d : i ≡ next = cc in rw d
stepped_kept (ran (anew M) i) next e = let z : ◌≡◌ {A = ℕ} 0 1 = cc in absurd (omega arith)
stepped_kept ended next e = let z : ◌≡◌ {A = ℕ} 0 1 = cc in absurd (omega arith)

stepped_anew : (run : Ran SizeStep) (M next : ℕ) → stepped_as run ≡ Some (stepped.Anew M next) → run ≡ ran (anew M) next
unfolding stepped_as
stepped_anew (ran kept i) M next e = let z : ◌≡◌ {A = ℕ} 0 1 = cc in absurd (omega arith)
stepped_anew (ran (anew M') i) M next e = let d : i ≡ next = cc in let d' : M' ≡ M = cc in rw (d, d')
stepped_anew ended M next e = let z : ◌≡◌ {A = ℕ} 0 1 = cc in absurd (omega arith)

stepped_ended : (run : Ran SizeStep) → stepped_as run ≡ None → run ≡ ended
unfolding stepped_as
stepped_ended (ran kept i) e = let z : ◌≡◌ {A = ℕ} 0 1 = cc in absurd (omega arith)
stepped_ended (ran (anew M) i) e = let z : ◌≡◌ {A = ℕ} 0 1 = cc in absurd (omega arith)
stepped_ended ended e = refl

-- ---- what the change asks

module _ {change : Change} {N M : ℕ} {counts : List ℕ} (ready : UpdateReady change N M counts) where
  allowed : Allowed N M
  unfolding shape_in
  allowed = rw ready.size at ready.shape.allowed

  can_fresh : (M' : ℕ) → Allowed (count_after change N) M' → RebuildReady M' (height M') 0 1 (count_after change N) (length counts)
  can_fresh M' a = record {
    fits = fit (count_after change N) M' a;
    leaves = omega arith;
    inside = ready.new_room M' a;
    few = omega (arith, ready.few, count_most change N);
    small = omega (arith, a.most, ready.few, count_most change N);
  }

  -- ---- the answer

  anew_as : (run : Ran Tree) (M' : ℕ) (result : Option ℕ) (counts' : List ℕ)
      → RebuiltAs run result 1 (count_after change N) (set (replicate (length counts) 0) 0 M') counts'
      → UpdatedAs change N (shape_in counts) (after_run run (λ t next. ran (record { size = M'; tree = t }) next))
      (rebuilt_to M' (record { range = 1; depth = 0; rank = rank_of change }) result) (length counts) counts'
  unfolding RebuiltAs UpdatedAs after_run rebuilt_to Confined shape_counts
  anew_as (ran t next) M' result counts' h = (_, ap (rebuilt_to M' _) h.0, h.1, inl refl)
  anew_as ended M' result counts' h = ap (rebuilt_to M' _) h

  -- ---- the size step

  module _ (tape : List ℕ) (answer : Option Stepped) (is : answer ≡ stepped_as (run_at (size_step change N M) tape 0)) where
    step_meets : (step : SizeStep) (next : ℕ) → run_at (size_step change N M) tape 0 ≡ ran step next → Allowed (count_after change N) (size_after M step)
    step_meets step next e =
        run_ends (λ step. Allowed (count_after change N) (size_after M step)) (size_step change N M) tape 0 step next
        (step_ends change N M ready.reach allowed) e

    update_run : run_at (update change N (shape_in counts)) tape 0
        ≡ after_run (run_at (size_step change N M) tape 0) (λ step next. run_at (reshape change N (shape_in counts) step) tape next)
    unfolding update shape_in
    update_run =
        subst
        (λ (x : ℕ). run_at (update change N (shape_in counts)) tape 0
        ≡ after_run (run_at (size_step change N x) tape 0) (λ step next. run_at (reshape change N (shape_in counts) step) tape next))
        ready.size (run_bind _ (reshape change N (shape_in counts)) tape 0)

    module _ (next : ℕ) (e : answer ≡ Some (stepped.Kept next)) where
      step_kept : run_at (size_step change N M) tape 0 ≡ ran kept next
      step_kept = stepped_kept (run_at (size_step change N M) tape 0) next (sym is ∙ e)

      pub kept_can : WalkReady change N M counts
      unfolding size_after
      kept_can = record {
        size = ready.size;
        shape = ready.shape;
        held = ready.held;
        reach = ready.reach;
        can = can_fresh M (step_meets kept next step_kept);
      }

      pub kept_run : run_at (update change N (shape_in counts)) tape 0 ≡ run_at (reshape change N (shape_in counts) kept) tape next
      unfolding after_run
      kept_run = update_run ∙ rw step_kept

    module _ (M' next : ℕ) (e : answer ≡ Some (stepped.Anew M' next)) where
      step_anew : run_at (size_step change N M) tape 0 ≡ ran (anew M') next
      step_anew = stepped_anew (run_at (size_step change N M) tape 0) M' next (sym is ∙ e)

      module _ (n : ℕ) (en : n ≡ count_after change N) where
        pub anew_can : RebuildReady M' (height M') 0 1 n (length counts)
        unfolding size_after
        anew_can = rw en (can_fresh M' (step_meets (anew M') next step_anew))

        pub anew_updated : (rank : ℕ) (rebuilt : Option ℕ) (result : Option Updated) (counts' : List ℕ) → rank ≡ rank_of change
            → RebuiltAs (run_at (rebuild M' (height M') 0 n) tape next) rebuilt 1 n (set (replicate (length counts) 0) 0 M') counts'
            → result ≡ rebuilt_to M' (record { range = 1; depth = 0; rank = rank }) rebuilt
            → UpdatedAs change N (shape_in counts) (run_at (update change N (shape_in counts)) tape 0) result (length counts) counts'
        unfolding after_run reshape fresh run_at
        anew_updated rank rebuilt result counts' er h is =
            rw (is, er, update_run, step_anew, run_bind)
            (anew_as (run_at (rebuild M' (height M') 0 (count_after change N)) tape next) M' rebuilt counts' (rw en at h))

    pub ended_updated : (counts' : List ℕ) → answer ≡ None
        → UpdatedAs change N (shape_in counts) (run_at (update change N (shape_in counts)) tape 0) None (length counts) counts'
    unfolding after_run UpdatedAs
    ended_updated counts' e = rw (update_run, stepped_ended (run_at (size_step change N M) tape 0) (sym is ∙ e)) refl
