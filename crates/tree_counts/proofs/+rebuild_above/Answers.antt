-- `tree_counts::rebuild_above` meets its contract; the levels above the leaves fall from call to call.
use mathlib.Core.Path.{◌≡◌, sym, ◌∙◌}
use Prim.Native.Nat.{ℕ, suc, ◌+◌, ◌-◌, ◌^◌, ◌<◌}
use native.Mathlib.Omega.{arith}
use lib.ListN.{length, length-set}
use Rattle.draw_shares.specs.Tape.{run_at}
use Rattle.tree_rules.specs.Rules as rules
use Rattle.tree_counts.specs.Rebuild.{HalveReady, RebuildReady}
use Rattle.tree_counts.specs.RebuildLaws.{Bounds, bounds, count_fits, candidate_fits, halves_can, above_leaves, Chosen, chosen_candidate, half_count, run_chosen, draw_ended, halves_done, halves_ended, halves_leaves}
use Rattle.tree_counts.proofs.+rebuild_above.Goals.{After-rebuild_above, After-window_start, Start}
use Rattle.tree_counts.proofs.+rebuild_above.Goals as goal

-- above the leaves
above : (t : ℕ) (c : Start t) →
    let a = c.args in RebuildReady a.size.m (suc (a.here.levels - 1)) a.here.depth a.here.k a.here.n (length a.counts.now)
above t c = above_leaves c.requires.above c.requires.ready

limits : (t : ℕ) (c : Start t) →
    let a = c.args in Bounds a.size.m a.here.depth a.here.k (length a.counts.now)
limits t c = bounds (above t c)

-- once the balance entry is drawn
chosen : (t : ℕ) (c : After-window_start t) →
    let a = c.args in
    Chosen a.size.m a.here.depth a.here.n a.tape.now a.at a.c c.window_start.result c.in_ok-face.field-0.face c.in_ok-face.field-0.next
chosen t c =
    record {
      count_is = c.requires.count;
      start_is = c.window_start.ensures;
      face_is = sym c.draw.ensures ∙ c.in_ok-face.was;
    }

less : (t : ℕ) (c : After-window_start t) →
    c.window_start.result + c.in_ok-face.field-0.face < c.args.here.n
less t c = candidate_fits (above t (goal.at.After-window_start t c).Start) _ (chosen_candidate (chosen t c))

few : (t : ℕ) (c : After-window_start t) → c.args.here.n < 2 ^ 32
few t c = c.requires.ready.few

halving : (t : ℕ) (c : After-window_start t) → HalveReady c.args.here (c.window_start.result + c.in_ok-face.field-0.face)
halving t c =
    let l = limits t (goal.at.After-window_start t c).Start in
    record { above = omega (arith, c.requires.above); shallow = omega (arith, l.shallow); small = omega (arith, l.below); inside = omega (arith, less t c) }

-- the run from the face on
run : (t : ℕ) (c : After-window_start t) →
    let a = c.args in
    run_at (rules.rebuild a.size.m a.here.levels a.here.depth a.here.n) a.tape.now a.at
    ≡ run_at (rules.rebuild_halves a.size.m (a.here.levels - 1) a.here.depth a.here.n (c.window_start.result + c.in_ok-face.field-0.face))
    a.tape.now c.in_ok-face.field-0.next
run t c =
    let a = c.args in
    run_chosen a.size.m a.here.levels a.here.depth a.here.n a.tape.now a.at c.requires.above (chosen t c)

-- the length is kept
kept : (t : ℕ) (c : After-rebuild_above t) →
    length c.rebuild_above.new.counts ≡ length c.args.counts.now
kept t c =
    let a = c.args in
    c.rebuild_above.auto.counts ∙ length-set a.counts.now a.here.k a.here.n

pub window_start-requires : goal.window_start-requires
window_start-requires t c =
    record { fit = rw c.requires.count (count_fits (above t (goal.at.window_start-requires t c).Start)) }

pub overflow_add-b : goal.overflow_add-b
overflow_add-b t c = omega (arith, less t c)

pub left-left-requires : goal.left-left-requires
left-left-requires t c = halving t (goal.at.left-left-requires t c).After-window_start

pub right-right-requires : goal.right-right-requires
right-right-requires t c = halving t (goal.at.right-right-requires t c).After-window_start

-- halves that are leaves
pub overflow_cast-counts-then-left-eq0 : goal.overflow_cast-counts-then-left-eq0
overflow_cast-counts-then-left-eq0 t c =
    let at = (goal.at.overflow_cast-counts-then-left-eq0 t c).After-window_start in
    rw c.left-left.ensures (omega (arith, less t at, few t at))

pub returns-then-left-eq0 : goal.returns-then-left-eq0
returns-then-left-eq0 t c =
    let a = c.args in
    rw (run t (goal.at.returns-then-left-eq0 t c).After-window_start, c.left-left.ensures, c.right-right.ensures)
    (halves_leaves a.size.m (a.here.levels - 1) a.here.depth a.here.k a.here.n _ a.tape.now _ a.counts.now (rw c.left-left.ensures at c.if-left-eq0.true))

-- halves above the leaves
pub rebuild_above-requires : goal.rebuild_above-requires
rebuild_above-requires t c = (
  rw c.left-left.ensures (omega (arith, c.decreases, c.requires.above)),
  (
    rw c.left-left.ensures (half_count c.args.size.m c.args.here.depth c.requires.count c.half_candidates-half.ensures),
    (c.if-left-eq0.false, rw (c.left-left.ensures, length-set) (halves_can (above t (goal.at.rebuild_above-requires t c).Start) _ (chosen_candidate (chosen t (goal.at.rebuild_above-requires t c).After-window_start))).0),
  ),
)

pub rebuild_above-requires-2 : goal.rebuild_above-requires-2
rebuild_above-requires-2 t c = (
  rw c.right-right.ensures (omega (arith, c.decreases, c.requires.above)),
  (
    rw c.right-right.ensures (half_count c.args.size.m c.args.here.depth c.requires.count c.half_candidates-half.ensures),
    (rw c.right-right.ensures (rw c.left-left.ensures at c.if-left-eq0.false), rw (c.right-right.ensures, kept t (goal.at.rebuild_above-requires-2 t c).After-rebuild_above) (halves_can (above t (goal.at.rebuild_above-requires-2 t c).Start) _ (chosen_candidate (chosen t (goal.at.rebuild_above-requires-2 t c).After-window_start))).1),
  ),
)

pub returns : goal.returns
returns t c =
    let a = c.args in
    rw (run t (goal.at.returns t c).After-window_start)
    (halves_done a.size.m (a.here.levels - 1) a.here.depth a.here.k a.here.n _ a.tape.now _ a.counts.now c.rebuild_above.result
    c.rebuild_above-2.result _ _ _ (rw c.left-left.ensures at c.rebuild_above.ensures) c.in_ok-mid.was (rw c.right-right.ensures at c.rebuild_above-2.ensures))

pub returns-in_err-mid : goal.returns-in_err-mid
returns-in_err-mid t c =
    let a = c.args in
    rw (c.from_residual-in_err-mid.ensures, run t (goal.at.returns-in_err-mid t c).After-window_start)
    (halves_ended a.size.m (a.here.levels - 1) a.here.depth a.here.k a.here.n _ a.tape.now _ a.counts.now c.rebuild_above.result
    _ _ (rw c.left-left.ensures at c.rebuild_above.ensures) c.in_err-mid.was)

pub returns-in_err-face : goal.returns-in_err-face
returns-in_err-face t c =
    let a = c.args in
    rw c.from_residual.ensures
    (draw_ended a.size.m a.here.levels a.here.depth a.here.n a.tape.now a.at c.requires.above a.c a.here.k a.counts.now _
    c.requires.count (sym c.draw.ensures ∙ c.in_err-face.was))
