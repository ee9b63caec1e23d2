-- `copy_tree` meets its contract. Its measure is the number of levels. The loop's invariant: the first j subtrees are copied, and the next one
-- stands behind them.
use mathlib.Core.Path.{◌≡◌, refl, ◌∙◌}
use Prim.Native.Nat.{ℕ, ◌+◌, ◌-◌, ◌*◌, ◌/◌, ◌<◌}
use native.Mathlib.Omega.{arith}
use lib.ListN.{length}
use Rattle.store_order.specs.TreeOrder.{tree_order}
use Rattle.store_order.proofs.TreeOrderLaws.{halves}
use Rattle.store_order.proofs.PutLaws.{none_put, next_put, all_put}
use Rattle.store_order.specs.TreeReady.{TreeReady}
use Rattle.store_order.proofs.TreeReadyLaws.{range_inside, next_place, top_ready, lower_ready}
use Rattle.store_tree.proofs.+copy_tree.Goals.{Else-levels-le4, In-loop-j, Joined-lower-le4, then-lower-le4, else-lower-le4}
use Rattle.store_tree.proofs.+copy_tree.Goals as goal

-- There are more levels than four.
many : (g : _) (t : ℕ) (c : Else-levels-le4 g t) → 1 < c.args.levels
many g t c = omega (arith, c.if-levels-le4.false)

pub copy_tree-requires : goal.copy_tree-requires
copy_tree-requires g t c κs within =
    let h = halves _ (many g t (goal.at.copy_tree-requires g t c).Else-levels-le4) in
    (omega (arith, c.decreases, h.both, h.bottom), (within, top_ready c.requires (many g t (goal.at.copy_tree-requires g t c).Else-levels-le4)))

pub overflow_add-place : goal.overflow_add-place
overflow_add-place g t c = omega (arith, c.power-subtrees.ensures, (top_ready c.requires (many g t (goal.at.overflow_add-place g t c).Else-levels-le4)).places)

pub loop-j-init : goal.loop-j-init
loop-j-init g t c = (omega arith, refl, none_put (g.met.D.Direction.puts c.args.from.now) _ _ _ _)

-- The next subtree is ready.
lower : (g : _) (t : ℕ) (c : In-loop-j g t)
    → let l = c.loop-j in
    let d = g.D.Direction in
    TreeReady (c.args.levels - c.args.levels / 2) l.place (c.power-subtrees.result * c.args.k + l.j)
    (d.counts (length c.args.from.now) (length c.args.to.now)) (d.work (length c.args.from.now) (length c.args.to.now))
lower g t c =
    let first = c.power-subtrees.ensures in
    lower_ready c.requires (many g t (goal.at.In-loop-j g t c).Else-levels-le4) {j = c.loop-j.j} (omega (arith, first)) (rw (← first, ← c.power-ranges.ensures) c.loop-j.invariant.0)
    (rw (← first))

ready : (g : _) (t : ℕ) (c : In-loop-j g t)
    → let l = c.loop-j in
    let d = g.D.Direction in
    TreeReady (c.args.levels - c.args.levels / 2) l.place (c.power-subtrees.result * c.args.k + l.j)
    (d.counts (length c.args.from.now) (length l.to)) (d.work (length c.args.from.now) (length l.to))
ready g t c = rw (c.loop-j.invariant.1, c.copy_tree.auto.to) (lower g t c)

pub overflow_mul-range : goal.overflow_mul-range
overflow_mul-range g t c = omega (arith, range_inside (lower g t c))

pub overflow_add-range : goal.overflow_add-range
overflow_add-range g t c = omega (arith, range_inside (lower g t c))

pub copy_small-requires-then-lower-le4 : goal.copy_small-requires-then-lower-le4
copy_small-requires-then-lower-le4 g t c =
    record { tree = ready g t (goal.at.copy_small-requires-then-lower-le4 g t c).In-loop-j; small = c.if-lower-le4.true }

pub copy_tree-requires-else-lower-le4 : goal.copy_tree-requires-else-lower-le4
copy_tree-requires-else-lower-le4 g t c κs within =
    let h = halves _ (many g t (goal.at.copy_tree-requires-else-lower-le4 g t c).Else-levels-le4) in
    (omega (arith, c.decreases, h.both, h.top), (within, ready g t (goal.at.copy_tree-requires-else-lower-le4 g t c).In-loop-j))

-- It is copied, by either call.
subtree : (g : _) (t : ℕ) (c : Joined-lower-le4 g t)
    → let l = c.loop-j in
    (c.if-lower-le4.to ≡ g.D.Direction.put l.place (tree_order (c.args.levels - c.args.levels / 2) (c.power-subtrees.result * c.args.k + l.j)) c.args.from.now l.to)
    × (length c.if-lower-le4.to ≡ length l.to)
subtree g t c =
    elim c.if-lower-le4.branch [
      | then-lower-le4 w ↦ (w.to-is ∙ w.copy_small-then-lower-le4.ensures.copied, rw w.to-is w.copy_small-then-lower-le4.auto.to)
      | else-lower-le4 w ↦ (w.to-is ∙ w.copy_tree-else-lower-le4.ensures.copied, rw w.to-is w.copy_tree-else-lower-le4.auto.to)
    ]

pub overflow_add-place-in-loop-j : goal.overflow_add-place-in-loop-j
overflow_add-place-in-loop-j g t c = omega (arith, c.power-ranges.ensures, (lower g t (goal.at.overflow_add-place-in-loop-j g t c).In-loop-j).places)

pub loop-j-preserved : goal.loop-j-preserved
loop-j-preserved g t c =
    let inv = c.loop-j.invariant in (
      next_place _ _ _ _ inv.0,
      (subtree g t c).1 ∙ inv.1,
      next_put (g.met.D.Direction.puts c.args.from.now) _ _ _ _ _ (halves _ (many g t (goal.at.loop-j-preserved g t c).Else-levels-le4)).bottom (rw (← c.power-ranges.ensures) inv.0) refl inv.2 (subtree g t c).0,
    )

pub returns : goal.returns
returns g t c =
    let first = c.power-subtrees.ensures in
    let inv = c.loop-j.invariant in
    record {
      few = c.copy_tree.ensures.few;
      copied =
          all_put (g.met.D.Direction.puts c.args.from.now) c.args.levels c.args.at c.args.k c.args.to.now (many g t (goal.at.returns g t c).Else-levels-le4)
          (rw (← first)) (rw (← first)) (omega (arith, first)) c.copy_tree.ensures.copied inv.2;
    }
