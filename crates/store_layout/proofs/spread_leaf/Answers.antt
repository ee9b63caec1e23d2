-- `spread_leaf` meets its contract. The loop's invariant: the leaf's slots up to i are written, and its later ones are as they were (`SoFar`).
use mathlib.Core.Path.{refl, ◌∙◌}
use Rattle.store_layout.proofs.LeafLoop.{so_far_none, so_far_more, so_far_all}
use Rattle.store_layout.proofs.spread_leaf.Goals as goal

pub loop-i-init : goal.loop-i-init
loop-i-init c =
    (so_far_none c.args.leaf c.args.list.now c.requires (record { is = c.first_position.ensures }), refl)

pub loop-i-preserved : goal.loop-i-preserved
loop-i-preserved c =
    let w = c.write_slot-next in (
      so_far_more c.args.leaf c.args.list.now c.loop-i.invariant.0 c.loop-i-test.true w.ensures.0 w.ensures.1,
      w.auto.slots ∙ c.loop-i.invariant.1,
    )

pub returns : goal.returns
returns c =
    so_far_all c.args.leaf c.args.list.now c.loop-i.invariant.0 c.loop-i-test.false
