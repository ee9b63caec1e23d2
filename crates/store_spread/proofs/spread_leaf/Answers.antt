-- `spread_leaf` meets its contract. The loop's invariant: the leaf's slots up to i are written, and its later ones are as they were.
use mathlib.Core.Path.{refl, ◌∙◌}
use native.Mathlib.Omega.{arith}
use Rattle.store_layout.proofs.LeafLoop.{written_none, written_on, written_again, written_all}
use Rattle.store_spread.specs.SlotEntriesLaws.{ready_still}
use Rattle.store_spread.proofs.spread_leaf.Goals as goal

pub loop-i-init : goal.loop-i-init
loop-i-init c =
    let a = c.args in (written_none a.leaf a.list.now a.slots.now, refl)

pub write_slot-requires : goal.write_slot-requires
write_slot-requires c =
    record { ready = ready_still c.requires c.loop-i.invariant.1; written = written_again c.args.leaf c.args.list.now c.requires.leaf_ready (omega arith) c.loop-i.invariant.0; inside = c.loop-i-test.true }

pub loop-i-preserved : goal.loop-i-preserved
loop-i-preserved c =
    let w = c.write_slot in (
      written_on c.args.leaf c.args.list.now c.requires.leaf_ready (omega arith) (omega (arith, c.loop-i-test.true)) c.loop-i.invariant.0 w.ensures,
      w.auto.slots ∙ c.loop-i.invariant.1,
    )

pub returns : goal.returns
returns c =
    written_all c.args.leaf c.args.list.now c.args.slots.now (omega arith) c.loop-i.invariant.0
