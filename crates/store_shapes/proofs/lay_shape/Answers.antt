-- `lay_shape` meets its contract.
use mathlib.Core.Path.{refl, ◌∙◌}
use Rattle.store_shapes.specs.LayLaws.{height_fits, lay_ready, laid}
use Rattle.store_shapes.proofs.lay_shape.Goals as goal

pub power-leaves-requires : goal.power-leaves-requires
power-leaves-requires c =
    record { fits = rw c.height.ensures (height_fits c.requires.ready) }

pub lay_leaves-requires : goal.lay_leaves-requires
lay_leaves-requires c =
    let both = lay_ready c.requires.ready c.put_shape.ensures c.leaf_slots.ensures c.height.ensures c.power-leaves.ensures _ _ refl refl in record { ready = both.0; room = both.1 }

pub returns : goal.returns
returns c =
    record {
      slots = c.lay_leaves.ensures
          ∙ laid c.requires.ready c.put_shape.ensures c.leaf_slots.ensures c.height.ensures c.power-leaves.ensures _ _ refl c.requires.zeros;
      counts = c.put_shape.ensures;
    }
