-- `store_part::lay_entries` meets its contract.
use mathlib.Core.Path.{◌∙◌}
use Rattle.store_part.specs.Plan.{part_length, part_counts}
use Rattle.store_part.specs.LayPart.{lay_entries}
use Rattle.store_part.specs.LayPartLaws.{leaves_ready, part_list_room}
use Rattle.store_part.proofs.lay_entries.Goals as goal

pub lay_leaves-requires : goal.lay_leaves-requires
lay_leaves-requires c =
    let a = c.args in record {
      ready = rw (c.part_from-from.ensures, c.leaf_slots.ensures, c.first_leaf-first.ensures, c.region_leaves-leaves.ensures)
          (leaves_ready a.size.m a.part _ _ _ c.requires);
      room = rw (c.first_leaf-first.ensures, c.region_leaves-leaves.ensures) (part_list_room c.requires);
    }

pub returns : goal.returns
unfolding lay_entries part_length part_counts
returns c =
    c.lay_leaves.ensures ∙ rw (c.part_from-from.ensures, c.leaf_slots.ensures, c.first_leaf-first.ensures, c.region_leaves-leaves.ensures)
