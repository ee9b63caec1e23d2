-- `shape_count` meets its contract.
use mathlib.Core.Path.{◌∙◌}
use Rattle.tree_shapes.specs.RootLaws.{root_some, root_count}
use Rattle.tree_shapes.proofs.shape_count.Goals as goal

pub tree_count-requires : goal.tree_count-requires
tree_count-requires c =
    rw (c.root_candidates-c.ensures, c.height.ensures) record { some = root_some _; few = rw root_count c.requires.few }

pub returns : goal.returns
returns c =
    c.tree_count.ensures ∙ rw (c.root_candidates-c.ensures, c.height.ensures) (root_count _)
