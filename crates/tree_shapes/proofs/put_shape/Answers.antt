-- `put_shape` meets its contract.
use mathlib.Core.Path.{refl}
use Rattle.tree_shapes.specs.RootLaws.{root_number, words_room, fresh_ready, shape_put}
use Rattle.tree_shapes.proofs.put_shape.Goals as goal

pub put_words-requires : goal.put_words-requires
put_words-requires c =
    rw (c.root_candidates-c.ensures, c.height.ensures) record { number = root_number c.requires; room = words_room c.requires }

pub fresh-requires : goal.fresh-requires
fresh-requires c = fresh_ready c.requires

pub returns : goal.returns
returns c =
    shape_put c.requires refl (rw (c.root_candidates-c.ensures, c.height.ensures) at c.put_words.ensures) _ _ c.fresh.ensures
