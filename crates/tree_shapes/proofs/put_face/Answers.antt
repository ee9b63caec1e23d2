-- `put_face` meets its contract.
use Rattle.tree_shapes.specs.WordsLaws.{face_none, face_one}
use Rattle.tree_shapes.proofs.put_face.Goals as goal

pub returns-then-c-eq1 : goal.returns-then-c-eq1
returns-then-c-eq1 c = face_none _ _ _ _ c.if-c-eq1.true

pub returns : goal.returns
returns c = face_one _ _ _ _ c.if-c-eq1.false
