-- Every sheet that a list can have, in any view, in the order of the shapes of its entries (document 02, F-12). Definitions only.
use Rattle.std.specs.Prelude.{List, map, ℕ, length}
use Rattle.tree_canonical.specs.ShapeShare.{shape_product}
use Rattle.tree_shapes.specs.Shapes.{shapes}
use Rattle.call_outcomes.specs.Kind.{View}

-- The sheets of a list.
unfoldable pub sheets : (view : View) → List ℕ → List view.Store
sheets view list = map (view.lay list) (shapes (length list))

-- The whole numbers that their shares are 1 over, in the same order.
unfoldable pub whole_numbers : List ℕ → List ℕ
whole_numbers list = map (shape_product (length list)) (shapes (length list))
