-- What is asked before a sheet of a list is laid out. Definitions only.
use Rattle.std.specs.Prelude.{ℕ, ◌≤◌, ◌<◌}
use Rattle.tree_sizes.specs.Sizes as sizes
use Rattle.tree_shapes.specs.Words.{ShapeReady}

-- Shape k of N entries with the size parameter M is there, `counts` counts and `slots` slots have room for it, and the list is longer than its
-- entries.
pub record LayReady (M N k counts slots list : ℕ) : Type 0 where
  pub shape : ShapeReady M N k counts
  pub slots_room : sizes.slots M ≤ slots
  pub list_room : N < list
