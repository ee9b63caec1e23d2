-- What a sheet is. Definitions only.
use Rattle.std.specs.Prelude.{◌≡◌, List, ℕ, ◌≤◌, ◌<◌, length}
use Rattle.base.specs.Lists.{Every}
use Rattle.tree_rules.specs.Tree.{Shape, IsShape}
use Rattle.store_layout.specs.declared.Capacity.{Capacity}
use Rattle.store_layout.specs.Layout.{Store, lay_out}

-- The list and the shape can be the contents of a sheet of this capacity: an entry is other than zero, and has 64 bits as slots have.
pub record IsContents (cap : Capacity) (list : List ℕ) (s : Shape) : Type 0 where
  pub room : length list ≤ cap.entries
  pub entries : Every (λ e. 0 < e) list
  pub shape : IsShape (length list) s

-- A store is a sheet when some list and shape lay it out.
pub record IsSheet (cap : Capacity) (store : Store) : Type 0 where
  pub list : List ℕ
  pub shape : Shape
  pub valid : IsContents cap list shape
  pub laid : store ≡ lay_out cap list shape
