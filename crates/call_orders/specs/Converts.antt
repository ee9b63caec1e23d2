-- When a conversion of stores leads from one view to another, and the outcome of a call converted. Definitions only.
use Rattle.std.specs.Prelude.{true, List, [], ◌≡◌, ℕ, length}
use Rattle.tree_rules.specs.Tree.{Shape, IsShape}
use Rattle.store_layout.specs.Decode.{Contents}
use Rattle.call_outcomes.specs.Kind.{holds, View}
use Rattle.call_outcomes.specs.Outcome.{Outcome}

-- What a store holds is a list and a shape of it. The lengths are as right as they were, a store of the right lengths holds what it held, and
-- the sheet of a list with a shape becomes the other view's sheet of this list with this shape.
pub record Converts (from to : View) (convert : from.Store → to.Store) : Type 0 where
  pub no_entry : from.IsList []
  pub sound : (store : from.Store) (c : Contents) → from.decode store ≡ holds c → from.IsList c.list × IsShape (length c.list) c.shape
  pub lengths : (store : from.Store) → to.right_lengths (convert store) ≡ from.right_lengths store
  pub holds_same : (store : from.Store) → from.right_lengths store ≡ true → to.decode (convert store) ≡ from.decode store
  pub laid : (list : List ℕ) (s : Shape) → from.IsList list → IsShape (length list) s → convert (from.lay list s) ≡ to.lay list s

-- The same answer and output, and the store converted.
unfoldable pub converted : {S T : Type 0} → (S → T) → Outcome S → Outcome T
converted convert o = record { answer = o.answer; store = convert o.store; output = o.output }
