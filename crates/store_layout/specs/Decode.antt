-- The list and the shape of a sheet, read back from the store. Definitions only.
use Rattle.std.specs.Prelude.{Bool, true, false, ◌&&◌, List, ℕ, zero, suc, ◌+◌, ◌-◌, ◌*◌, leb, ltb, length, get_or}
use Rattle.std.proofs.Math.Option.{Option, some, none}
use Rattle.base.specs.Lists.{equal_lists}
use Rattle.tree_sizes.specs.Sizes.{height, candidates, window_start}
use Rattle.tree_rules.specs.Tree.{Tree, leaf, node, Shape}
use Rattle.tree_counts.specs.Counts.{shape_in}
use Rattle.store_layout.specs.Leaf.{nonzero}
use Rattle.store_order.specs.CountOrder.{number_order}
use Rattle.store_layout.specs.declared.Capacity.{Capacity}
use Rattle.store_layout.specs.Layout.{Store, lay_out}

-- The counts of a store by range number.
unfoldable pub numbered : Store → List ℕ
numbered store = number_order (height (get_or store.counts 0 0)) store.counts

-- The list and the shape that a store can only have.
unfoldable pub list_of : Store → List ℕ
list_of store = nonzero store.slots

unfoldable pub shape_of : Store → Shape
shape_of store = shape_in (numbered store)

-- The tests whether a list and a shape are contents, and whether a store is a sheet.
unfoldable pub balanced_test : ℕ → ℕ → ℕ → ℕ → Tree → Bool
balanced_test M zero d n leaf = true
balanced_test M zero d n (node b l r) = false
balanced_test M (suc levels) d n leaf = false
balanced_test M (suc levels) d n (node b l r) =
    leb (window_start n (candidates M d)) b
    && ltb b (window_start n (candidates M d) + candidates M d)
    && balanced_test M levels (suc d) b l
    && balanced_test M levels (suc d) (n - b) r

unfoldable pub shape_test : ℕ → Shape → Bool
shape_test N s = leb N s.size && leb s.size (2 * N - 1) && balanced_test s.size (height s.size) 0 N s.tree

-- The list, of so many entries at most, and the shape are contents, and lay the store out.
unfoldable pub laid_test : (List ℕ → Shape → Store) → ℕ → List ℕ → Shape → Store → Bool
laid_test lay entries list s store =
    leb (length list) entries
    && shape_test (length list) s
    && equal_lists store.slots (lay list s).slots
    && equal_lists store.counts (lay list s).counts

unfoldable pub sheet_test : Capacity → Store → Bool
sheet_test cap store = laid_test (lay_out cap) cap.entries (list_of store) (shape_of store) store

-- The list and shape that lay the store out, if it is a sheet.
pub record Contents : Type 0 where
  pub list : List ℕ
  pub shape : Shape

unfoldable pub decode : Capacity → Store → Option Contents
decode cap store = elim (sheet_test cap store) [ true ↦ some (record { list = list_of store; shape = shape_of store }) | false ↦ none ]
