-- Sheets as they were before F-5: the counts stand in the order of the range numbers. Definitions only.
use Rattle.std.specs.Prelude.{Bool, true, false, List, ℕ, length}
use Rattle.std.proofs.Math.Option.{Option, some, none}
use Rattle.tree_rules.specs.Tree.{Shape}
use Rattle.tree_counts.specs.Counts.{shape_counts, shape_in}
use Rattle.store_layout.specs.declared.Capacity.{Capacity}
use Rattle.store_layout.specs.Layout.{Store, lay_slots}
use Rattle.store_layout.specs.Decode.{list_of, laid_test, Contents}
use Rattle.call_outcomes.specs.Kind.{View, Kind}
use Rattle.call_outcomes.specs.PlainCalls.{plain_calls}
use Rattle.call_outcomes.specs.Untallied.{view_of}

-- The sheet of a list with a shape.
unfoldable pub lay_numbered : Capacity → List ℕ → Shape → Store
lay_numbered cap list s = record { slots = lay_slots cap.slots list s; counts = shape_counts cap.counts (length list) s }

-- The list and shape that lay the store out, if it is such a sheet.
unfoldable pub numbered_test : Capacity → Store → Bool
numbered_test cap store = laid_test (lay_numbered cap) cap.entries (list_of store) (shape_in store.counts) store

unfoldable pub decode_numbered : Capacity → Store → Option Contents
decode_numbered cap store = elim (numbered_test cap store) [ true ↦ some (record { list = list_of store; shape = shape_in store.counts }) | false ↦ none ]

abbrev pub numbered_view : Capacity → View
numbered_view cap = view_of cap (lay_numbered cap) (decode_numbered cap)

-- The calls on such sheets.
abbrev pub in_number_order : Capacity → Kind
in_number_order cap = record { view = numbered_view cap; calls = plain_calls cap.entries }
