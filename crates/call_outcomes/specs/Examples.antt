-- Outcomes of written calls on a small store.
use Rattle.std.specs.Prelude.{Ok, Err, ◌≡◌, refl, [], ◌∷◌, map}
use Rattle.base.specs.Cases.{if_eq, if_lt, if_le}
use Rattle.base.specs.Lists.{tabulate, equal_lists}
use Rattle.draw.specs.Draw.{scan, draw_from, draw_at}
use Rattle.draw_shares.specs.Program.{◌>>=◌}
use Rattle.draw_shares.specs.Tape.{run_at, after_draw}
use Rattle.tree_sizes.specs.Sizes.{doublings, digits, height, leaf_slots}
use Rattle.tree_rules.specs.Compare.{count_after}
use Rattle.tree_rules.specs.Rules.{rebuild, walk, grow, insert_size, size_step, fresh, reshape, update}
use Rattle.tree_rules.specs.ChangeList.{change_list}
use Rattle.tree_counts.specs.Counts.{write_tree, read_tree, shape_counts, shape_in}
use Rattle.store_layout.specs.Leaf.{slot_of, put_entries, spread, nonzero}
use Rattle.store_layout.specs.declared.Capacity.{Capacity}
use Rattle.store_layout.specs.Layout.{Store, leaf_counts, lay_leaves, pad_to, lay_slots, lay_counts, lay_out}
use Rattle.store_order.specs.Occurs.{index_of}
use Rattle.store_order.specs.TreeOrder.{each, order_by, tree_order}
use Rattle.store_order.specs.CountOrder.{stored, count_place, range_at, reorder, count_order, number_order}
use Rattle.store_layout.specs.Decode.{numbered, list_of, shape_of, balanced_test, shape_test, laid_test, sheet_test, decode}
use Rattle.call_outcomes.specs.declared.Cause.TheVariants.{TapeEnded}
use Rattle.call_outcomes.specs.declared.Answer.TheVariants.{Changed}
use Rattle.call_outcomes.specs.Kind.{applied}
use Rattle.call_outcomes.specs.Causes.{first_of, by_lengths, by_found, store_decision, looked_at, argument_cause, by_arguments, decision}
use Rattle.call_outcomes.specs.Outcome.{edited, effect, answer_of, entries_of, refused, finished, outcome_by, outcome}
use Rattle.call_outcomes.specs.PlainCalls.{change_cause, edit_of, insert}
use Rattle.call_outcomes.specs.Untallied.{right_lengths, found_by, untallied}

tiny : Capacity
tiny = record { entries = 3; slots = 6; counts = 4 }

one : Store
one = record { slots = 0xA ∷ 0 ∷ 0 ∷ 0 ∷ 0 ∷ 0 ∷ []; counts = 1 ∷ 1 ∷ 0 ∷ 0 ∷ [] }

-- the second insert of document 01's printed case by the leaf rule of document 02, and the same with a tape that ends
written : map (λ tape. outcome (untallied tiny) (insert 1 0xB) tape one []) ((1 ∷ []) ∷ [] ∷ [])
    ≡ record { answer = Ok (Changed 2 1); store = record { slots = 0xA ∷ 0 ∷ 0xB ∷ 0 ∷ 0 ∷ 0 ∷ []; counts = 3 ∷ 2 ∷ 0 ∷ 0 ∷ [] }; output = [] }
    ∷ record { answer = Err TapeEnded; store = one; output = [] }
    ∷ []
unfolding tiny one outcome outcome_by finished refused answer_of entries_of effect edited applied decision looked_at store_decision by_lengths by_found by_arguments argument_cause right_lengths found_by change_cause edit_of first_of change_list update reshape fresh size_step insert_size grow rebuild walk count_after run_at after_draw draw_at draw_from scan if_eq if_lt if_le ◌>>=◌ decode sheet_test laid_test shape_test balanced_test shape_of shape_in numbered number_order count_place list_of nonzero read_tree equal_lists lay_out lay_slots lay_counts pad_to lay_leaves leaf_counts spread put_entries slot_of leaf_slots height digits doublings count_order range_at stored tree_order order_by each index_of reorder tabulate shape_counts write_tree
written = refl
