-- The starred cases of document 01 hold: one table, proved by computation.
use Rattle.std.specs.Prelude.{◌≡◌, refl, map}
use Rattle.base.specs.Cases.{if_eq, if_lt, if_le}
use Rattle.base.specs.Lists.{tabulate, equal_lists}
use Rattle.draw.specs.Draw.{scan, draw_from, draw_at}
use Rattle.draw_shares.specs.Program.{◌>>=◌}
use Rattle.draw_shares.specs.Tape.{run_at, after_draw}
use Rattle.tree_sizes.specs.Sizes as sizes
use Rattle.tree_rules.specs.Compare.{count_after}
use Rattle.tree_rules.specs.Rules.{rebuild, walk_half, walk, grow, shrink, insert_size, delete_size, size_step, fresh, reshape, update}
use Rattle.tree_rules.specs.ChangeList.{change_list}
use Rattle.tree_counts.specs.Counts.{write_tree, read_tree, shape_counts, shape_in}
use Rattle.store_layout.specs.Leaf.{slot_of, put_entries, spread, nonzero}
use Rattle.store_layout.specs.Layout.{leaf_counts, lay_leaves, pad_to, lay_slots, lay_counts, lay_out}
use Rattle.store_order.specs.Occurs.{index_of}
use Rattle.store_order.specs.TreeOrder.{each, order_by, tree_order}
use Rattle.store_order.specs.CountOrder.{stored, count_place, range_at, reorder, count_order, number_order}
use Rattle.store_layout.specs.Decode.{numbered, list_of, shape_of, balanced_test, shape_test, laid_test, sheet_test, decode}
use Rattle.store_scoring.specs.Scoring.{retired_bit, tally}
use Rattle.store_tallies.specs.Tallies.{write_tallies, range_tallies, lay_tallies}
use Rattle.call_outcomes.specs.Kind.{applied}
use Rattle.call_outcomes.specs.Causes.{first_of, by_lengths, by_found, store_decision, looked_at, argument_cause, by_arguments, decision}
use Rattle.call_outcomes.specs.PlainCalls.{change_cause, edit_of, question_cause, reply_to, written_for}
use Rattle.call_outcomes.specs.Untallied.{right_lengths, found_by}
use Rattle.call_outcomes.specs.Slice.{slice_test, found_if, found_with, lengths_with}
use Rattle.call_outcomes.specs.Outcome.{edited, effect, answer_of, entries_of, refused, finished, outcome_by, outcome}
use Rattle.frame_lines.specs.Frame.{is_hex_digit, hex_value, all_hex, is_hex_line, field, of_length, insert_of, delete_of, read_of, place_of, tape_of, form_of, frame_of, word_at}
use Rattle.frame_replies.specs.Reply as reply
use Rattle.frame_tape.specs.Tape.{read_off, line_words}
use Rattle.frame_answers.specs.Step as step
use Rattle.review_marks.specs.Text.{bytes, ended}
use Rattle.review_marks.specs.Marks.{face, among, by_rules, computed, marks}

pub marks_hold : map computed marks ≡ marks
unfolding marks computed by_rules face among step.at_start bytes ended step.answers_to step.answer_to step.changed step.changed_by step.entry_count step.refusal read_off step.keeping step.taped line_words step.leaf_reply step.leaf_replies step.leaves_of step.sheet_replies step.print_replies step.print_lines reply.hex_digit reply.digits reply.entry_digits reply.header reply.encode reply.line_of reply.bytes_of frame_of form_of tape_of place_of read_of delete_of insert_of of_length field is_hex_line all_hex hex_value is_hex_digit word_at outcome outcome_by finished refused answer_of entries_of effect edited applied change_list decision store_decision looked_at by_lengths by_found by_arguments argument_cause right_lengths found_by lengths_with found_with found_if slice_test change_cause edit_of question_cause reply_to written_for first_of update reshape fresh size_step insert_size delete_size grow shrink rebuild walk walk_half count_after run_at after_draw draw_at draw_from scan if_eq if_lt if_le ◌>>=◌ decode sheet_test laid_test shape_test balanced_test shape_of shape_in numbered number_order count_place list_of nonzero read_tree equal_lists lay_out lay_slots lay_counts pad_to lay_leaves leaf_counts spread put_entries slot_of count_order reorder tabulate range_at stored tree_order order_by each index_of shape_counts write_tree lay_tallies range_tallies write_tallies tally retired_bit sizes.doublings sizes.ceil_div sizes.digits sizes.height sizes.leaf_slots sizes.slots sizes.candidates sizes.window_start
marks_hold = refl
