-- The reviewer's page: what is claimed of the clubs' sheets, a sentence and a theorem each. The definitions that the statements name stand in
-- store_order (TreeOrder), store_board (Board), store_scoring (Scoring), store_sums (Range), store_tallies (Tallies, HoldsTallies), store_ties (Groups, Ties), store_keys (Key),
-- call_outcomes (Kind, Causes, Outcome, PlainCalls, Untallied, Slice, Plain, Clubs), call_timed (Timed), call_orders (Conversion, NumberOrder,
-- Converts), call_history (History, TapeRuns), call_corrections (Accepted), call_readings (Reading), call_mend (Mending, Views), frame_sessions (Session) and frame_chunks (Chunk, Input).
use Rattle.std.specs.Prelude.{Ok, Err, ◌≡◌, refl, Bool, true, false, ◌≢◌, ◌↔◌, ◌⊎◌, List, [], ◌∷◌, ◌++◌, map, ℕ, suc, ◌+◌, ◌-◌, ◌*◌, ◌^◌, ◌≤◌, ◌<◌, length, get_or, take, drop, replicate}
use Rattle.std.proofs.Math.Option.{some}
use Rattle.std.proofs.Common.{arith}
use Rattle.base.specs.Lists.{Every, total}
use Rattle.draw_shares.specs.Program.{Among, Draws}
use Rattle.draw_shares.specs.Fraction.{◌≐◌, whole, unit}
use Rattle.draw_shares.specs.Course.{Follows, share}
use Rattle.tree_sizes.specs.Sizes.{height}
use Rattle.tree_rules.specs.declared.Change.{Change}
use Rattle.tree_rules.specs.declared.Change.TheVariants.{Insert}
use Rattle.tree_rules.specs.Tree.{Shape, IsShape}
use Rattle.tree_rules.specs.ChangeList.{change_list}
use Rattle.tree_counts.specs.Counts.{shape_counts}
use Rattle.tree_canonical.specs.ShapeShare.{shape_product}
use Rattle.store_order.specs.Occurs.{occurs}
use Rattle.store_order.specs.TreeOrder.{tree_order}
use Rattle.store_order.proofs.TreeOrderLaws.{order_permutes}
use Rattle.store_order.specs.CountOrder.{number_order}
use Rattle.store_order.specs.Copied.{up}
use Rattle.store_layout.specs.Layout.{Store, lay_out}
use Rattle.store_layout.specs.Sheet.{IsContents}
use Rattle.call_outcomes.specs.declared.Cause.{Cause}
use Rattle.call_outcomes.specs.declared.Cause.TheVariants.{NotMendable, NotASheet, NotTimed, BoardRanks, EntryPresent, Rank, OutputShort, TapeEnded}
use Rattle.call_outcomes.specs.declared.Answer.TheVariants.{Checked, Changed, Entries, Present, Converted, Mended}
use Rattle.call_outcomes.specs.Causes.{argument_cause}
use Rattle.call_outcomes.specs.Outcome.{outcome, call_program}
use Rattle.call_outcomes.specs.PlainCalls.{Call, insert_at, delete_at, edit_of, insert, delete, place, check, placed, changing}
use Rattle.call_outcomes.specs.PlainCallLaws.{plain_itself}
use Rattle.call_outcomes.specs.Untallied.{IsList, untallied}
use Rattle.call_outcomes.specs.Plain.{plain_view, plain, PlainStore, PlainLengths, lay_plain, equal_plain}
use Rattle.call_outcomes.proofs.PlainLaws.{plain_right}
use Rattle.call_outcomes.specs.Clubs.{clubs, zeros}
use Rattle.call_outcomes.proofs.ClubsLaws.{clubs_roomy, clubs_ready, clubs_lawful}
use Rattle.call_outcomes.specs.LongerTapeLaws as longer
use Rattle.call_orders.specs.Conversion.{to_tree, to_number, Convertible, conversion, to_tree_order}
use Rattle.call_orders.proofs.ConversionLaws as conversions
use Rattle.call_orders.specs.NumberOrder.{lay_numbered, in_number_order}
use Rattle.call_orders.specs.Converts.{converted}
use Rattle.call_orders.proofs.OrderLaws as orders
use Rattle.call_history.specs.History.{history, final_list, list_at_end, SameTable, Sent, clearing, last_store, NoneEnds, faces_sent, calls_of}
use Rattle.call_history.proofs.Shares as shares
use Rattle.call_history.specs.Refusals as refusals
use Rattle.call_history.specs.TapeRuns.{tape_runs, tapes_decide, CallsAmong, calls_runs}
use Rattle.call_history.proofs.TapeRunsLaws as tapes
use Rattle.call_history.proofs.Supply.{program_draws, history_supplied}
use Rattle.call_history.proofs.PlainSupply.{plain_suppliable}
use Rattle.call_history.proofs.Clause as clause
use Rattle.call_history.proofs.ClubSheets as sheets
use Rattle.call_history.proofs.ClubSheets.{ClubSheet}
use Rattle.store_layout.specs.EntryLaws as entries
use Rattle.store_scoring.specs.Scoring.{retired_bit, tally, none_retired}
use Rattle.store_tallies.specs.Tallies.{range_tallies}
use Rattle.store_sums.specs.Range.{IsRange}
use Rattle.store_tallies.specs.HoldsTallies.{entries_of}
use Rattle.store_tallies.specs.LayLaws as tallies
use Rattle.store_tallies.specs.NoneLaws as none-retired-tallies
use Rattle.store_tallies.specs.FollowLaws as follow
use Rattle.store_tallies.specs.EntryLaws as replaced
use Rattle.store_ties.specs.Groups.{Group, group_first, group_end, places_sum, placing_of, single, group_sums}
use Rattle.store_ties.specs.Ties.{tie_bit, tied_in, placing_in, TiesBack, StartsAt}
use Rattle.store_ties.specs.GroupLaws as groups
use Rattle.store_ties.specs.PlacingLaws as placings
use Rattle.store_ties.specs.ExactLaws as exact
use Rattle.store_board.specs.Board.{falls}
use Rattle.store_keys.specs.Key.{key, Rises, rank_of, present}
use Rattle.store_keys.specs.KeyLaws as keys
use Rattle.call_timed.specs.Timed as timed_calls_lem
use Rattle.call_timed.specs.Timed.{TimedStore, lay_timed, TimedLengths, equal_timed, timed_view, insert_entry, delete_rank, plainly, as_plain, found_at, timed, TimedCall}
use Rattle.call_timed.proofs.TimedLaws.{timed_right, timed_as_plain}
use Rattle.call_corrections.specs.Accepted.{AllAccepted}
use Rattle.call_corrections.proofs.Corrections as corrections
use Rattle.call_corrections.proofs.TimedCorrections as timed-corrections
use Rattle.call_readings.specs.Reading.{rank_count, plain_reading, timed_reading, plain_board, timed_board}
use Rattle.call_readings.proofs.ReadingLaws as readings
use Rattle.call_readings.proofs.BoardLaws as boards
use Rattle.call_mend.specs.Mending.{size_of, Mendable, mended}
use Rattle.call_mend.specs.Views.{plain_store, timed_store}
use Rattle.call_mend.proofs.MendingLaws as mending
use Rattle.timed_history.specs.Clause as timed-clause
use Rattle.timed_history.specs.Clause.{clubs_timed}
use Rattle.timed_history.specs.TimedSupply.{timed_suppliable}
use Rattle.timed_history.specs.TimedSheets as timed-sheets
use Rattle.timed_history.specs.TimedSheets.{TimedSheet}
use Rattle.frame_input.specs.Lines.{lines_of}
use Rattle.frame_input.specs.Chunks.{joined}
use Rattle.frame_answers.specs.Step.{Kept, TapeReady, at_start, answers_to, kept_after}
use Rattle.frame_sessions.specs.Session.{waiting_words, calls_in, sent_over, brought_over, read_over, NoneSays07}
use Rattle.frame_sessions.specs.SessionLaws as session
use Rattle.frame_sessions.specs.SessionHistory as session-history
use Rattle.frame_chunks.specs.Input.{input_outcome}
use Rattle.frame_chunks.specs.InputLaws as input

-- ---- histories and shares

-- For every two histories, on stores that held anything at all before, every store has the same share in both exactly when both end with
-- the same list.
pub equal_tables : (calls calls' : List Call) (store store' : PlainStore) → PlainLengths clubs store → PlainLengths clubs store'
    → SameTable (plain_view clubs) (history (plain clubs) calls store) (history (plain clubs) calls' store')
    ↔ (list_at_end (plain clubs) calls ≡ list_at_end (plain clubs) calls')
equal_tables = clause.clause

-- The shares of a history sum to 1.
pub shares_sum : (calls : List Call) (store : PlainStore) → PlainLengths clubs store → share (λ _. true) (history (plain clubs) calls store) ≐ whole 1
shares_sum calls store right = shares.shares_sum (plain clubs) clubs_lawful calls store (plain_right clubs store right)

-- A store has a share above 0 exactly when it is a sheet of the list at the end.
pub positive_shares : (calls : List Call) (store : PlainStore) → PlainLengths clubs store → (v : PlainStore)
    → (¬ (share (equal_plain v) (history (plain clubs) calls store) ≐ whole 0)) ↔ ClubSheet (list_at_end (plain clubs) calls) v
positive_shares calls store right = shares.positive_sheets (plain clubs) clubs_lawful calls store (plain_right clubs store right)

-- Each sheet of the list at the end has the share 1 / N times 1 / c for each range above the leaves.
pub sheet_shares : (calls : List Call) (store : PlainStore) → PlainLengths clubs store → (s : Shape) → IsShape (length (list_at_end (plain clubs) calls)) s
    → share (equal_plain (lay_plain clubs (list_at_end (plain clubs) calls) s)) (history (plain clubs) calls store)
    ≐ unit (shape_product (length (list_at_end (plain clubs) calls)) s)
sheet_shares = clause.sheet_shares

-- ---- words

-- Whatever words the tapes of the calls hold, if no call returns 7, the calls leave the store with which the course ends whose faces those
-- words decide.
pub words_decide : (sent : List (Sent Call)) (store : PlainStore) → NoneEnds (plain clubs) (clearing (plain clubs) ∷ sent) store → (final : PlainStore)
    → Follows (history (plain clubs) (calls_of sent) store) (faces_sent (plain clubs) (clearing (plain clubs) ∷ sent) store) final
    ↔ (final ≡ last_store (plain clubs) (clearing (plain clubs) ∷ sent) store)
words_decide = clause.words

-- The ways to fill the tapes that decide a course of calls, each draw reading its given number of words, are as many as the product over the
-- draws of the runs of words that one draw has for a face, whatever the faces.
pub tapes_counted : (calls : List Call) (store : PlainStore) (faces among numbers : List (List ℕ)) → CallsAmong (plain clubs) calls store faces among
    → tape_runs (map total numbers) (tapes_decide (plain clubs) calls store faces numbers) ≡ calls_runs among numbers
tapes_counted = tapes.tape_runs_lem (plain clubs)

-- So of equally many words every course whose draws are among the same numbers is decided in equally many ways.
pub tapes_fair : (calls calls' : List Call) (store store' : PlainStore) (faces faces' among numbers : List (List ℕ))
    → CallsAmong (plain clubs) calls store faces among → CallsAmong (plain clubs) calls' store' faces' among
    → tape_runs (map total numbers) (tapes_decide (plain clubs) calls store faces numbers)
    ≡ tape_runs (map total numbers) (tapes_decide (plain clubs) calls' store' faces' numbers)
tapes_fair = tapes.tapes_fair (plain clubs) (plain clubs)

-- Every draw that a call makes on any sheet is among 1 to 2^32.
pub draws_among : (list : List ℕ) (store : PlainStore) → ClubSheet list store → (call : Call) → Draws (Among (2 ^ 32)) (call_program (plain clubs) call store)
draws_among = program_draws (plain clubs) clubs_lawful (plain_suppliable clubs_ready)

-- For every course of a history there are tapes such that no call returns 7 and the words decide this very course.
pub coins_supplied : (calls : List Call) (store : PlainStore) → PlainLengths clubs store → (faces : List ℕ) (v : PlainStore)
    → Follows (history (plain clubs) calls store) faces v
    → (sent : List (Sent Call)) × (calls_of sent ≡ calls) × NoneEnds (plain clubs) (clearing (plain clubs) ∷ sent) store
    × (faces_sent (plain clubs) (clearing (plain clubs) ∷ sent) store ≡ faces) × (last_store (plain clubs) (clearing (plain clubs) ∷ sent) store ≡ v)
coins_supplied calls store right = history_supplied (plain clubs) clubs_lawful (plain_suppliable clubs_ready) calls store (plain_right clubs store right)

-- A call that is not refused by 7 has the same outcome on every longer tape that begins with the same words.
pub more_tape : (call : Call) (tape more : List ℕ) (store : PlainStore) (output : List ℕ)
    → (outcome (plain clubs) call tape store output).answer ≢ Err TapeEnded
    → outcome (plain clubs) call (tape ++ more) store output ≡ outcome (plain clubs) call tape store output
more_tape = longer.more_tape (plain clubs)

-- Where no call returns 7, whatever the words, the last store is a sheet of the list at the end.
pub last_sheet : (sent : List (Sent Call)) (store : PlainStore) → PlainLengths clubs store → NoneEnds (plain clubs) (clearing (plain clubs) ∷ sent) store
    → ClubSheet (list_at_end (plain clubs) (calls_of sent)) (last_store (plain clubs) (clearing (plain clubs) ∷ sent) store)
last_sheet sent store right = shares.last_sheet (plain clubs) clubs_lawful sent store (plain_right clubs store right)

-- A call on a sheet that a cause of its arguments refuses answers with this cause, whatever the words and the shape.
pub refused_by : (list : List ℕ) (store : PlainStore) → ClubSheet list store → (call : Call) (cause : Cause)
    → argument_cause (plain clubs) call list ≡ some cause → (tape output : List ℕ)
    → (outcome (plain clubs) call tape store output).answer ≡ Err cause
refused_by = refusals.refused_by (plain clubs) clubs_lawful

-- ---- single calls

-- A check of a sheet answers with the length of its list; a check of any other store of the right lengths, such as one with a wrong tally, is
-- refused by cause 2.
pub check_sheet : (list : List ℕ) (store : PlainStore) → ClubSheet list store → (tape output : List ℕ)
    → (outcome (plain clubs) check tape store output).answer ≡ Ok (Checked (length list))
check_sheet = sheets.check_sheet

pub check_other : (store : PlainStore) → PlainLengths clubs store → ((list : List ℕ) → ClubSheet list store → ⊥) → (tape output : List ℕ)
    → (outcome (plain clubs) check tape store output).answer ≡ Err NotASheet
check_other = sheets.check_other

-- An accepted insert or delete on any sheet leaves a sheet of the changed list.
pub changed_sheet : (list : List ℕ) (store : PlainStore) → ClubSheet list store → (by : Change) (entry : ℕ) (tape output : List ℕ) (n words : ℕ)
    → (outcome (plain clubs) (changing by entry) tape store output).answer ≡ Ok (Changed n words)
    → ClubSheet (change_list by entry list) (outcome (plain clubs) (changing by entry) tape store output).store
changed_sheet = sheets.changed_sheet

-- A delete of the last entry leaves zeros.
pub last_deleted : (e : ℕ) (store : PlainStore) → ClubSheet (e ∷ []) store → (tape output : List ℕ) (n words : ℕ)
    → (outcome (plain clubs) (delete 0) tape store output).answer ≡ Ok (Changed n words)
    → (outcome (plain clubs) (delete 0) tape store output).store ≡ zeros
last_deleted = sheets.last_deleted

-- ---- the order of the counts

-- For every number of levels the order of the tree has each of the numbers 1 to 2 ^ H - 1 once, and no other.
pub tree_order_lem : (H : ℕ) → 0 < H → (range : ℕ) → occurs range (tree_order H 1) ≡ occurs range (up 1 (2 ^ H - 1))
tree_order_lem H low range = order_permutes range H low

-- On any counts with an M that a sheet can have each conversion undoes the other.
pub there_and_back : (counts : List ℕ) → Convertible clubs counts
    → conversion clubs to_number (conversion clubs to_tree counts).counts ≡ record { answer = Ok (Converted (get_or counts 0 0)); counts = counts }
there_and_back = conversions.there_and_back clubs clubs_roomy

pub back_and_there : (counts : List ℕ) → Convertible clubs counts
    → conversion clubs to_tree (conversion clubs to_number counts).counts ≡ record { answer = Ok (Converted (get_or counts 0 0)); counts = counts }
back_and_there = conversions.back_and_there clubs clubs_roomy

-- A sheet from before F-5, slots and counts, becomes the slots and the counts of the same list with the same shape, the slots as they were.
pub laid_converted : (list : List ℕ) (s : Shape) → IsList clubs list → IsShape (length list) s
    → to_tree_order clubs (lay_numbered clubs list s) ≡ lay_out clubs list s
laid_converted = orders.laid_converted clubs clubs_roomy

-- Every call on slots and counts, as they were before F-11, gives on a converted store the answer and the output that it gave, and leaves the
-- converted store.
pub calls_converted : (call : Call) (tape : List ℕ) (store : Store) (output : List ℕ)
    → outcome (untallied clubs) call tape (to_tree_order clubs store) output ≡ converted (to_tree_order clubs) (outcome (in_number_order clubs) call tape store output)
calls_converted = orders.calls_converted clubs clubs_roomy

-- ---- timed sheets

-- For every two timed histories, on stores of four slices that held anything at all before, every store has the same share in both exactly
-- when both end with the same list.
pub equal_timed_tables : (calls calls' : List TimedCall) (store store' : TimedStore) → TimedLengths clubs store → TimedLengths clubs store'
    → SameTable (timed_view clubs) (history (timed clubs) calls store) (history (timed clubs) calls' store')
    ↔ (list_at_end (timed clubs) calls ≡ list_at_end (timed clubs) calls')
equal_timed_tables = timed-clause.clause

-- The shares of a timed history sum to 1; each timed sheet of the list at the end has the share 1 / N times 1 / c for each range above the
-- leaves, and no other store has a share above 0.
pub timed_shares_sum : (calls : List TimedCall) (store : TimedStore) → TimedLengths clubs store
    → share (λ _. true) (history (timed clubs) calls store) ≐ whole 1
timed_shares_sum calls store right = shares.shares_sum (timed clubs) clubs_timed calls store (timed_right clubs store right)

pub timed_sheet_shares : (calls : List TimedCall) (store : TimedStore) → TimedLengths clubs store → (s : Shape)
    → IsShape (length (list_at_end (timed clubs) calls)) s
    → share (equal_timed (lay_timed clubs (list_at_end (timed clubs) calls) s)) (history (timed clubs) calls store)
    ≐ unit (shape_product (length (list_at_end (timed clubs) calls)) s)
timed_sheet_shares = timed-clause.sheet_shares

pub timed_positive_shares : (calls : List TimedCall) (store : TimedStore) → TimedLengths clubs store → (v : TimedStore)
    → (¬ (share (equal_timed v) (history (timed clubs) calls store) ≐ whole 0)) ↔ TimedSheet (list_at_end (timed clubs) calls) v
timed_positive_shares calls store right = shares.positive_sheets (timed clubs) clubs_timed calls store (timed_right clubs store right)

-- Whatever words the tapes of the calls hold, if no call returns 7, the calls leave the store of four slices with which the course ends
-- whose faces those words decide; and it is a timed sheet of the list at the end.
pub timed_words_decide : (sent : List (Sent TimedCall)) (store : TimedStore) → NoneEnds (timed clubs) (clearing (timed clubs) ∷ sent) store → (final : TimedStore)
    → Follows (history (timed clubs) (calls_of sent) store) (faces_sent (timed clubs) (clearing (timed clubs) ∷ sent) store) final
    ↔ (final ≡ last_store (timed clubs) (clearing (timed clubs) ∷ sent) store)
timed_words_decide = timed-clause.words

pub timed_last_sheet : (sent : List (Sent TimedCall)) (store : TimedStore) → TimedLengths clubs store
    → NoneEnds (timed clubs) (clearing (timed clubs) ∷ sent) store
    → TimedSheet (list_at_end (timed clubs) (calls_of sent)) (last_store (timed clubs) (clearing (timed clubs) ∷ sent) store)
timed_last_sheet sent store right = shares.last_sheet (timed clubs) clubs_timed sent store (timed_right clubs store right)

-- For every course of a timed history there are tapes such that no call returns 7 and the words decide this very course.
pub timed_coins_supplied : (calls : List TimedCall) (store : TimedStore) → TimedLengths clubs store → (faces : List ℕ) (v : TimedStore)
    → Follows (history (timed clubs) calls store) faces v
    → (sent : List (Sent TimedCall)) × (calls_of sent ≡ calls) × NoneEnds (timed clubs) (clearing (timed clubs) ∷ sent) store
    × (faces_sent (timed clubs) (clearing (timed clubs) ∷ sent) store ≡ faces) × (last_store (timed clubs) (clearing (timed clubs) ∷ sent) store ≡ v)
timed_coins_supplied calls store right = history_supplied (timed clubs) clubs_timed (timed_suppliable clubs_ready) calls store (timed_right clubs store right)

-- A check of a timed sheet answers with the length of its list; a check of any other store of the right lengths is refused by cause 2 where
-- slots, counts and tallies are no plain sheet, and by cause 11 where they are one.
pub timed_check_sheet : (list : List ℕ) (store : TimedStore) → TimedSheet list store → (tape output : List ℕ)
    → (outcome (timed clubs) timed_calls_lem.check tape store output).answer ≡ Ok (Checked (length list))
timed_check_sheet = timed-sheets.check_sheet

pub timed_check_other : (store : TimedStore) → TimedLengths clubs store → (tape output : List ℕ) → ((list : List ℕ) → ClubSheet list store.sheet → ⊥)
    → (outcome (timed clubs) timed_calls_lem.check tape store output).answer ≡ Err NotASheet
timed_check_other = timed-sheets.check_other

pub timed_check_untimed : (store : TimedStore) → TimedLengths clubs store → (tape output : List ℕ) (list : List ℕ) → ClubSheet list store.sheet
    → ((list : List ℕ) → TimedSheet list store → ⊥) → (outcome (timed clubs) timed_calls_lem.check tape store output).answer ≡ Err NotTimed
timed_check_untimed = timed-sheets.check_untimed

-- A find of an entry is answered by the list: that it is there, with its rank, or that it is not, with the rank at which it would stand. An
-- entry with the key of the one at a rank is found there, whatever its bits; and a key that is present is that of the entry at its rank.
pub find_sheet : (list : List ℕ) (store : TimedStore) → TimedSheet list store → (e : ℕ) → key e ≢ 0 → (tape output : List ℕ)
    → (outcome (timed clubs) (timed_calls_lem.find e) tape store output).answer ≡ Ok (found_at (present (key e) list) (rank_of (key e) list))
find_sheet = timed-sheets.find_sheet

pub find_entry_lem : (list : List ℕ) (store : TimedStore) → TimedSheet list store → (r : ℕ) → r < length list
    → (e : ℕ) → key e ≡ key (get_or list r 0) → (tape output : List ℕ)
    → (outcome (timed clubs) (timed_calls_lem.find e) tape store output).answer ≡ Ok (Present r)
find_entry_lem = timed-sheets.find_entry_lem

pub entry_at : (k : ℕ) (list : List ℕ) → Rises list → present k list ≡ true → (rank_of k list < length list) × (key (get_or list (rank_of k list) 0) ≡ k)
entry_at = keys.entry_at

-- An insert that is made leaves a timed sheet of the list with the entry in at the rank of its key, and such a list rises.
pub inserted_sheet : (list : List ℕ) (store : TimedStore) → TimedSheet list store → (e : ℕ) (tape output : List ℕ) (n words : ℕ)
    → (outcome (timed clubs) (timed_calls_lem.insert e) tape store output).answer ≡ Ok (Changed n words)
    → TimedSheet (change_list (Insert (rank_of (key e) list)) e list) (outcome (timed clubs) (timed_calls_lem.insert e) tape store output).store
inserted_sheet = timed-sheets.inserted_sheet

-- Entries are compared without the bits 63 and 62: 1 stands for bit 62, 2 for bit 63, 3 for both; an insert of an entry whose key is there is
-- refused by cause 10, whatever its bits.
pub key_without_bits : (bits e : ℕ) → e < 2 ^ 62 → key (bits * 2 ^ 62 + e) ≡ e
key_without_bits = keys.key_without_bits

pub insert_present : (list : List ℕ) (store : TimedStore) → TimedSheet list store → (r : ℕ) → r < length list
    → (e : ℕ) → key e ≡ key (get_or list r 0) → (tape output : List ℕ)
    → (outcome (timed clubs) (timed_calls_lem.insert e) tape store output).answer ≡ Err EntryPresent
insert_present = timed-sheets.insert_present

-- ---- the tallies

-- The tallies follow from list and counts: sheets of one list with the same counts have the same tallies.
pub tallies_follow : (list : List ℕ) (s s' : Shape) → IsContents clubs list s → IsContents clubs list s'
    → (lay_plain clubs list s).sheet.counts ≡ (lay_plain clubs list s').sheet.counts → (lay_plain clubs list s).slice ≡ (lay_plain clubs list s').slice
unfolding lay_out
tallies_follow = follow.tallies_follow clubs clubs_roomy

-- By the numbers of the ranges: the tally of a range is the number of scoring boats among the entries that it has by the counts; number 0 and
-- the numbers that no range has are 0.
pub tally_entries : (list : List ℕ) (s : Shape) → IsContents clubs list s → (levels k : ℕ) → IsRange s.size levels k
    → get_or (range_tallies clubs.counts list s) k 0 ≡ tally (entries_of list (shape_counts clubs.counts (length list) s) (height s.size - levels) k)
tally_entries = follow.tally_entries clubs clubs_roomy

pub tally_zero : (list : List ℕ) (s : Shape) → IsContents clubs list s → get_or (range_tallies clubs.counts list s) 0 0 ≡ 0
tally_zero = tallies.range_tallies_zero clubs clubs_roomy

pub tally_unused : (list : List ℕ) (s : Shape) → IsContents clubs list s → (k : ℕ) → 2 * 2 ^ height s.size ≤ k
    → get_or (range_tallies clubs.counts list s) k 0 ≡ 0
tally_unused = tallies.range_tallies_unused clubs clubs_roomy

-- They stand in the order of the counts: put back into the order of the range numbers, they are these.
pub tallies_numbered : (list : List ℕ) (s : Shape) → IsContents clubs list s
    → number_order (height s.size) (lay_plain clubs list s).slice ≡ range_tallies clubs.counts list s
tallies_numbered = tallies.numbered_tallies clubs clubs_roomy

-- Where no boat is retired, the tallies are the counts with 0 at number 0.
pub none_tallies : (list : List ℕ) (s : Shape) → IsContents clubs list s → none_retired list ≡ true
    → (lay_plain clubs list s).slice ≡ 0 ∷ drop 1 (lay_plain clubs list s).sheet.counts
unfolding lay_out
none_tallies = none-retired-tallies.none_tallies clubs clubs_roomy

-- ---- places, dead heats and retired boats

-- A scoring boat ties with the scoring boat before her exactly when she and every retired boat between them bear bit 63.
pub ties_exactly : (list : List ℕ) (i : ℕ) → i < length list → retired_bit (get_or list i 0) ≡ false
    → (tied_in list (tally (take i list)) ≡ true) ↔ TiesBack list i
ties_exactly = exact.ties_exactly

-- Of N scoring boats, numbered from 0, each is in exactly one tied group: a longest run, each but the first tied with the one before her.
pub in_group : (tied : ℕ → Bool) (N i : ℕ) → i < N
    → Group tied N (group_first tied i) (group_end tied N i) × (group_first tied i ≤ i) × (i < group_end tied N i)
in_group = groups.in_group

pub only_group : (tied : ℕ → Bool) (N i first end : ℕ) → Group tied N first end → first ≤ i → i < end
    → (first ≡ group_first tied i) × (end ≡ group_end tied N i)
only_group = groups.only_group

-- The sums of all groups add up to 1 + 2 + … + the number of scoring boats.
pub groups_sum : (list : List ℕ) → group_sums (tied_in list) (tally list) ≡ places_sum 1 (tally list)
groups_sum = exact.scoring_sum

-- A scoring boat has what her group has among the scoring boats, of which she has the number of those before her.
pub scoring_placing : (list : List ℕ) (i : ℕ) → retired_bit (get_or list i 0) ≡ false
    → placing_in list i ≡ placing_of (tied_in list) (tally list) (tally (take i list))
scoring_placing = placings.scoring_placing

-- Her place is one more than the scoring entries before the first boat of her group, counted in the full list.
pub place_counted : (list : List ℕ) (i : ℕ) → i < length list → retired_bit (get_or list i 0) ≡ false
    → (f : ℕ) × StartsAt list i f × ((placing_in list i).place ≡ 1 + tally (take f list))
place_counted = exact.place_counted

-- A retired boat has place 0, sum 0 and a group of 1.
pub retired_placing : (list : List ℕ) (i : ℕ) → retired_bit (get_or list i 0) ≡ true → placing_in list i ≡ record { place = 0; sum = 0; boats = 1 }
retired_placing = placings.retired_placing

-- Where no boat is retired, each has what F-3 gives her: her rank is her number, and she ties by her own bit 63.
pub none_retired_lem : (list : List ℕ) → none_retired list ≡ true → (i : ℕ) → i < length list
    → placing_in list i ≡ placing_of (λ j. tie_bit (get_or list j 0)) (length list) i
none_retired_lem = placings.none_retired_lem

-- Where no entry bears bit 63 or bit 62, rank i has place i + 1 and as many points, alone.
pub no_bits : (list : List ℕ) → Every (λ e. e < 2 ^ 62) list → (i : ℕ) → i < length list → placing_in list i ≡ single i
no_bits = placings.no_bits

-- A place of an entry on a sheet is answered by the list: what her tied group has, or what a retired boat has.
pub place_sheet : (list : List ℕ) (store : PlainStore) → ClubSheet list store → (i : ℕ) → i < length list → (tape output : List ℕ)
    → (outcome (plain clubs) (place i) tape store output).answer ≡ Ok (placed (placing_in list i))
place_sheet = sheets.place_sheet

pub timed_place_sheet : (list : List ℕ) (store : TimedStore) → TimedSheet list store → (i : ℕ) → i < length list → (tape output : List ℕ)
    → (outcome (timed clubs) (timed_calls_lem.place i) tape store output).answer ≡ Ok (placed (placing_in list i))
timed_place_sheet = timed-sheets.place_sheet

-- Slots, counts and shares do not look at the bits, and the tallies look at bit 62 alone. Where each entry is replaced by another one, the sheet
-- with this shape has the other entries in the same slots, and the same counts; and the same tallies, where retired boats stay retired and
-- others do not become so. The share of a sheet goes by its shape and the number of its entries alone.
pub map_lay_out : (f : ℕ → ℕ) → f 0 ≡ 0 → (list : List ℕ) (s : Shape)
    → (lay_plain clubs (map f list) s).sheet ≡ record { slots = map f (lay_plain clubs list s).sheet.slots; counts = (lay_plain clubs list s).sheet.counts }
map_lay_out f none = entries.map_lay_out f none clubs

pub map_tallies : (f : ℕ → ℕ) → ((e : ℕ) → retired_bit (f e) ≡ retired_bit e) → (list : List ℕ) (s : Shape)
    → (lay_plain clubs (map f list) s).slice ≡ (lay_plain clubs list s).slice
map_tallies f same = replaced.map_lay_tallies f same clubs.counts

pub shape_shares : (calls calls' : List Call) (store store' : PlainStore) → PlainLengths clubs store → PlainLengths clubs store'
    → length (list_at_end (plain clubs) calls) ≡ length (list_at_end (plain clubs) calls') → (s : Shape) → IsShape (length (list_at_end (plain clubs) calls)) s
    → share (equal_plain (lay_plain clubs (list_at_end (plain clubs) calls) s)) (history (plain clubs) calls store)
    ≐ share (equal_plain (lay_plain clubs (list_at_end (plain clubs) calls') s)) (history (plain clubs) calls' store')
shape_shares calls calls' store store' right right' =
    shares.shape_shares (plain clubs) clubs_lawful calls calls' store store' (plain_right clubs store right) (plain_right clubs store' right')

-- ---- corrections in either order

-- For ranks i ≤ j ≤ N, N at most 1,022 and entries other than zero: inserting one boat at j and then another at i leads to the same list as
-- inserting the second at i and then the first at j + 1.
pub either_order : (i j a b : ℕ) (list : List ℕ) → i ≤ j → j ≤ length list → length list ≤ 1022 → a ≢ 0 → b ≢ 0
    → final_list (plain clubs) (insert j a ∷ insert i b ∷ []) list ≡ final_list (plain clubs) (insert i b ∷ insert (suc j) a ∷ []) list
either_order i j a b list in_order inside few = corrections.either_order (plain_view clubs) 1024 i j a b list in_order inside (omega arith)

-- All four calls are accepted, on every sheet of the list to which the calls before lead.
pub both_accepted : (i j a b : ℕ) (list : List ℕ) → i ≤ j → j ≤ length list → length list ≤ 1022 → a ≢ 0 → b ≢ 0
    → AllAccepted (plain clubs) (insert j a ∷ insert i b ∷ []) list × AllAccepted (plain clubs) (insert i b ∷ insert (suc j) a ∷ []) list
both_accepted i j a b list in_order inside few some-a some-b =
    corrections.both_accepted (plain_view clubs) 1024 i j a b list in_order inside (omega arith) some-a some-b clubs_lawful

-- Where both orders follow one and the same cleared history, every store has the same share, whatever calls come behind.
pub either_shares : (before after : List Call) (store store' : PlainStore) → PlainLengths clubs store → PlainLengths clubs store'
    → (i j a b : ℕ) → i ≤ j → j ≤ length (list_at_end (plain clubs) before) → length (list_at_end (plain clubs) before) ≤ 1022 → a ≢ 0 → b ≢ 0
    → SameTable (plain_view clubs) (history (plain clubs) (before ++ (insert j a ∷ insert i b ∷ after)) store)
    (history (plain clubs) (before ++ (insert i b ∷ insert (suc j) a ∷ after)) store')
either_shares before after store store' right right' i j a b in_order inside few =
    corrections.either_shares (plain_view clubs) 1024 clubs_lawful before after store store' (plain_right clubs store right) (plain_right clubs store' right')
    i j a b in_order inside (omega arith)

-- An insert that is made, and then a delete at the same rank that is made, on any sheet, leave a sheet of the first list.
pub back_sheet : (list : List ℕ) (store : PlainStore) → ClubSheet list store → (i e : ℕ) (tape tape' output output' : List ℕ) (n n' words words' : ℕ)
    → (outcome (plain clubs) (insert i e) tape store output).answer ≡ Ok (Changed n words)
    → (outcome (plain clubs) (delete i) tape' (outcome (plain clubs) (insert i e) tape store output).store output').answer ≡ Ok (Changed n' words')
    → ClubSheet list (outcome (plain clubs) (delete i) tape' (outcome (plain clubs) (insert i e) tape store output).store output').store
unfolding edit_of
back_sheet list store w i e = corrections.back_sheet (plain clubs) clubs_lawful list store w (insert_at i e) (delete_at i) i e 0 refl refl

-- An insert with its rank in reach, room and an entry other than zero, and then a delete at the same rank, are accepted and lead back to the list.
pub back_accepted : (i e : ℕ) (list : List ℕ) → e ≢ 0 → i ≤ length list → length list < 1024 → AllAccepted (plain clubs) (insert i e ∷ delete i ∷ []) list
back_accepted i e list some_entry inside room = corrections.back_accepted (plain_view clubs) 1024 i e list some_entry inside room clubs_lawful

pub taken_back : (i e : ℕ) (list : List ℕ) → e ≢ 0 → i ≤ length list → length list < 1024 → final_list (plain clubs) (insert i e ∷ delete i ∷ []) list ≡ list
taken_back = corrections.taken_back (plain_view clubs) 1024

-- A cleared history with this pair added anywhere in it keeps its shares.
pub back_shares : (before after : List Call) (store store' : PlainStore) → PlainLengths clubs store → PlainLengths clubs store'
    → (i e : ℕ) → i ≤ length (list_at_end (plain clubs) before) → length (list_at_end (plain clubs) before) < 1024 → e ≢ 0
    → SameTable (plain_view clubs) (history (plain clubs) (before ++ (insert i e ∷ delete i ∷ after)) store) (history (plain clubs) (before ++ after) store')
back_shares before after store store' right right' =
    corrections.back_shares (plain_view clubs) 1024 clubs_lawful before after store store' (plain_right clubs store right) (plain_right clubs store' right')

-- For first ≤ mid < last < N, what a read of first to mid writes and then what a read of mid + 1 to last writes is what a read of first to last
-- writes: the former lent the front of an output and the latter the rest of it leave, joined, the output that a read of the whole leaves, where
-- there is room for it.
pub readings_joined : (list : List ℕ) (store : PlainStore) → ClubSheet list store → (first mid last : ℕ) → first ≤ mid → mid < last → last < length list
    → (tape tape₁ tape₂ output : List ℕ) → rank_count first last ≤ length output
    → (plain_reading clubs store first last tape output).output
    ≡ (plain_reading clubs store first mid tape₁ (take (rank_count first mid) output)).output
    ++ (plain_reading clubs store (suc mid) last tape₂ (drop (rank_count first mid) output)).output
readings_joined = readings.readings_joined (plain clubs) clubs_lawful (λ q. q) (plain_itself (plain_view clubs) 1024)

-- The read of the whole is refused by cause 6 exactly when one of the two is.
pub joined_refused : (list : List ℕ) (store : PlainStore) → ClubSheet list store → (first mid last : ℕ) → first ≤ mid → mid < last → last < length list
    → (tape tape₁ tape₂ output : List ℕ)
    → ((plain_reading clubs store first last tape output).answer ≡ Err OutputShort)
    ↔ (((plain_reading clubs store first mid tape₁ (take (rank_count first mid) output)).answer ≡ Err OutputShort)
    ⊎ ((plain_reading clubs store (suc mid) last tape₂ (drop (rank_count first mid) output)).answer ≡ Err OutputShort))
joined_refused = readings.joined_refused (plain clubs) clubs_lawful (λ q. q) (plain_itself (plain_view clubs) 1024)

-- The same of timed sheets: two inserts by entry in either order, with keys that are not zero, not the same, and not in the list.
pub timed_either_order : (a b : ℕ) (list : List ℕ) → length list ≤ 1022 → key a ≢ 0 → key b ≢ 0 → key a ≢ key b
    → present (key a) list ≡ false → present (key b) list ≡ false
    → final_list (timed clubs) (timed_calls_lem.insert a ∷ timed_calls_lem.insert b ∷ []) list ≡ final_list (timed clubs) (timed_calls_lem.insert b ∷ timed_calls_lem.insert a ∷ []) list
timed_either_order a b list few = timed-corrections.either_order (timed_view clubs) 1024 a b list (omega arith)

pub timed_both_accepted : (a b : ℕ) (list : List ℕ) → length list ≤ 1022 → key a ≢ 0 → key b ≢ 0 → key a ≢ key b
    → present (key a) list ≡ false → present (key b) list ≡ false
    → AllAccepted (timed clubs) (timed_calls_lem.insert a ∷ timed_calls_lem.insert b ∷ []) list
    × AllAccepted (timed clubs) (timed_calls_lem.insert b ∷ timed_calls_lem.insert a ∷ []) list
timed_both_accepted a b list few some-a some-b other absent-a absent-b =
    timed-corrections.both_accepted (timed_view clubs) 1024 a b list (omega arith) some-a some-b other absent-a absent-b clubs_timed

pub timed_either_shares : (before after : List TimedCall) (store store' : TimedStore) → TimedLengths clubs store → TimedLengths clubs store'
    → (a b : ℕ) → length (list_at_end (timed clubs) before) ≤ 1022 → key a ≢ 0 → key b ≢ 0 → key a ≢ key b
    → present (key a) (list_at_end (timed clubs) before) ≡ false → present (key b) (list_at_end (timed clubs) before) ≡ false
    → SameTable (timed_view clubs) (history (timed clubs) (before ++ (timed_calls_lem.insert a ∷ timed_calls_lem.insert b ∷ after)) store)
    (history (timed clubs) (before ++ (timed_calls_lem.insert b ∷ timed_calls_lem.insert a ∷ after)) store')
timed_either_shares before after store store' right right' a b few =
    timed-corrections.either_shares (timed_view clubs) 1024 clubs_timed before after store store' (timed_right clubs store right) (timed_right clubs store' right')
    a b (omega arith)

-- An insert by entry and then a delete at the rank of its key.
pub timed_back_sheet : (list : List ℕ) (store : TimedStore) → TimedSheet list store → (e : ℕ) (tape tape' output output' : List ℕ) (n n' words words' : ℕ)
    → (outcome (timed clubs) (timed_calls_lem.insert e) tape store output).answer ≡ Ok (Changed n words)
    → (outcome (timed clubs) (timed_calls_lem.delete (rank_of (key e) list)) tape' (outcome (timed clubs) (timed_calls_lem.insert e) tape store output).store output').answer
    ≡ Ok (Changed n' words')
    → TimedSheet list
    (outcome (timed clubs) (timed_calls_lem.delete (rank_of (key e) list)) tape' (outcome (timed clubs) (timed_calls_lem.insert e) tape store output).store output').store
unfolding plainly edit_of
timed_back_sheet list store w e =
    corrections.back_sheet (timed clubs) clubs_timed list store w (insert_entry e) (delete_rank (rank_of (key e) list)) (rank_of (key e) list) e 0 refl refl

pub timed_back_accepted : (e : ℕ) (list : List ℕ) → length list < 1024 → key e ≢ 0 → present (key e) list ≡ false
    → AllAccepted (timed clubs) (timed_calls_lem.insert e ∷ timed_calls_lem.delete (rank_of (key e) list) ∷ []) list
timed_back_accepted e list room some_key absent = timed-corrections.back_accepted (timed_view clubs) 1024 e list room some_key absent clubs_timed

pub timed_taken_back : (e : ℕ) (list : List ℕ) → length list < 1024 → key e ≢ 0 → present (key e) list ≡ false
    → final_list (timed clubs) (timed_calls_lem.insert e ∷ timed_calls_lem.delete (rank_of (key e) list) ∷ []) list ≡ list
timed_taken_back = timed-corrections.taken_back (timed_view clubs) 1024

pub timed_back_shares : (before after : List TimedCall) (store store' : TimedStore) → TimedLengths clubs store → TimedLengths clubs store'
    → (e : ℕ) → length (list_at_end (timed clubs) before) < 1024 → key e ≢ 0 → present (key e) (list_at_end (timed clubs) before) ≡ false
    → SameTable (timed_view clubs)
    (history (timed clubs) (before ++ (timed_calls_lem.insert e ∷ timed_calls_lem.delete (rank_of (key e) (list_at_end (timed clubs) before)) ∷ after)) store)
    (history (timed clubs) (before ++ after) store')
timed_back_shares before after store store' right right' =
    timed-corrections.back_shares (timed_view clubs) 1024 clubs_timed before after store store' (timed_right clubs store right) (timed_right clubs store' right')

-- Adjacent readings of a timed sheet.
pub timed_readings_joined : (list : List ℕ) (store : TimedStore) → TimedSheet list store → (first mid last : ℕ) → first ≤ mid → mid < last → last < length list
    → (tape tape₁ tape₂ output : List ℕ) → rank_count first last ≤ length output
    → (timed_reading clubs store first last tape output).output
    ≡ (timed_reading clubs store first mid tape₁ (take (rank_count first mid) output)).output
    ++ (timed_reading clubs store (suc mid) last tape₂ (drop (rank_count first mid) output)).output
timed_readings_joined = readings.readings_joined (timed clubs) clubs_timed as_plain (timed_as_plain (timed_view clubs) 1024)

pub timed_joined_refused : (list : List ℕ) (store : TimedStore) → TimedSheet list store → (first mid last : ℕ) → first ≤ mid → mid < last → last < length list
    → (tape tape₁ tape₂ output : List ℕ)
    → ((timed_reading clubs store first last tape output).answer ≡ Err OutputShort)
    ↔ (((timed_reading clubs store first mid tape₁ (take (rank_count first mid) output)).answer ≡ Err OutputShort)
    ⊎ ((timed_reading clubs store (suc mid) last tape₂ (drop (rank_count first mid) output)).answer ≡ Err OutputShort))
timed_joined_refused = readings.joined_refused (timed clubs) clubs_timed as_plain (timed_as_plain (timed_view clubs) 1024)

-- ---- the notice board

-- Of a board that is accepted, entry k of the output is what the read of rank k alone puts there,
pub board_entry : (list : List ℕ) (store : PlainStore) → ClubSheet list store → (ranks tape output : List ℕ) (n : ℕ)
    → (plain_board clubs store ranks tape output).answer ≡ Ok (Entries n) → (k : ℕ) → k < length ranks → (tape' : List ℕ) (x : ℕ)
    → (plain_reading clubs store (get_or ranks k 0) (get_or ranks k 0) tape' (x ∷ [])).output
    ≡ get_or (plain_board clubs store ranks tape output).output k 0 ∷ []
board_entry = boards.board_entry (plain clubs) clubs_lawful (λ q. q) (plain_itself (plain_view clubs) 1024)

-- and the rest of the output stays.
pub board_rest : (list : List ℕ) (store : PlainStore) → ClubSheet list store → (ranks tape output : List ℕ) (n : ℕ)
    → (plain_board clubs store ranks tape output).answer ≡ Ok (Entries n)
    → drop (length ranks) (plain_board clubs store ranks tape output).output ≡ drop (length ranks) output
board_rest = boards.board_rest (plain clubs) clubs_lawful (λ q. q) (plain_itself (plain_view clubs) 1024)

-- No ranks are accepted on any sheet, and nothing is written.
pub board_none : (list : List ℕ) (store : PlainStore) → ClubSheet list store → (tape output : List ℕ)
    → plain_board clubs store [] tape output ≡ record { answer = Ok (Entries 0); store = store; output = output }
board_none = boards.board_none (plain clubs) clubs_lawful (λ q. q) (plain_itself (plain_view clubs) 1024)

-- On a sheet, more than 64 ranks, or ranks that fall, are cause 16, whatever else is wrong with them.
pub board_falls : (list : List ℕ) (store : PlainStore) → ClubSheet list store → (ranks tape output : List ℕ)
    → (64 < length ranks) ⊎ (falls ranks ≡ true) → (plain_board clubs store ranks tape output).answer ≡ Err BoardRanks
board_falls = boards.board_falls (plain clubs) clubs_lawful (λ q. q) (plain_itself (plain_view clubs) 1024)

-- Other boards are refused by cause 4 exactly when the read of one of their ranks is.
pub board_rank : (list : List ℕ) (store : PlainStore) → ClubSheet list store → (ranks tape output : List ℕ)
    → length ranks ≤ 64 → falls ranks ≡ false → (tape' : List ℕ) (x : ℕ)
    → ((plain_board clubs store ranks tape output).answer ≡ Err Rank)
    ↔ ((k : ℕ) × (k < length ranks) × ((plain_reading clubs store (get_or ranks k 0) (get_or ranks k 0) tape' (x ∷ [])).answer ≡ Err Rank))
board_rank = boards.board_rank (plain clubs) clubs_lawful (λ q. q) (plain_itself (plain_view clubs) 1024)

-- A board that is refused, on any store, leaves the output as it was.
pub board_untouched : (store : PlainStore) (ranks tape output : List ℕ) (cause : Cause)
    → (plain_board clubs store ranks tape output).answer ≡ Err cause → (plain_board clubs store ranks tape output).output ≡ output
board_untouched = boards.board_untouched (plain clubs) clubs_lawful (λ q. q) (plain_itself (plain_view clubs) 1024)

-- The same of timed sheets.
pub timed_board_entry : (list : List ℕ) (store : TimedStore) → TimedSheet list store → (ranks tape output : List ℕ) (n : ℕ)
    → (timed_board clubs store ranks tape output).answer ≡ Ok (Entries n) → (k : ℕ) → k < length ranks → (tape' : List ℕ) (x : ℕ)
    → (timed_reading clubs store (get_or ranks k 0) (get_or ranks k 0) tape' (x ∷ [])).output
    ≡ get_or (timed_board clubs store ranks tape output).output k 0 ∷ []
timed_board_entry = boards.board_entry (timed clubs) clubs_timed as_plain (timed_as_plain (timed_view clubs) 1024)

pub timed_board_rest : (list : List ℕ) (store : TimedStore) → TimedSheet list store → (ranks tape output : List ℕ) (n : ℕ)
    → (timed_board clubs store ranks tape output).answer ≡ Ok (Entries n)
    → drop (length ranks) (timed_board clubs store ranks tape output).output ≡ drop (length ranks) output
timed_board_rest = boards.board_rest (timed clubs) clubs_timed as_plain (timed_as_plain (timed_view clubs) 1024)

pub timed_board_none : (list : List ℕ) (store : TimedStore) → TimedSheet list store → (tape output : List ℕ)
    → timed_board clubs store [] tape output ≡ record { answer = Ok (Entries 0); store = store; output = output }
timed_board_none = boards.board_none (timed clubs) clubs_timed as_plain (timed_as_plain (timed_view clubs) 1024)

pub timed_board_falls : (list : List ℕ) (store : TimedStore) → TimedSheet list store → (ranks tape output : List ℕ)
    → (64 < length ranks) ⊎ (falls ranks ≡ true) → (timed_board clubs store ranks tape output).answer ≡ Err BoardRanks
timed_board_falls = boards.board_falls (timed clubs) clubs_timed as_plain (timed_as_plain (timed_view clubs) 1024)

pub timed_board_rank : (list : List ℕ) (store : TimedStore) → TimedSheet list store → (ranks tape output : List ℕ)
    → length ranks ≤ 64 → falls ranks ≡ false → (tape' : List ℕ) (x : ℕ)
    → ((timed_board clubs store ranks tape output).answer ≡ Err Rank)
    ↔ ((k : ℕ) × (k < length ranks) × ((timed_reading clubs store (get_or ranks k 0) (get_or ranks k 0) tape' (x ∷ [])).answer ≡ Err Rank))
timed_board_rank = boards.board_rank (timed clubs) clubs_timed as_plain (timed_as_plain (timed_view clubs) 1024)

pub timed_board_untouched : (store : TimedStore) (ranks tape output : List ℕ) (cause : Cause)
    → (timed_board clubs store ranks tape output).answer ≡ Err cause → (timed_board clubs store ranks tape output).output ≡ output
timed_board_untouched = boards.board_untouched (timed clubs) clubs_timed as_plain (timed_as_plain (timed_view clubs) 1024)

-- ---- mending

-- There is at most one sheet with the slots and the size parameter of a store.
pub at_most_one : (store : PlainStore) (v w : Mendable (plain_view clubs) (plain_store clubs) store)
    → lay_plain clubs v.list v.shape ≡ lay_plain clubs w.list w.shape
at_most_one = mending.at_most_one clubs_roomy (plain_view clubs) (plain_store clubs)

-- Mending puts it in, and returns N,
pub mended_made : (store : PlainStore) → PlainLengths clubs store → (m : Mendable (plain_view clubs) (plain_store clubs) store)
    → mended (plain_view clubs) (plain_store clubs) store
    ≡ record { answer = Ok (Mended (length m.list)); store = lay_plain clubs m.list m.shape; output = [] }
mended_made store right =
    mending.mended_made clubs_roomy (plain_view clubs) (plain_store clubs) clubs_lawful.view store (plain_right clubs store right)

-- is refused by cause 18 exactly when there is none,
pub mended_refused : (store : PlainStore) → PlainLengths clubs store
    → ((mended (plain_view clubs) (plain_store clubs) store).answer ≡ Err NotMendable) ↔ (Mendable (plain_view clubs) (plain_store clubs) store → ⊥)
mended_refused store right =
    mending.mended_refused clubs_roomy (plain_view clubs) (plain_store clubs) clubs_lawful.view store (plain_right clubs store right)

-- leaves a sheet of as many entries as it returns, of which all that is said of sheets holds,
pub mended_sheet : (store : PlainStore) (n : ℕ) → (mended (plain_view clubs) (plain_store clubs) store).answer ≡ Ok (Mended n)
    → (list : List ℕ) × ClubSheet list (mended (plain_view clubs) (plain_store clubs) store).store × (length list ≡ n)
mended_sheet = mending.mended_sheet clubs_roomy (plain_view clubs) (plain_store clubs) clubs_lawful.view

-- and lets a sheet through unaltered.
pub sheet_unaltered : (store : PlainStore) (list : List ℕ) → ClubSheet list store
    → mended (plain_view clubs) (plain_store clubs) store ≡ record { answer = Ok (Mended (length list)); store = store; output = [] }
sheet_unaltered = mending.sheet_unaltered clubs_roomy (plain_view clubs) (plain_store clubs) clubs_lawful.view

-- A store of the size parameter 0 is mendable exactly when every slot is 0.
pub mendable_zero : (store : PlainStore) → size_of store.sheet ≡ 0
    → Mendable (plain_view clubs) (plain_store clubs) store ↔ (store.sheet.slots ≡ replicate 4224 0)
mendable_zero = mending.mendable_zero clubs_roomy (plain_view clubs) (plain_store clubs) clubs_lawful.view

-- The same of timed sheets.
pub timed_at_most_one : (store : TimedStore) (v w : Mendable (timed_view clubs) (timed_store clubs) store)
    → lay_timed clubs v.list v.shape ≡ lay_timed clubs w.list w.shape
timed_at_most_one = mending.at_most_one clubs_roomy (timed_view clubs) (timed_store clubs)

pub timed_mended_made : (store : TimedStore) → TimedLengths clubs store → (m : Mendable (timed_view clubs) (timed_store clubs) store)
    → mended (timed_view clubs) (timed_store clubs) store
    ≡ record { answer = Ok (Mended (length m.list)); store = lay_timed clubs m.list m.shape; output = [] }
timed_mended_made store right =
    mending.mended_made clubs_roomy (timed_view clubs) (timed_store clubs) clubs_timed.view store (timed_right clubs store right)

pub timed_mended_refused : (store : TimedStore) → TimedLengths clubs store
    → ((mended (timed_view clubs) (timed_store clubs) store).answer ≡ Err NotMendable) ↔ (Mendable (timed_view clubs) (timed_store clubs) store → ⊥)
timed_mended_refused store right =
    mending.mended_refused clubs_roomy (timed_view clubs) (timed_store clubs) clubs_timed.view store (timed_right clubs store right)

pub timed_mended_sheet : (store : TimedStore) (n : ℕ) → (mended (timed_view clubs) (timed_store clubs) store).answer ≡ Ok (Mended n)
    → (list : List ℕ) × TimedSheet list (mended (timed_view clubs) (timed_store clubs) store).store × (length list ≡ n)
timed_mended_sheet = mending.mended_sheet clubs_roomy (timed_view clubs) (timed_store clubs) clubs_timed.view

pub timed_sheet_unaltered : (store : TimedStore) (list : List ℕ) → TimedSheet list store
    → mended (timed_view clubs) (timed_store clubs) store ≡ record { answer = Ok (Mended (length list)); store = store; output = [] }
timed_sheet_unaltered = mending.sheet_unaltered clubs_roomy (timed_view clubs) (timed_store clubs) clubs_timed.view

pub timed_mendable_zero : (store : TimedStore) → size_of store.sheet.sheet ≡ 0
    → Mendable (timed_view clubs) (timed_store clubs) store ↔ (store.sheet.sheet.slots ≡ replicate 4224 0)
timed_mendable_zero = mending.mendable_zero clubs_roomy (timed_view clubs) (timed_store clubs) clubs_timed.view

-- ---- the program

-- However the input is divided into chunks, chunk by chunk the answers to its lines are given, and what is kept at the end is what these
-- lines leave. A line buffer has more than the 130 bytes of the longest frame. `answer_lines` of frame_chunks is proved to answer a chunk so.
pub input_answered : (chunks : List (List ℕ)) (line : List ℕ) → 130 < length line → (k : Kept)
    → ((input_outcome chunks line 0 k).answers ≡ answers_to (lines_of (joined chunks)) k)
    × ((input_outcome chunks line 0 k).end.kept ≡ kept_after (lines_of (joined chunks)) k)
input_answered = input.chunks_answered

-- The store after the lines is the last store of the calls that their frames ask, each with the tape waiting then.
pub session_store : (lines : List (List ℕ)) (k : Kept) → (kept_after lines k).store ≡ last_store (plain clubs) (sent_over lines k) k.store
session_store = session.session_store

-- The words that the calls read, and then those that still wait, are those that waited and then those that the lines brought: each is read
-- at most once, in order.
pub words_once : (lines : List (List ℕ)) (k : Kept) → TapeReady k
    → read_over lines k ++ waiting_words (kept_after lines k) ≡ waiting_words k ++ brought_over lines k
words_once = session.words_once

-- A session whose answers have no 07 leaves, whatever the words, the store with which the course ends, of the history of the calls that its
-- lines ask, whose faces the words decide; and a sheet of the list at the end of this history.
pub session_words : (lines : List (List ℕ)) → NoneSays07 lines at_start → (final : PlainStore)
    → Follows (history (plain clubs) (calls_in lines) zeros) (faces_sent (plain clubs) (clearing (plain clubs) ∷ sent_over lines at_start) zeros) final
    ↔ (final ≡ (kept_after lines at_start).store)
session_words = session-history.session_words

pub session_sheet : (lines : List (List ℕ)) → NoneSays07 lines at_start → ClubSheet (list_at_end (plain clubs) (calls_in lines)) (kept_after lines at_start).store
session_sheet = session-history.session_sheet
