-- What a print comes to, and that its output has room for it.
use Rattle.std.specs.Prelude.{Result, ◌≡◌, ◌≢◌, List, [], take, drop}
use Prim.Native.Nat.{ℕ, suc, ◌+◌, ◌-◌, ◌*◌, ◌^◌, ◌≤◌, ◌<◌}
use native.Mathlib.Omega.{arith}
use Rattle.std.proofs.Common.{add-one, mul-le-mul_right, length-take}
use Rattle.std.proofs.Math.ListN.{length, get_or}
use Rattle.base.specs.CaseLaws.{if_eq_yes, if_eq_no}
use Rattle.tree_sizes.specs.Sizes as sizes
use Rattle.tree_sizes.specs.Sizes.{height, leaf_slots}
use Rattle.tree_sizes.proofs.SizeLaws.{height_most}
use Rattle.store_order.specs.CountOrder.{number_order}
use Rattle.store_layout.specs.Layout.{Store}
use Rattle.store_layout.specs.Decode.{Contents, numbered}
use Rattle.store_layout.proofs.SheetLaws.{decode_sound, size_known}
use Rattle.call_outcomes.specs.declared.Cause.{Cause}
use Rattle.call_outcomes.specs.declared.Returned.{Returned}
use Rattle.call_outcomes.specs.declared.Answer.{Answer}
use Rattle.call_outcomes.specs.Returns.{returned}
use Rattle.call_outcomes.specs.Causes.{accept, decision}
use Rattle.call_outcomes.specs.Outcome.{Outcome, outcome}
use Rattle.call_outcomes.specs.AnswerLaws.{number_accepted}
use Rattle.call_outcomes.specs.PlainCalls.{count_of, check}
use Rattle.call_outcomes.specs.Untallied.{RightLengths, untallied, store_of}
use Rattle.call_outcomes.specs.Plain.{plain, PlainStore, plain_store_of, plain_outcome_of}
use Rattle.call_outcomes.proofs.AcceptedLaws.{question_lengths, question_decoded}
use Rattle.call_outcomes.specs.Clubs.{clubs}
use Rattle.call_outcomes.proofs.ClubsLaws.{clubs_roomy}
use Rattle.frame_replies.specs.Reply.{leaf, sheet, brief, line_of, bytes_of}
use Rattle.frame_replies.specs.DigitLaws.{length_leaf}
use Rattle.frame_replies.specs.Wrote.{Wrote}
use Rattle.frame_replies.specs.WroteLaws.{wrote_length, wrote_more, writing_start, writing_next, writing_done}
use Rattle.frame_answers.specs.Step.{entry_count, leaf_reply, leaf_replies, leaves_of, sheet_replies, print_replies, print_lines, longest}
use Rattle.frame_print.specs.Printed.{PrintReady, leaves_most, LeavesWritten}
use Rattle.frame_answers.specs.QuestionLaws.{sheet_asked}
use Rattle.frame_answers.specs.StepLaws.{one_line}

-- ---- the leaves

-- The count and a slice of the slots, as the code takes them.
pub leaf_wrote : (slots counts : List ℕ) (s first j count : ℕ) {output output' : List ℕ} {at next : ℕ} → count ≡ get_or counts (first + j) 0
    → Wrote output at (line_of (leaf j count (take (j * s + s - j * s) (drop (j * s) slots)))) output' next
    → Wrote output at (line_of (leaf_reply slots counts s first j)) output' next
unfolding leaf_reply
leaf_wrote slots counts s first j count e w =
    let all : j * s + s - j * s ≡ s = omega arith in
    rw (all, e) at w

leaf_most : (slots counts : List ℕ) (s first j : ℕ) → length (line_of (leaf_reply slots counts s first j)) ≤ 11 + 16 * s
unfolding leaf_reply
leaf_most slots counts s first j =
    let part = drop (j * s) slots in
    omega (arith, length_leaf j (get_or counts (first + j) 0) (take s part), length-take s part)

module _ {slots counts : List ℕ} {s k : ℕ} {old : List ℕ} {at : ℕ} where
  pub leaves_start : at + k * (11 + 16 * s) ≤ length old → LeavesWritten slots counts s k old at 0 old at
  leaves_start room =
      let all : k - 0 ≡ k = omega arith in
      record { most = omega arith; writing = rw all (writing_start (omega arith)); room = rw all room }

  module _ {j : ℕ} {new : List ℕ} {next : ℕ} (w : LeavesWritten slots counts s k old at j new next) where
    pub leaves_room : j < k → next + (11 + 16 * s) ≤ length new
    leaves_room l = omega (arith, w.room, mul-le-mul_right (11 + 16 * s) (one_more l))
      where
        one_more : j < k → 1 ≤ k - j
        one_more l = omega arith

    pub leaves_next : j < k → {new' : List ℕ} {next' : ℕ} → Wrote new next (line_of (leaf_reply slots counts s k j)) new' next'
        → LeavesWritten slots counts s k old at (j + 1) new' next'
    unfolding leaf_replies bytes_of
    leaves_next l more =
        let left : k - j ≡ suc (k - suc j) = omega arith in
        let wide = 11 + 16 * s in
        let shorter : (k - j) * wide ≡ (k - suc j) * wide + wide = rw left (omega arith) in
        record {
          most = omega arith;
          writing = rw (add-one j) (writing_next (rw left at w.writing) more);
          room = rw (add-one j) (omega (arith, w.room, shorter, more.end, leaf_most slots counts s k j, wrote_length more));
        }

    pub leaves_done : k ≤ j → Wrote old at (bytes_of (leaf_replies slots counts s k 0 k)) new next
    unfolding leaf_replies bytes_of
    leaves_done l =
        let none : k - j ≡ 0 = omega arith in
        writing_done (rw none at w.writing)

-- ---- the sheet

-- The numbers of the leaves of a sheet, as the code finds them: the slots, the counts and the output have room for them.
pub record LeafNumbers (store : Store) (s leaves : ℕ) : Type 0 where
  pub slots_are : s ≡ leaf_slots (get_or store.counts 0 0)
  pub leaves_are : leaves ≡ 2 ^ height (get_or store.counts 0 0)
  pub slots_fit : leaves * s ≤ length store.slots
  pub counts_fit : 2 * leaves ≤ length store.counts
  pub output_fits : leaves * (11 + 16 * s) ≤ leaves_most store

module _ (store : Store) (sheet : PrintReady store) where
  pub height_fits : height (get_or store.counts 0 0) < 64
  height_fits = omega (arith, height_most (get_or store.counts 0 0) 16 (omega arith) (omega (arith, sheet.size)))

  pub leaf_numbers : (s h leaves : ℕ) → s ≡ leaf_slots (get_or store.counts 0 0) → h ≡ height (get_or store.counts 0 0) → leaves ≡ 2 ^ h
      → LeafNumbers store s leaves
  unfolding sizes.slots leaves_most
  leaf_numbers s h leaves es eh el =
      let m = get_or store.counts 0 0 in
      let two : leaves ≡ 2 ^ height m = rw (← eh) el in
      let fits : leaves * s ≤ length store.slots = rw (two, es) (omega (arith, sheet.slots_fit)) in
      let few : 2 * leaves ≤ length store.counts = rw two sheet.counts_fit in
      record {
        slots_are = es;
        leaves_are = two;
        slots_fit = fits;
        counts_fit = few;
        output_fits = omega (arith, fits, few);
      }

module _ (slots counts : List ℕ) {output middle : List ℕ} {at next : ℕ}
    (first : Wrote output at (line_of (sheet (get_or counts 0 0) (get_or counts 1 0))) middle next) where
  pub sheet_empty : get_or counts 0 0 ≡ 0 → Wrote output at (bytes_of (sheet_replies (store_of slots counts))) middle next
  unfolding sheet_replies leaves_of leaf_replies
  sheet_empty e = rw (if_eq_yes (get_or counts 0 0) 0 _ _ e) (one_line _ first)

  pub sheet_leaves : get_or counts 0 0 ≢ 0 → {s leaves : ℕ} → LeafNumbers (store_of slots counts) s leaves
      → {read : List ℕ} → read ≡ number_order (height (get_or counts 0 0)) counts → {output' : List ℕ} {end : ℕ}
      → Wrote middle next (bytes_of (leaf_replies slots read s leaves 0 leaves)) output' end
      → Wrote output at (bytes_of (sheet_replies (store_of slots counts))) output' end
  unfolding sheet_replies leaves_of bytes_of numbered
  sheet_leaves ne numbers read more =
      rw (if_eq_no (get_or counts 0 0) 0 _ _ ne) (wrote_more first (rw (numbers.slots_are, numbers.leaves_are, read) at more))

-- ---- the answer

module _ {o : Outcome PlainStore} {given : Result Answer Cause} {slots counts tallies : List ℕ} {back : Returned}
    (done : plain_outcome_of given slots counts tallies [] ≡ o) (is : back ≡ returned given) {output middle : List ℕ} {next : ℕ} (first : Wrote output 0 (line_of (brief 133 back.number (get_or counts 1 0))) middle next) where
  pub print_refused : back.number ≢ 0 → Wrote output 0 (bytes_of (print_lines o (plain_store_of slots counts tallies))) middle next
  unfolding print_lines print_replies entry_count
  print_refused ne = rw (← done, ← is, if_eq_no back.number 0 _ _ ne) (one_line _ first)

  pub print_accepted : back.number ≡ 0 → {output' : List ℕ} {end : ℕ} → Wrote middle next (bytes_of (sheet_replies (store_of slots counts))) output' end
      → Wrote output 0 (bytes_of (print_lines o (plain_store_of slots counts tallies))) output' end
  unfolding print_lines print_replies bytes_of entry_count
  print_accepted e more = rw (← done, ← is, if_eq_yes back.number 0 _ _ e) (wrote_more first more)

-- A store that is a sheet of the clubs' can be printed.
module _ (store : PlainStore) (given : Result Answer Cause) (slots counts tallies : List ℕ) (back : Returned)
    (done : plain_outcome_of given slots counts tallies [] ≡ outcome (plain clubs) check [] store []) (is : back ≡ returned given) (zero_is : back.number ≡ 0) where
  checked : (before : Contents) × (decision (untallied clubs) check store.sheet ≡ accept before)
  checked =
      let same : returned (outcome (plain clubs) check [] store []).answer ≡ back = rw (← done, is) in
      let a = number_accepted (plain clubs) check [] store [] (rw same zero_is) in
      (a.0, sheet_asked store a.0 count_of a.1)

  lengths : RightLengths clubs store.sheet
  lengths = question_lengths clubs store.sheet checked.0 count_of checked.1

  pub printable : PrintReady store.sheet
  printable =
      let found = question_decoded clubs store.sheet checked.0 count_of checked.1 in
      let valid = (decode_sound clubs store.sheet checked.0 found).0 in
      let size = size_known clubs store.sheet checked.0 found in
      record {
        size = rw size (omega (arith, valid.shape.allowed.most, valid.room));
        slots_fit = rw (size, lengths.slots) (clubs_roomy.slots_fit _ _ valid.room valid.shape.allowed);
        counts_are = lengths.counts;
        counts_fit = rw (size, lengths.counts) (clubs_roomy.counts_fit _ _ valid.room valid.shape.allowed);
      }

  -- the longest answer has room for its lines
  pub print_room : 20 + leaves_most store.sheet ≤ longest
  unfolding leaves_most
  print_room = rw (lengths.slots, lengths.counts) (omega arith)
