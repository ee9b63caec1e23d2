-- Every reply that the program gives fits its line, so that it can be read back.
use Rattle.std.specs.Prelude.{Option, Some, None, ◌≡◌, refl, Bool, true, not, ◌&&◌, ◌≢◌, eqb, length, replicate}
use mathlib.Core.List.{List, [], ◌∷◌, ◌++◌}
use Prim.Native.Nat.{ℕ, zero, suc, ◌+◌, ◌-◌, ◌*◌, ◌^◌, ◌≤◌, ◌<◌}
use Rattle.std.proofs.Math.Nat.{mul-le-mul}
use native.Mathlib.Omega.{arith}
use borrow.Author.Tests.{eqb-false, not-true}
use Rattle.std.proofs.Math.ListN.{get_or, take, drop}
use Rattle.base.specs.BoolLaws.{and_both}
use Rattle.base.specs.CaseLaws.{by_eq, by_lt}
use Rattle.base.specs.Lists.{Every}
use Rattle.base.specs.ListLaws.{every_append, every_take, every_drop, every_replicate, every_at}
use Rattle.tree_sizes.specs.Sizes.{height, leaf_slots}
use Rattle.store_layout.specs.Leaf.{nonzero}
use Rattle.store_layout.specs.Decode.{numbered, list_of}
use Rattle.store_layout.specs.NumberedLaws.{every_numbered}
use Rattle.store_layout.specs.RoomLaws.{counts_enough}
use Rattle.store_layout.proofs.SheetLaws.{decoded, decode_sound, size_known}
use Rattle.store_ties.specs.ExactLaws.{placing_most}
use Rattle.call_outcomes.specs.Returns.{returned}
use Rattle.call_outcomes.specs.Kind.{clear}
use Rattle.call_outcomes.specs.Outcome.{outcome}
use Rattle.call_outcomes.specs.DecisionLaws.{question_outcome}
use Rattle.call_outcomes.specs.AnswerLaws.{number_fits, number_accepted}
use Rattle.call_outcomes.specs.PlainCalls.{read_ranks, place_of, count_of, reply_to, written_for, insert, delete, read, place, check}
use Rattle.call_outcomes.specs.Plain.{plain, PlainStore}
use Rattle.call_outcomes.specs.PlainCallLaws.{place_within}
use Rattle.call_outcomes.proofs.AcceptedLaws.{question_decoded, question_free, entries_most}
use Rattle.call_outcomes.specs.Clubs.{clubs}
use Rattle.call_outcomes.proofs.ClubsLaws.{clubs_roomy}
use Rattle.frame_lines.specs.declared.Frame.{Frame}
use Rattle.frame_lines.specs.declared.Frame.TheVariants.{Insert, Delete, Read, Tape, Print, Clear, Place}
use Rattle.frame_tape.specs.Tape.{most_waiting}
use Rattle.frame_replies.specs.ReadBack.{EntriesFit, BriefFits, Writable}
use Rattle.frame_answers.specs.Step.{Kept, Answered, entry_count, refusal, keeping, changed_by, changed, read_reply, read_line, place_reply, place_line, clear_line, cleared, taped, leaf_reply, leaf_replies, leaves_of, sheet_replies, print_replies, print_lines, answer_to}
use Rattle.frame_answers.specs.Fits.{StoreFits}
use Rattle.frame_answers.specs.QuestionLaws.{sheet_asked}

-- ---- numbers

entries_fit : (P : ℕ → Type 0) (slots : List ℕ) → Every P slots → Every P (nonzero slots)
unfolding Every nonzero
entries_fit P [] p = tt
entries_fit P (zero ∷ slots) p = entries_fit P slots p.1
entries_fit P (suc x ∷ slots) p = (p.0, entries_fit P slots p.1)

-- the count of entries that a store has
module _ (store : PlainStore) (f : StoreFits store.sheet) where
  count_fits : entry_count store < 2 ^ 16
  unfolding entry_count
  count_fits = every_at (λ (x : ℕ). x < 2 ^ 16) store.sheet.counts 1 0 f.counts (omega arith)

-- ---- brief answers

-- the first byte is none of a line of a print, and none of an answer that has more where the call is accepted
unfoldable plain_test : ℕ → Bool
plain_test kind = not (eqb kind 144) && (not (eqb kind 145) && (not (eqb kind 131) && not (eqb kind 135)))

module _ (kind number n : ℕ) (kind_fits : kind < 2 ^ 8) (number_is : number < 2 ^ 8) (n_is : n < 2 ^ 16) where
  brief_plain : plain_test kind ≡ true → BriefFits kind number n
  unfolding plain_test
  brief_plain e =
      let a = and_both (not (eqb kind 144)) _ e in
      let b = and_both (not (eqb kind 145)) _ a.1 in
      let c = and_both (not (eqb kind 131)) (not (eqb kind 135)) b.1 in
      record {
        first_fits = kind_fits;
        cause_fits = number_is;
        n_fits = n_is;
        no_sheet = eqb-false kind 144 (not-true _ a.0);
        no_leaf = eqb-false kind 145 (not-true _ b.0);
        refused_read = λ is. absurd (eqb-false kind 131 (not-true _ c.0) is);
        refused_place = λ is. absurd (eqb-false kind 135 (not-true _ c.1) is);
      }

  brief_refused : kind ≢ 144 → kind ≢ 145 → number ≢ 0 → BriefFits kind number n
  brief_refused no_sheet no_leaf refused = record {
    first_fits = kind_fits;
    cause_fits = number_is;
    n_fits = n_is;
    no_sheet = no_sheet;
    no_leaf = no_leaf;
    refused_read = λ is. refused;
    refused_place = λ is. refused;
  }

-- ---- the calls whose answers have more

module _ (store : PlainStore) (f : StoreFits store.sheet) where
  abbrev Fits64 : ℕ → Type 0
  Fits64 x = x < 2 ^ 64

  abbrev Fits16 : ℕ → Type 0
  Fits16 x = x < 2 ^ 16

  -- the entries of an accepted read stand in the slots
  read_fits : (first last room : ℕ) → (returned (outcome (plain clubs) (read first last room) [] store (replicate room 0)).answer).number ≡ 0
      → EntriesFit (take (returned (outcome (plain clubs) (read first last room) [] store (replicate room 0)).answer).first
      (outcome (plain clubs) (read first last room) [] store (replicate room 0)).output)
  unfolding EntriesFit list_of reply_to written_for
  read_fits first last room zero_is =
      let q = read_ranks first last room in
      let a = number_accepted (plain clubs) (read first last room) [] store (replicate room 0) zero_is in
      let list = a.0.list in
      let list-fits : Every Fits64 list = rw (decoded clubs store.sheet a.0 (question_decoded clubs store.sheet a.0 q (sheet_asked store a.0 q a.1))).1
      (entries_fit Fits64 store.sheet.slots f.slots) in
      let taken = take (last - first + 1) (drop first list) in
      let taken-fits : Every Fits64 taken = every_take Fits64 (last - first + 1) (drop first list) (every_drop Fits64 first list list-fits) in
      let rest : List ℕ = drop (length taken) (replicate room 0) in
      let rest-fits : Every Fits64 rest = every_drop Fits64 (length taken) (replicate room 0) (every_replicate Fits64 room 0 (omega arith)) in
      rw (question_outcome (plain clubs) q [] store (replicate room 0) a.0 a.1)
      (every_take Fits64 (last - first + 1) (taken ++ rest) (every_append Fits64 taken rest taken-fits rest-fits))

  -- a place is no more than the entries that there is room for, and so is every place that its group shares
  place_fits : (rank : ℕ) → (returned (outcome (plain clubs) (place rank) [] store []).answer).number ≡ 0
      → Fits16 (returned (outcome (plain clubs) (place rank) [] store []).answer).first
      × ((returned (outcome (plain clubs) (place rank) [] store []).answer).second < 2 ^ 32)
      × Fits16 (returned (outcome (plain clubs) (place rank) [] store []).answer).third
  unfolding reply_to
  place_fits rank zero_is =
      let q = place_of rank in
      let a = number_accepted (plain clubs) (place rank) [] store [] zero_is in
      let asked = sheet_asked store a.0 q a.1 in
      let room = entries_most clubs store.sheet a.0 q asked in
      let most = placing_most a.0.list rank (place_within rank _ (question_free clubs store.sheet a.0 q asked)) in
      rw (question_outcome (plain clubs) q [] store [] a.0 a.1)
      (omega (arith, most.0, room), omega (arith, most.1, mul-le-mul room room), omega (arith, most.2, room))

  -- the size parameter of a sheet
  size_most : (returned (outcome (plain clubs) check [] store []).answer).number ≡ 0 → get_or store.sheet.counts 0 0 ≤ 2 * clubs.entries - 1
  size_most zero_is =
      let a = number_accepted (plain clubs) check [] store [] zero_is in
      let found = question_decoded clubs store.sheet a.0 count_of (sheet_asked store a.0 count_of a.1) in
      let valid = (decode_sound clubs store.sheet a.0 found).0 in
      omega (arith, size_known clubs store.sheet a.0 found, valid.shape.allowed.most, valid.room)

  leaves_fit : (s first j k : ℕ) → j + k ≤ 2 ^ 16 → Every Writable (leaf_replies store.sheet.slots (numbered store.sheet) s first j k)
  unfolding leaf_replies leaf_reply Every Writable EntriesFit
  leaves_fit s first j zero l = tt
  leaves_fit s first j (suc k) l = (
    (
      omega arith,
      every_at Fits16 (numbered store.sheet) (first + j) 0 (every_numbered store.sheet Fits16 f.counts (omega arith)) (omega arith),
      every_take Fits64 s (drop (j * s) store.sheet.slots) (every_drop Fits64 (j * s) store.sheet.slots f.slots),
    ),
    leaves_fit s first (suc j) k (omega arith),
  )

  leaves_few : (m : ℕ) → m ≤ 2 * clubs.entries - 1 → leaves_of m ≤ 2 ^ 16
  unfolding leaves_of
  leaves_few m l =
      by_eq (λ (k : ℕ). k ≤ 2 ^ 16) m 0 0 (2 ^ height m) (λ e. omega arith) (λ e. omega (arith, counts_enough clubs clubs_roomy m l))

  sheet_fits : get_or store.sheet.counts 0 0 ≤ 2 * clubs.entries - 1 → Every Writable (sheet_replies store.sheet)
  unfolding sheet_replies entry_count Every Writable
  sheet_fits l =
      let m = get_or store.sheet.counts 0 0 in
      ((omega (arith, l), count_fits store f), leaves_fit (leaf_slots m) (2 ^ height m) 0 (leaves_of m) (omega (arith, leaves_few m l)))

-- ---- all replies

-- Where the slots and counts before and after fit their widths, every reply fits its line.
pub replies_writable : (frame : Option Frame) (line : List ℕ) (k : Kept) → StoreFits k.store.sheet → StoreFits (answer_to frame line k).kept.store.sheet
    → Every Writable (answer_to frame line k).replies
unfolding answer_to refusal keeping changed changed_by read_line read_reply place_line place_reply cleared clear_line taped print_lines print_replies Every Writable plain_test
replies_writable (Some (Insert rank entry)) line k f g =
    let o = outcome (plain clubs) (insert rank entry) (take k.waiting k.tape) k.store [] in
    (brief_plain 129 _ _ (omega arith) (number_fits o.answer) (count_fits o.store g) refl, tt)
replies_writable (Some (Delete rank)) line k f g =
    let o = outcome (plain clubs) (delete rank) (take k.waiting k.tape) k.store [] in
    (brief_plain 130 _ _ (omega arith) (number_fits o.answer) (count_fits o.store g) refl, tt)
replies_writable (Some (Read first last)) line k f g =
    let o = outcome (plain clubs) (read first last 64) [] k.store (replicate 64 0) in (
      by_eq Writable (returned o.answer).number 0 _ _
          (λ yes. (count_fits k.store f, read_fits k.store f first last 64 yes))
          (brief_refused 131 _ _ (omega arith) (number_fits o.answer) (count_fits k.store f) (λ e. omega arith) (λ e. omega arith)),
      tt,
    )
replies_writable (Some (Tape words)) line k f g =
    by_lt (λ (a : Answered). Every Writable a.replies) most_waiting (k.waiting + words) _ _
    (λ full. (brief_plain 132 _ _ (omega arith) (omega arith) (count_fits k.store f) refl, tt))
    (λ room. (brief_plain 132 0 _ (omega arith) (omega arith) (count_fits k.store f) refl, tt))
replies_writable (Some Print) line k f g =
    let o = outcome (plain clubs) check [] k.store [] in (
      brief_plain 133 _ _ (omega arith) (number_fits o.answer) (count_fits k.store f) refl,
      by_eq (Every Writable) (returned o.answer).number 0 _ _ (λ yes. sheet_fits k.store f (size_most k.store f yes)) (λ no. tt),
    )
replies_writable (Some Clear) line k f g =
    let o = outcome (plain clubs) clear [] k.store [] in
    (brief_plain 134 _ _ (omega arith) (number_fits o.answer) (count_fits o.store g) refl, tt)
replies_writable (Some (Place rank)) line k f g =
    let o = outcome (plain clubs) (place rank) [] k.store [] in (
      by_eq Writable (returned o.answer).number 0 _ _
          (λ yes. let p = place_fits k.store f rank yes in (count_fits k.store f, p.0, p.1, p.2))
          (brief_refused 135 _ _ (omega arith) (number_fits o.answer) (count_fits k.store f) (λ e. omega arith) (λ e. omega arith)),
      tt,
    )
replies_writable None line k f g = (brief_plain 255 _ _ (omega arith) (omega arith) (count_fits k.store f) refl, tt)
