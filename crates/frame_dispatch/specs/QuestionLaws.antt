-- A frame that only asks is answered, and everything is kept.
use Rattle.std.specs.Prelude.{Option, Some, None, ◌≡◌, List, [], ℕ, get_or, replicate}
use Rattle.call_outcomes.specs.declared.Cause.TheVariants as cause
use Rattle.call_outcomes.specs.Returns.{cause_number}
use Rattle.call_outcomes.specs.Outcome.{outcome}
use Rattle.call_outcomes.specs.PlainCalls as call
use Rattle.call_outcomes.specs.Plain.{plain, PlainStore, plain_store_of}
use Rattle.call_outcomes.specs.Clubs.{clubs}
use Rattle.frame_lines.specs.declared.Frame.{Frame}
use Rattle.frame_lines.specs.declared.Frame.TheVariants.{Insert, Delete, Read, Tape, Print, Clear, Place}
use Rattle.frame_replies.specs.Reply.{brief, line_of, bytes_of}
use Rattle.frame_replies.specs.Wrote.{Wrote}
use Rattle.frame_answers.specs.Step.{answer_to, refusal, keeping, entry_count, read_line, place_line, print_lines}
use Rattle.frame_answers.specs.StepLaws.{one_line, printed_gives}
use Rattle.frame_answers.specs.Gives.{kept_of, Gives}
use Rattle.frame_dispatch.specs.Question.{Asks, replies_to}

-- ---- what the answer is, by the frame

abbrev Replied : Option Frame → PlainStore → List ℕ → List ℕ → ℕ → Type 0
Replied frame store old new r = Wrote old 0 (bytes_of (replies_to frame store)) new r

module _ (slots counts tallies : List ℕ) {frame : Option Frame} {old new : List ℕ} {r : ℕ} where
  pub read_replied : {first last : ℕ} → frame ≡ Some (Read first last)
      → Wrote old 0 (line_of (read_line (outcome (plain clubs) (call.read first last 64) [] (plain_store_of slots counts tallies) (replicate 64 0)) (plain_store_of slots counts tallies))) new r
      → Replied frame (plain_store_of slots counts tallies) old new r
  unfolding replies_to answer_to keeping
  read_replied e w = rw e (one_line _ w)

  pub print_replied : frame ≡ Some Print
      → Wrote old 0 (bytes_of (print_lines (outcome (plain clubs) call.check [] (plain_store_of slots counts tallies) []) (plain_store_of slots counts tallies))) new r
      → Replied frame (plain_store_of slots counts tallies) old new r
  unfolding replies_to answer_to
  print_replied e w = rw e w

  pub place_replied : {rank : ℕ} → frame ≡ Some (Place rank)
      → Wrote old 0 (line_of (place_line (outcome (plain clubs) (call.place rank) [] (plain_store_of slots counts tallies) []) (plain_store_of slots counts tallies))) new r
      → Replied frame (plain_store_of slots counts tallies) old new r
  unfolding replies_to answer_to keeping
  place_replied e w = rw e (one_line _ w)

  pub none_replied : frame ≡ None → Wrote old 0 (line_of (brief 255 (cause_number cause.NoFrame) (get_or counts 1 0))) new r
      → Replied frame (plain_store_of slots counts tallies) old new r
  unfolding replies_to answer_to refusal keeping entry_count
  none_replied e w = rw e (one_line _ w)

-- ---- what is kept

pub question_gives : (frame : Option Frame) (line : List ℕ) (store : PlainStore) → Asks frame → {tape output output' : List ℕ} {waiting bytes : ℕ}
    → Replied frame store output output' bytes
    → Gives (answer_to frame line (kept_of store tape waiting)) output bytes waiting store tape output'
unfolding Asks replies_to answer_to keeping
question_gives (Some (Insert rank entry)) line store a w = absurd a
question_gives (Some (Delete rank)) line store a w = absurd a
question_gives (Some (Read first last)) line store a w = printed_gives _ w
question_gives (Some (Tape words)) line store a w = absurd a
question_gives (Some Print) line store a w = printed_gives _ w
question_gives (Some Clear) line store a w = absurd a
question_gives (Some (Place rank)) line store a w = printed_gives _ w
question_gives None line store a w = printed_gives _ w
