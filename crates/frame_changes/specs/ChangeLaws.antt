-- What the answer to an insert or a delete comes to, told by what its call left.
use Rattle.std.specs.Prelude.{Result, ◌≡◌, List, [], ℕ, ◌-◌, ◌≤◌, length, get_or, take}
use Rattle.std.proofs.Common.{length-take-le}
use Rattle.tree_rules.specs.declared.Change.{Change}
use Rattle.call_outcomes.specs.declared.Cause.{Cause}
use Rattle.call_outcomes.specs.declared.Returned.{Returned}
use Rattle.call_outcomes.specs.declared.Answer.{Answer}
use Rattle.call_outcomes.specs.Returns.{returned}
use Rattle.call_outcomes.specs.Outcome.{outcome}
use Rattle.call_outcomes.specs.AnswerLaws.{words_within}
use Rattle.call_outcomes.specs.PlainCalls.{plain_change, changing}
use Rattle.call_outcomes.specs.Plain.{plain, PlainStore, plain_store_of, plain_outcome_of}
use Rattle.call_outcomes.specs.Clubs.{clubs}
use Rattle.frame_replies.specs.Reply.{brief, line_of}
use Rattle.frame_replies.specs.Wrote.{Wrote}
use Rattle.frame_tape.specs.Tape.{read_off}
use Rattle.frame_answers.specs.Step.{entry_count, changed_by, changed}
use Rattle.frame_answers.specs.Gives.{kept_of, Gives}
use Rattle.frame_answers.specs.StepLaws.{one_line}

pub change_gives : (kind waiting : ℕ) (back : Returned) (slots counts tallies tape tape' : List ℕ) {output output' : List ℕ} {bytes : ℕ}
    → tape' ≡ read_off back.second tape
    → Wrote output 0 (line_of (brief kind back.number (get_or counts 1 0))) output' bytes
    → Gives (changed_by kind (kept_of (plain_store_of slots counts tallies) tape waiting) back (plain_store_of slots counts tallies)) output bytes (waiting - back.second)
    (plain_store_of slots counts tallies) tape' output'
unfolding changed_by entry_count
change_gives kind waiting back slots counts tallies tape tape' e w = record { kept = rw e; wrote = one_line _ w }

module _ (change : Change) (e : ℕ) (store : PlainStore) (tape : List ℕ) (waiting : ℕ) (given : Result Answer Cause) (slots counts tallies : List ℕ) (back : Returned)
    (done : plain_outcome_of given slots counts tallies [] ≡ outcome (plain clubs) (changing change e) (take waiting tape) store []) (is : back ≡ returned given) where
  pub changed_gives : (kind : ℕ) {output output' tape' : List ℕ} {bytes waiting' : ℕ} {store' : PlainStore}
      → Gives (changed_by kind (kept_of (plain_store_of slots counts tallies) tape waiting) back (plain_store_of slots counts tallies)) output bytes waiting' store' tape' output'
      → Gives (changed kind (kept_of store tape waiting) (outcome (plain clubs) (changing change e) (take waiting tape) store [])) output bytes waiting' store' tape' output'
  unfolding changed changed_by
  changed_gives kind g = rw (← done) (rw is at g)

  -- no more words are read than wait
  pub words_waiting : waiting ≤ length tape → back.second ≤ waiting
  words_waiting l =
      let most = words_within (plain clubs) (plain_change change e) (take waiting tape) store [] in
      rw (is, ← length-take-le waiting tape l) (rw (← done) at most)
