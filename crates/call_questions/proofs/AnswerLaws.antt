-- The answer to a check, and refusals.
use Rattle.std.specs.Prelude.{Result, Ok, Err, ◌≡◌, List, [], ℕ}
use Rattle.std.proofs.Math.Path.{ap}
use Rattle.call_outcomes.specs.declared.Cause.{Cause}
use Rattle.call_outcomes.specs.declared.Answer.TheVariants.{Checked}
use Rattle.call_outcomes.specs.PlainCalls.{Question, count_of, question_cause, reply_to}
use Rattle.call_open.specs.declared.Opened.{Opened}
use Rattle.call_open.specs.Opening.{admitted}
use Rattle.call_open.specs.ArgumentLaws.{admitted_check}
use Rattle.call_questions.specs.Asked.{Reply, asked_by, asked, Answers}

module _ (q : Question) (found : Result Opened Cause) {cause : Cause} (is : admitted (question_cause q) found ≡ Err cause) where
  pub asked_refused : (list output : List ℕ) → record { answer = Err cause; output = output } ≡ asked q found list output
  unfolding asked asked_by
  asked_refused list output = rw is

  pub answers_refused : Answers q found (Err cause)
  unfolding Answers
  answers_refused list w = ap (λ (r : Reply). r.answer) (asked_refused list [])

pub check_answer : (found : Result Opened Cause) {sheet : Opened} → found ≡ Ok sheet → Answers count_of found (Ok (Checked sheet.n))
unfolding Answers asked asked_by reply_to
check_answer found {sheet} is list w = rw (← admitted_check found, is, ← w sheet is)
