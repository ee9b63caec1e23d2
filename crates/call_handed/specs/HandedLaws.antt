-- The values in an answer slice, and when an outcome is handed over.
use Rattle.std.specs.Prelude.{Result, ◌≡◌, ℕ, ◌≤◌, ◌<◌, length, set}
use Rattle.std.proofs.Math.Path.{refl, sym}
use mathlib.Core.List.{List, [], ◌∷◌}
use Rattle.std.proofs.Common.{arith}
use Rattle.base.specs.CaseLaws.{if_lt_yes, if_lt_no}
use Rattle.call_outcomes.specs.declared.Cause.{Cause}
use Rattle.call_outcomes.specs.declared.Returned.{Returned}
use Rattle.call_outcomes.specs.declared.Answer.{Answer}
use Rattle.call_outcomes.specs.Returns.{returned}
use Rattle.call_outcomes.specs.Outcome.{Outcome}
use Rattle.call_handed.specs.Handed.{filled, handed_by, handed_over}

-- ---- the values in the answer slice

module _ (back : Returned) where
  -- two values
  pub filled_two : (answer : List ℕ) → 2 ≤ length answer → set (set answer 0 back.first) 1 back.second ≡ filled 2 back answer
  unfolding filled
  filled_two [] l = absurd (omega arith)
  filled_two (x ∷ []) l = absurd (omega arith)
  filled_two (x ∷ y ∷ rest) l = refl

  -- three values
  pub filled_three : (answer : List ℕ) → 3 ≤ length answer
      → set (set (set answer 0 back.first) 1 back.second) 2 back.third ≡ filled 3 back answer
  unfolding filled
  filled_three [] l = absurd (omega arith)
  filled_three (x ∷ []) l = absurd (omega arith)
  filled_three (x ∷ y ∷ []) l = absurd (omega arith)
  filled_three (x ∷ y ∷ z ∷ rest) l = refl

-- ---- the outcome

module _ {S : Type 0} (values : ℕ) (o : Outcome S) (store : S) (output answer : List ℕ) where
  -- an answer slice that is too short
  pub handed_short : length answer < values
      → record { number = 255; store = store; output = output; answer = answer } ≡ handed_over values o store output answer
  unfolding handed_over
  handed_short l = sym (if_lt_yes (length answer) values _ _ l)

  -- an answer slice with room
  pub handed_done : {given : Result Answer Cause} {store' : S} {output' : List ℕ} {back : Returned} {r : ℕ} {answer' : List ℕ} → values ≤ length answer
      → record { answer = given; store = store'; output = output' } ≡ o
      → back ≡ returned given → (r ≡ back.number) × (answer' ≡ filled values back answer)
      → record { number = r; store = store'; output = output'; answer = answer' } ≡ handed_over values o store output answer
  unfolding handed_over handed_by
  handed_done l is b h = rw (h.0, h.1, if_lt_no (length answer) values _ (handed_by values o answer) l, ← is, b)
