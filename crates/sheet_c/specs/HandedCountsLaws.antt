-- When a conversion is handed over.
use Rattle.std.specs.Prelude.{Result, ◌≡◌, List, ℕ, ◌≤◌, ◌<◌, length}
use Rattle.std.proofs.Math.Path.{sym}
use Rattle.base.specs.CaseLaws.{if_lt_yes, if_lt_no}
use Rattle.call_outcomes.specs.declared.Cause.{Cause}
use Rattle.call_outcomes.specs.declared.Returned.{Returned}
use Rattle.call_outcomes.specs.declared.Answer.{Answer}
use Rattle.call_outcomes.specs.Returns.{returned}
use Rattle.call_outcomes.specs.Clubs.{clubs}
use Rattle.call_handed.specs.Handed.{filled}
use Rattle.call_orders.specs.Conversion.{conversion}
use Rattle.sheet_c.specs.HandedCounts.{handed_counts_by, handed_conversion}

module _ (convert : List ℕ → List ℕ) (counts answer : List ℕ) where
  -- an answer slice that is too short
  pub conversion_short : length answer < 2 → record { number = 255; counts = counts; answer = answer } ≡ handed_conversion convert counts answer
  unfolding handed_conversion
  conversion_short l = sym (if_lt_yes (length answer) 2 _ _ l)

  -- an answer slice with room
  pub conversion_handed : {given : Result Answer Cause} {counts' : List ℕ} {back : Returned} {r : ℕ} {answer' : List ℕ} → 2 ≤ length answer
      → record { answer = given; counts = counts' } ≡ conversion clubs convert counts
      → back ≡ returned given → (r ≡ back.number) × (answer' ≡ filled 2 back answer)
      → record { number = r; counts = counts'; answer = answer' } ≡ handed_conversion convert counts answer
  unfolding handed_conversion handed_counts_by
  conversion_handed l o b h =
      rw (h.0, h.1, if_lt_no (length answer) 2 _ (handed_counts_by (conversion clubs convert counts) answer) l, ← o, b)
