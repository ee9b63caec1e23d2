-- The answer to a change, and what a change leaves outside of its part, by what became of it. Definitions only.
use Rattle.std.specs.Prelude.{Option, Some, None, Result, Ok, Err, ◌≡◌, List, ◌≢◌, ℕ, ◌+◌, get_or, take, drop}
use Rattle.tree_counts.specs.declared.Part.{Part}
use Rattle.store_part.specs.Plan.{part_from, part_length, PartIn}
use Rattle.call_outcomes.specs.declared.Cause.TheVariants.{TapeEnded}
use Rattle.call_outcomes.specs.declared.Cause.{Cause}
use Rattle.call_outcomes.specs.declared.Answer.{Answer}
use Rattle.call_outcomes.specs.declared.Answer.TheVariants.{Changed}
use Rattle.sheet_change.specs.declared.Made.{Made}

abbrev pub answer_to : Option Made → Result Answer Cause
answer_to (Some made) = Ok (Changed made.n made.words)
answer_to None = Err TapeEnded

-- A change of a sheet with the size parameter m left one with the size parameter m'; unless the part is the whole sheet, the size parameter and the
-- slots outside of the part are kept.
pub record PartMade (m m' : ℕ) (part : Part) (slots slots' counts' : List ℕ) : Type 0 where
  pub size : get_or counts' 0 0 ≡ m'
  pub inside : PartIn m' part
  pub size_kept : part.range ≢ 1 → m' ≡ m
  pub before : part.range ≢ 1 → take (part_from m' part) slots ≡ take (part_from m' part) slots'
  pub behind : part.range ≢ 1 → drop (part_from m' part + part_length m' part) slots ≡ drop (part_from m' part + part_length m' part) slots'

abbrev pub MadeIn : ℕ → List ℕ → Option Made → List ℕ → List ℕ → Type 0
MadeIn m slots (Some made) slots' counts' = PartMade m made.m made.part slots slots' counts'
MadeIn m slots None slots' counts' = Unit {0}
