-- What is left of the counts with 16 bits where a sheet was found. Definitions only.
use Rattle.std.specs.Prelude.{Result, Ok, List, ◌≡◌, ℕ}
use Rattle.call_outcomes.specs.declared.Cause.{Cause}
use Rattle.call_open.specs.declared.Opened.{Opened}

-- The numbers with 32 bits are the counts of the store as they stand.
pub record Widened (found : Result Opened Cause) (counts counts32 : List ℕ) : Type 0 where
  pub same : {sheet : Opened} → found ≡ Ok sheet → counts32 ≡ counts
