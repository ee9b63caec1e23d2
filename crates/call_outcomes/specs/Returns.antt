-- The numbers and values that an answer returns (document 01, "Causes and numbers"; document 02, F-1, F-3, F-9 and F-13). Definitions only.
use Rattle.std.specs.Prelude.{Result, Ok, Err, ℕ}
use Rattle.call_outcomes.specs.declared.Cause.{Cause}
use Rattle.call_outcomes.specs.declared.Cause.TheVariants as cause
use Rattle.call_outcomes.specs.declared.Returned.{Returned}
use Rattle.call_outcomes.specs.declared.Answer.{Answer}
use Rattle.call_outcomes.specs.declared.Answer.TheVariants as answer

-- The number of a cause.
abbrev pub cause_number : Cause → ℕ
cause_number cause.Lengths = 1
cause_number cause.NotMendable = 18
cause_number cause.NotASheet = 2
cause_number cause.NotTimed = 11
cause_number cause.BoardRanks = 16
cause_number cause.EntryZero = 3
cause_number cause.EntryPresent = 10
cause_number cause.Rank = 4
cause_number cause.Full = 5
cause_number cause.OutputShort = 6
cause_number cause.TapeEnded = 7
cause_number cause.NoFrame = 8
cause_number cause.TapeFull = 9

-- What an accepted call returns: the number 0 and three values, 0 where there are fewer.
abbrev pub accepted : Answer → Returned
accepted answer.Cleared = record { number = 0; first = 0; second = 0; third = 0 }
accepted (answer.Changed n words) = record { number = 0; first = n; second = words; third = 0 }
accepted (answer.Entries count) = record { number = 0; first = count; second = 0; third = 0 }
accepted (answer.Placed place sum boats) = record { number = 0; first = place; second = sum; third = boats }
accepted (answer.Checked n) = record { number = 0; first = n; second = 0; third = 0 }
accepted (answer.Present rank) = record { number = 0; first = 1; second = rank; third = 0 }
accepted (answer.Absent rank) = record { number = 0; first = 0; second = rank; third = 0 }
accepted (answer.Converted m) = record { number = 0; first = m; second = 0; third = 0 }
accepted (answer.Mended n) = record { number = 0; first = n; second = 0; third = 0 }

-- What is returned: that, or the number of the cause and three zeros.
abbrev pub returned : Result Answer Cause → Returned
returned (Ok answer) = accepted answer
returned (Err cause) = record { number = cause_number cause; first = 0; second = 0; third = 0 }
