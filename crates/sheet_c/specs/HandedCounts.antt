-- What a conversion made by a C program returns and leaves: the number, the counts and the answer slice. Definitions only.
use Rattle.std.specs.Prelude.{List, ℕ, length}
use Rattle.base.specs.Cases.{if_lt}
use Rattle.call_outcomes.specs.Returns.{returned}
use Rattle.call_outcomes.specs.Clubs.{clubs}
use Rattle.call_handed.specs.Handed.{filled}
use Rattle.call_orders.specs.Conversion.{Conversion, conversion}

pub record HandedCounts : Type 0 where
  pub number : ℕ
  pub counts : List ℕ
  pub answer : List ℕ

-- A conversion of the counts, handed over in an answer slice.
unfoldable pub handed_counts_by : Conversion → List ℕ → HandedCounts
handed_counts_by c answer = record {
  number = (returned c.answer).number;
  counts = c.counts;
  answer = filled 2 (returned c.answer) answer;
}

-- The conversion, where the answer slice has room for two values; otherwise the number 255, and nothing changes.
unfoldable pub handed_conversion : (List ℕ → List ℕ) → List ℕ → List ℕ → HandedCounts
handed_conversion convert counts answer =
    if_lt (length answer) 2 (record { number = 255; counts = counts; answer = answer }) (handed_counts_by (conversion clubs convert counts) answer)
