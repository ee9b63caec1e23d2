-- What a call made by a C program returns and leaves, for any kind of sheet: the number, the store, the output and the answer slice.
-- Definitions only.
use Rattle.std.specs.Prelude.{List, [], ◌∷◌, ◌++◌, ℕ, length, take, drop}
use Rattle.base.specs.Cases.{if_lt}
use Rattle.call_outcomes.specs.declared.Returned.{Returned}
use Rattle.call_outcomes.specs.Returns.{returned}
use Rattle.call_outcomes.specs.Kind.{Kind, CallFor, StoreFor}
use Rattle.call_outcomes.specs.Outcome.{Outcome, outcome}

pub record Handed (S : Type 0) : Type 0 where
  pub number : ℕ
  pub store : S
  pub output : List ℕ
  pub answer : List ℕ

-- The first so many of the values, put at the front of the answer slice.
unfoldable pub filled : ℕ → Returned → List ℕ → List ℕ
filled values back answer = take values (back.first ∷ back.second ∷ back.third ∷ []) ++ drop values answer

-- The outcome of a call that hands over so many values, in an answer slice.
unfoldable pub handed_by : {S : Type 0} → ℕ → Outcome S → List ℕ → Handed S
handed_by values o answer = record {
  number = (returned o.answer).number;
  store = o.store;
  output = o.output;
  answer = filled values (returned o.answer) answer;
}

-- The outcome, where the answer slice has room for its values; otherwise the number 255, and store and output stay as they were.
unfoldable pub handed_over : {S : Type 0} → ℕ → Outcome S → S → List ℕ → List ℕ → Handed S
handed_over values o store output answer =
    if_lt (length answer) values (record { number = 255; store = store; output = output; answer = answer }) (handed_by values o answer)

-- The call, which hands over so many values.
abbrev pub handed : (kind : Kind) → ℕ → CallFor kind → List ℕ → StoreFor kind → List ℕ → List ℕ → Handed (StoreFor kind)
handed kind values call tape store output answer = handed_over values (outcome kind call tape store output) store output answer
