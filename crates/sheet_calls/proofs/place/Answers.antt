-- `place` meets its contract.
use mathlib.Core.Path.{refl}
use Rattle.call_outcomes.specs.PlainCalls.{place_of}
use Rattle.call_outcomes.proofs.ClubsLaws.{clubs_ready}
use Rattle.sheet_answers.specs.QuestionLaws.{tallied, asked_outcome}
use Rattle.sheet_calls.proofs.place.Goals as goal

pub examine_numbers-opened-requires : goal.examine_numbers-opened-requires
examine_numbers-opened-requires c =
    record { work = refl; numbers = refl }

pub place-requires : goal.place-requires
place-requires c = tallied clubs_ready c.examine_numbers-opened.ensures

pub returns : goal.returns
returns c = asked_outcome clubs_ready c.examine_numbers-opened.ensures.opening (place_of _) _ _ _ _ c.place.ensures
