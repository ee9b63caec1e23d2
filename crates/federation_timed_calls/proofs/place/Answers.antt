-- `place` meets its contract.
use mathlib.Core.Path.{refl}
use Rattle.call_outcomes.specs.PlainCalls.{place_of}
use Rattle.call_outcomes.proofs.FederationLaws.{federation_ready}
use Rattle.timed_answers.specs.QuestionLaws.{tallied, asked_outcome}
use Rattle.federation_timed_calls.proofs.place.Goals as goal

pub examine-opened-requires : goal.examine-opened-requires
examine-opened-requires c =
    record { work = refl; numbers = refl }

pub place-requires : goal.place-requires
place-requires c = tallied federation_ready c.examine-opened.ensures

pub returns : goal.returns
returns c = asked_outcome federation_ready c.examine-opened.ensures.opening (place_of _) _ _ _ _ c.place.ensures
