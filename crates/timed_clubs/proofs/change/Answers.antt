-- `change` meets its contract.
use mathlib.Core.Path.{◌≡◌}
use Rattle.std.specs.Prelude.{Some}
use Rattle.call_outcomes.proofs.ClubsLaws.{clubs_ready}
use Rattle.call_open.specs.PassedLaws.{passed_on, some_of, none_of}
use Rattle.timed_answers.specs.ChangeLaws.{plain_ready, balance_ready, timed_made, timed_ended}
use Rattle.timed_clubs.proofs.change.Goals.{In_ok-made}
use Rattle.timed_clubs.proofs.change.Goals as goal

pub make-requires : goal.make-requires
make-requires c =
    record { sheet = plain_ready clubs_ready c.requires.sheet; same = c.requires.same }

-- What became of the change.
made : (c : In_ok-made) → c.make.result ≡ Some c.in_ok-made.made
made c = some_of _ _ c.ok_or.ensures.value c.in_ok-made.was

pub write_part-requires : goal.write_part-requires
write_part-requires c =
    balance_ready clubs_ready c.requires.sheet _ _ c.make.ensures.0 c.make.ensures.1 (made (goal.at.write_part-requires c).In_ok-made)

pub returns-in_err-made : goal.returns-in_err-made
returns-in_err-made c =
    let ended = none_of c.make.result _ c.ok_or.ensures.value c.in_err-made.was in
    rw (passed_on c.from_residual.ensures.1, ended.1) (timed_ended clubs_ready c.requires.sheet _ _ c.make.ensures.0 ended.0)

pub returns : goal.returns
returns c =
    timed_made clubs_ready c.requires.sheet _ _ c.make.ensures.0 c.make.ensures.1 (made (goal.at.returns c).In_ok-made) c.write_part.ensures
