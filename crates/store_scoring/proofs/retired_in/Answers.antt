-- `retired_in` meets its contract.
use Rattle.store_scoring.specs.ScoringLaws.{retired_slot}
use Rattle.store_scoring.proofs.retired_in.Goals as goal

pub returns : goal.returns
returns c = retired_slot c.args.slot
