-- `is_retired` meets its contract.
use mathlib.Core.Path.{refl}
use Rattle.store_scoring.specs.Scoring.{retired_bit}
use Rattle.store_scoring.proofs.is_retired.Goals as goal

pub returns : goal.returns
unfolding retired_bit
returns c = refl
