-- `is_tied` meets its contract, by the definition of the bit.
use mathlib.Core.Path.{refl}
use Rattle.store_ties.specs.Ties.{tie_bit}
use Rattle.store_ties.proofs.is_tied.Goals as goal

pub returns : goal.returns
unfolding tie_bit
returns c = refl
