-- `key` meets its contract, by the definition of a key.
use mathlib.Core.Path.{refl}
use Rattle.store_keys.specs.Key.{key}
use Rattle.store_keys.proofs.key.Goals as goal

pub returns : goal.returns
unfolding key
returns c = refl
