-- The number of scoring entries adds up.
use Rattle.std.specs.Prelude.{refl}
use Rattle.store_scoring.specs.Scoring.{tally}
use Rattle.store_scoring.specs.ScoringLaws.{tally_append, tally_most}
use Rattle.store_sums.specs.Numbers.{Additive}

pub tally_additive : Additive tally
unfolding tally
tally_additive = record { empty = refl; joined = tally_append; few = tally_most }
