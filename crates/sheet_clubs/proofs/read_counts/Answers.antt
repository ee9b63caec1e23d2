-- `read_counts` meets its contract.
use Rattle.sheet_clubs.proofs.read_counts.Goals as goal

pub returns : goal.returns
returns c = rw (← c.widen.ensures) c.read_counts.ensures
