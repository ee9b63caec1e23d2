-- `examine` meets its contract.
use Rattle.call_outcomes.proofs.FederationLaws.{federation_ready}
use Rattle.federation_store.proofs.examine.Goals as goal

pub examine-requires : goal.examine-requires
examine-requires c =
    rw c.capacity.ensures record { ready = federation_ready; work = c.requires.work; numbers = c.requires.numbers }

pub returns : goal.returns
returns c = rw c.capacity.ensures at c.examine.ensures
